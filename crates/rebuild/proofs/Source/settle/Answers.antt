-- `settle` meets its contract: a part copied, or nothing. Assumes nothing.
use mathlib.Core.Path.{sym, ◌∙◌}
use Rattle.buffer.proofs.Overwritten.{copied_all}
use Rattle.places.specs.Laid.{part}
use Rattle.places.proofs.Parts.{part_length}
use Rattle.rebuild.proofs.Lent.{lent, back}
use Rattle.rebuild.proofs.Source.settle.Goals as goal

pub returns-in-Pyramid : goal.returns-in-Pyramid
returns-in-Pyramid c =
    let a = c.args in
    let s = c.in-Pyramid.start in
    let f = rw c.in-Pyramid.is at c.requires.0 in
    let xs = part_length s a.n a.pyramid.now f in
    let ys = part_length a.at a.n a.picture.now c.requires.1 in
    rw c.in-Pyramid.is
    (back a.at a.n _ (part s a.n a.pyramid.now) a.picture.now
    (c.copy.ensures ∙ rw (lent s a.n a.pyramid.now, lent a.at a.n a.picture.now) (copied_all (part s a.n a.pyramid.now) (part a.at a.n a.picture.now) (xs ∙ sym ys)))
    xs)
