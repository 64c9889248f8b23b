-- `unsqueeze_fitting` meets its contract: the averages copied where there is no pair, else the rows by eights and the rest of them put together
-- (proofs/Bands.antt), and what was seen of them (proofs/Marks.antt). Assumes nothing.
use mathlib.Core.Path.{◌≡◌, sym, ◌∙◌}
use mathlib.Core.Bool.{true}
use Prim.Native.Nat.{◌+◌, ◌*◌}
use native.Mathlib.Omega.{arith}
use native.Mathlib.Nat.{mul-le-mul_right}
use lib.ListN.{length}
use Rattle.buffer.proofs.Overwritten.{copied_all}
use Rattle.line.specs.Uncut.{uncut}
use Rattle.line.specs.Squeezed.{squeeze_of}
use Rattle.line.proofs.Outputs.{uncut_length}
use Rattle.line.proofs.Pairs.{averages_are_all}
use Rattle.line.proofs.IntoMarks.{unpaired_marked}
use Rattle.rows.proofs.Bands.{patch_both}
use Rattle.rows.proofs.Marks.{rows_seen}
use Rattle.rows.proofs.unsqueeze_fitting.Goals as goal

pub returns-then-s-eq0 : goal.returns-then-s-eq0
returns-then-s-eq0 g c =
    let a = c.args in
    let s = squeeze_of true a.lines a.s.now in
    let f = c.requires.0 in
    let none = c.if-s-eq0.true in
    let z : s.averages + s.residuals ≡ s.averages = omega (arith, none) in
    let alike : length a.s.now.avg.now ≡ length a.out.now = f.avg_length ∙ sym (rw z at c.requires.2) in
    (c.copy.ensures ∙ copied_all a.s.now.avg.now a.out.now alike ∙ averages_are_all f none, unpaired_marked g.M.Marking.marks s f none c.some_outside.ensures)

pub returns : goal.returns
returns g c =
    let m = g.M.Marking.marks in
    let eights = c.rows_by_eight-done in
    let s = squeeze_of true c.args.lines c.args.s.now in
    let out = c.args.out.now in
    let size = s.averages + s.residuals in (
      rw (c.rows_singly.ensures.0, eights.ensures.2)
          (patch_both (uncut s) out (eights.result.0 * size) (rw (uncut_length s) (mul-le-mul_right size eights.ensures.0))),
      rows_seen m s eights.result.0 c.requires.0 eights.ensures.0 eights.ensures.3 c.rows_singly.ensures.1,
    )
