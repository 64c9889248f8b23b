-- `probe_unsqueeze` meets its contract: a slice of two holds the pair (proofs/Both.antt). Assumes nothing.
use mathlib.Core.Path.{◌∙◌}
use borrow.Author.Rules.{rules}
use mir.Facts.{to_z-of_z}
use Rattle.arith32.proofs.Whole.{back32}
use Rattle.probe.specs.Probe.{unsqueezed}
use Rattle.probe.proofs.Both.{written}
use Rattle.probe.proofs.probe_unsqueeze.Goals as goal

pub returns : goal.returns
unfolding unsqueezed
returns c =
    let p = c.unsqueeze-first in
    let a = to_z-of_z c.ranges.avg in
    let r = to_z-of_z c.ranges.res in
    let n = to_z-of_z c.ranges.next in
    let v = to_z-of_z c.ranges.prev in
    written c.args.out.now c.if-out-ne2.false
    (back32 p.result.first (search rules) ∙ rw (a, r, n, v) at p.ensures.0)
    (back32 p.result.second (search rules) ∙ rw (a, r, n, v) at p.ensures.1)
