-- `probe_squeeze` meets its contract: a slice of two holds average and residual (proofs/Both.antt). Assumes nothing.
use mathlib.Core.Path.{◌∙◌}
use borrow.Author.Rules.{rules}
use mir.Facts.{to_z-of_z}
use Rattle.arith32.proofs.Whole.{back32}
use Rattle.pair.specs.Pair as Pair
use Rattle.probe.specs.Probe.{squeezed}
use Rattle.probe.proofs.Both.{written}
use Rattle.probe.proofs.probe_squeeze.Goals as goal

pub returns : goal.returns
unfolding squeezed Pair.residual
returns c =
    let s = c.squeeze-s in
    let x = to_z-of_z c.ranges.first in
    let y = to_z-of_z c.ranges.second in
    let ea = rw (x, y) at s.ensures.2 in
    let ed = rw (x, y) at s.ensures.3 in
    written c.args.out.now c.if-out-ne2.false
    (back32 s.result.average (search rules) ∙ ea)
    (back32 c.residual-residual.result.residual (search rules)
    ∙ rw (ea, ed, to_z-of_z c.ranges.next, to_z-of_z c.ranges.prev) at c.residual-residual.ensures.0)
