-- `part_pairs` meets its contract. The loop's invariant: the ordinary pairs from i on, four for each turn, are made (`Ordinary` of the crate line). The
-- residuals of a turn are lanes of the part, and so of the rows. The measure is the turns that are left. Assumes nothing.
use mathlib.Core.Bool.{true}
use Prim.Native.Nat.{◌-◌, ◌*◌}
use Rattle.line.specs.Pairs.{inner, Ordinary}
use Rattle.line.specs.Squeezed.{squeeze_of}
use Rattle.eight_rows.specs.Lanes.{lane}
use Rattle.eight_rows.proofs.EightRows.part_pairs.Given as goal

abbrev pub invariant-loop-j : goal.invariant-loop-j
invariant-loop-j l =
    Ordinary (inner (squeeze_of true 8 l.self.squeezed)) (lane l.initial.before) (lane l.before) l.initial.out l.out l.i (4 * l.j)

abbrev pub decreases-loop-j : goal.decreases-loop-j
decreases-loop-j l = 2 - l.j
