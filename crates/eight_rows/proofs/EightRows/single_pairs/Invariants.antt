-- `single_pairs` meets its contract. The loop's invariant: the ordinary pairs up to i are made (`Ordinary` of the crate line). A turn adds one
-- (`block_ordinary` of proofs/Blocks.antt). The measure is the pairs that are left. Assumes nothing.
use mathlib.Core.Path.{◌≡◌}
use mathlib.Core.Bool.{true}
use Prim.Native.Nat.{◌-◌, ◌≤◌}
use lib.ListN.{length}
use Rattle.line.specs.Pairs.{inner, Ordinary}
use Rattle.line.specs.Squeezed.{squeeze_of}
use Rattle.eight_rows.specs.Lanes.{lane}
use Rattle.eight_rows.proofs.EightRows.single_pairs.Given as goal

abbrev pub invariant-loop-i : goal.invariant-loop-i
invariant-loop-i l =
    Ordinary (inner (squeeze_of true 8 l.self.squeezed)) (lane l.initial.before) (lane l.before) l.initial.out l.out l.from (l.i - l.from)
    × (length l.before ≡ 8) × (l.from ≤ l.i) × (l.i ≤ l.to)

abbrev pub decreases-loop-i : goal.decreases-loop-i
decreases-loop-i l = l.to - l.i
