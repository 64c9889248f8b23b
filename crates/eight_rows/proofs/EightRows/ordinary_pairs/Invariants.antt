-- `ordinary_pairs` meets its contract. The loop's invariant: the ordinary pairs up to 8 * k are made (`Ordinary` of the crate line). A turn adds eight, and
-- those that are left come after it. The measure is the pairs that are left. Assumes nothing.
use mathlib.Core.Bool.{true}
use Prim.Native.Nat.{◌-◌, ◌*◌}
use Rattle.line.specs.Pairs.{inner, Ordinary}
use Rattle.line.specs.Squeezed.{squeeze_of}
use Rattle.eight_rows.specs.Lanes.{lane}
use Rattle.eight_rows.proofs.EightRows.ordinary_pairs.Given as goal

abbrev pub invariant-loop-k : goal.invariant-loop-k
invariant-loop-k l =
    Ordinary (inner (squeeze_of true 8 l.self.squeezed)) (lane l.initial.before) (lane l.before) l.initial.out l.out 0 (8 * l.k)

abbrev pub decreases-loop-k : goal.decreases-loop-k
decreases-loop-k l = l.k-end - l.k
