-- `store_lanes` meets its contract: eight turns, each lane inside where the last one is (proofs/Strides.antt). Assumes nothing.
use mathlib.Core.Path.{◌≡◌}
use Prim.Native.Nat.{◌-◌, ◌≤◌}
use lib.ListN.{length}
use Rattle.eight_rows.specs.Lanes.{with_some}
use Rattle.eight_rows.proofs.lanes.store_lanes.Given as goal

abbrev pub invariant-loop-k : goal.invariant-loop-k
invariant-loop-k l = (l.s ≡ with_some l.initial.s l.at l.stride l.b l.k) × (length l.s ≡ length l.initial.s) × (l.k ≤ 8)

abbrev pub decreases-loop-k : goal.decreases-loop-k
decreases-loop-k l = 8 - l.k
