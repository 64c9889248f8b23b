-- `store_lanes` meets its contract: eight turns, each lane inside where the last one is (proofs/Strides.antt). Assumes nothing.
use mathlib.Core.Path.{◌≡◌}
use native.Mathlib.Omega.{arith}
use Rattle.eight_rows.specs.Lanes.{with_lanes}
use Rattle.eight_rows.proofs.lanes.store_lanes.Goals as goal

pub returns : goal.returns
unfolding with_lanes
returns c =
    let e : c.loop-k.k ≡ 8 = omega arith in
    rw e at c.loop-k.invariant.0
