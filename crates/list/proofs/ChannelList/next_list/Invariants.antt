-- `next_list` meets its contract: up to k it has the channels of the list that the step leaves and their origins, and zeros after them. Assumes
-- nothing.
use mathlib.Core.Path.{◌≡◌}
use Prim.Native.Nat.{◌-◌, ◌≤◌}
use Rattle.list.specs.Lists as Lists
use Rattle.list.specs.Lists.{max_channels, channels, stepped_origins}
use Rattle.list.proofs.Filled.{FillingList}
use Rattle.list.proofs.ChannelList.next_list.Given as goal

abbrev pub invariant-loop-k : goal.invariant-loop-k
invariant-loop-k v =
    (v.after ≤ max_channels) × (v.k ≤ v.after) × (v.next.count ≡ v.k)
    × FillingList (Lists.stepped v.step (channels v.self)) (stepped_origins v.step (Lists.origins v.self)) v.next

abbrev pub decreases-loop-k : goal.decreases-loop-k
decreases-loop-k l =
    l.after - l.k
