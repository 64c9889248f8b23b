-- `total` meets its contract: the sum so far and the samples of what is left are those of the list; where the next channel takes it past the limit,
-- so do all together. Assumes nothing.
use mathlib.Core.Path.{◌≡◌}
use Prim.Native.Nat.{◌+◌, ◌-◌, ◌≤◌}
use Rattle.numbers.specs.Numbers.{max_samples}
use Rattle.list.specs.Tables.{table}
use Rattle.list.specs.Lists as Lists
use Rattle.list.proofs.ChannelList.total.Given as goal

abbrev pub invariant-loop-k : goal.invariant-loop-k
invariant-loop-k l =
    (l.k ≤ l.count) × (l.sum ≤ max_samples) × (l.sum + Lists.total (table (Lists.channel_at l.self) l.k (l.count - l.k)) ≡ Lists.total (Lists.channels l.self))

abbrev pub decreases-loop-k : goal.decreases-loop-k
decreases-loop-k l = l.count - l.k
