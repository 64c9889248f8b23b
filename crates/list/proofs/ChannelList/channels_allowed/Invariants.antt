-- `channels_allowed` meets its contract: what is left of the list may follow the channel before it if and only if the whole list is allowed.
-- Assumes nothing.
use mathlib.Core.Path.{◌≡◌}
use Prim.Native.Nat.{◌-◌, ◌≤◌}
use Rattle.list.specs.Tables.{table}
use Rattle.list.specs.Lists.{channel_at, channels}
use Rattle.list.specs.Questions.{channels_allowed}
use Rattle.list.proofs.MetaFirst.{allowed_after}
use Rattle.list.proofs.ChannelList.channels_allowed.Given as goal

abbrev pub invariant-loop-k : goal.invariant-loop-k
invariant-loop-k l =
    (l.k ≤ l.count) × (allowed_after l.plain (table (channel_at l.self) l.k (l.count - l.k)) ≡ channels_allowed (channels l.self))

abbrev pub decreases-loop-k : goal.decreases-loop-k
decreases-loop-k l = l.count - l.k
