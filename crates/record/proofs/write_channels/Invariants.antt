-- `write_channels` meets its contract. The loop's invariant: the fields so far are in the slice, and those that are left complete them
-- (proofs/Placed.antt). Assumes nothing.
use Prim.Native.Nat.{◌-◌}
use Rattle.list.specs.Lists.{channel_at, channels}
use Rattle.record.specs.Bytes.{channel_field, channel_fields}
use Rattle.record.proofs.Placed.{Putting}
use Rattle.record.proofs.write_channels.Given as goal

abbrev pub invariant-loop-k : goal.invariant-loop-k
invariant-loop-k l = Putting channel_field (channel_at l.list) l.k-end (channel_fields (channels l.list)) l.start l.initial.out l.out l.at l.k

abbrev pub decreases-loop-k : goal.decreases-loop-k
decreases-loop-k l = l.k-end - l.k
