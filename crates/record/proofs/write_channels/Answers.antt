-- `write_channels` meets its contract. The loop's invariant: the fields so far are in the slice, and those that are left complete them
-- (proofs/Placed.antt). Assumes nothing.
use mathlib.Core.Path.{ap}
use native.Mathlib.Omega.{arith}
use Rattle.list.specs.Lists.{channel_at}
use Rattle.list.proofs.Channels.{channels_all}
use Rattle.record.specs.Bytes.{joined, channel_field}
use Rattle.record.proofs.Placed.{putting_none, putting_room, putting_more}
use Rattle.record.proofs.write_channels.Goals as goal

pub loop-k-init : goal.loop-k-init
loop-k-init c =
    let l = c.args.list.now in
    putting_none channel_field (channel_at l) _ _ _ _ (omega (arith, c.requires)) (ap (joined channel_field) (channels_all l c.len-k-end.result c.len-k-end.ensures))

pub put_channel-at-requires : goal.put_channel-at-requires
put_channel-at-requires c =
    putting_room channel_field (channel_at c.args.list.now) _ _ c.args.start _ c.requires
    _ _ _ c.loop-k.invariant c.loop-k-test.true _ (ap channel_field c.channel.ensures)

pub loop-k-preserved : goal.loop-k-preserved
loop-k-preserved c =
    putting_more channel_field (channel_at c.args.list.now) _ _ c.args.start _ c.requires
    _ _ _ c.loop-k.invariant c.loop-k-test.true _ (ap channel_field c.channel.ensures) _ _ c.put_channel-at.ensures.1 c.put_channel-at.ensures.0
