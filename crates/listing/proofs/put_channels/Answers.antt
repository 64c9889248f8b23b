-- `put_channels` meets its contract. The loop's invariant: the lines so far stand on the page (proofs/Puts.antt). Assumes nothing.
use mathlib.Core.Path.{ap}
use Rattle.list.specs.Lists.{channel_at}
use Rattle.record.specs.Bytes.{joined}
use Rattle.listing.specs.Text.{channel_line}
use Rattle.listing.proofs.Puts.{lines_more, line_fits, lines_all}
use Rattle.listing.proofs.Held.{channels_are, channel_fits}
use Rattle.listing.proofs.put_channels.Goals as goal

pub put_channel-requires : goal.put_channel-requires
put_channel-requires c =
    let l = c.args.list.now in
    let e = ap channel_line c.channel.ensures in
    let all = rw (← channels_are l _ c.len-k-end.ensures) at c.requires.1 in
    let room = line_fits channel_line (channel_at l) _ _ _ _ c.loop-k.invariant c.loop-k-test.true all in
    let fit = channel_fits l _ c.len-k-end.ensures c.requires.0 _ c.loop-k-test.true in
    (rw (← c.channel.ensures) at fit, rw (← e) at room)

pub loop-k-preserved : goal.loop-k-preserved
loop-k-preserved c =
    let l = c.args.list.now in
    let e = ap channel_line c.channel.ensures in
    lines_more channel_line (channel_at l) _ _ _ _ c.loop-k.invariant c.loop-k-test.true _ (rw e at c.put_channel.ensures)

pub returns : goal.returns
returns c =
    let l = c.args.list.now in
    let all = lines_all channel_line (channel_at l) _ _ _ _ c.loop-k.invariant c.loop-k-test.false in
    rw (ap (joined channel_line) (channels_are l _ c.len-k-end.ensures)) at all
