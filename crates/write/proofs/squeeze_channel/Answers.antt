-- `squeeze_channel` meets its contract: its mark is that of the parts that it lends (proofs/Putting.antt). Assumes nothing.
use Rattle.write.proofs.Putting.{channel_told}
use Rattle.write.proofs.squeeze_channel.Goals as goal

pub returns-clause-told : goal.returns-clause-told
returns-clause-told g c =
    let a = c.args in
    let r = c.requires in
    channel_told a.place c.area.result c.area.ensures a.horizontal a.from.now a.to.now c.channel-channel.result c.side.result c.side-2.result
    c.channel-channel.ensures c.side.ensures c.side-2.ensures r.2 r.0 r.1 g.M.Marking.marks _ c.squeeze_lines.ensures.1
