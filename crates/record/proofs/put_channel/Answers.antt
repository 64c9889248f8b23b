-- `put_channel` meets its contract: the parts of the channel's field are put one after the other (proofs/Parts.antt). Assumes nothing.
use mathlib.Core.Path.{◌≡◌, sym}
use Rattle.record.specs.Sides.{head}
use Rattle.record.proofs.Parts.{head_of, channel_put}
use Rattle.record.proofs.put_channel.Goals as goal
use Rattle.record.proofs.put_channel.Goals.{then-strip, else-strip}

pub returns : goal.returns
returns c =
    let h : head c.if-strip.head.tag c.if-strip.head.size ≡ head_of c.is_strip-strip.result = elim c.if-strip.branch [
      | then-strip w ↦ rw (w.head-is, w.if-strip.true)
      | else-strip w ↦ rw (w.head-is, w.if-strip.false)
    ] in
    rw c.side_size-size.ensures
    (channel_put c.args.c c.is_strip-strip.result (sym c.is_strip-strip.ensures) c.args.out.now c.args.at c.requires c.put_bytes.new.out c.put_bytes-2.new.out c.put_bytes-3.new.out c.put_bytes-4.new.out
    (rw (← h, ← c.to_bytes.ensures) c.put_bytes.ensures)
    (rw (← c.side_size-size.ensures, ← c.to_le_bytes.ensures) c.put_bytes-2.ensures)
    (rw (← c.side_size-size.ensures, ← c.to_le_bytes-2.ensures) c.put_bytes-3.ensures)
    (rw (← c.side_size-size.ensures) c.put_bytes-4.ensures))
