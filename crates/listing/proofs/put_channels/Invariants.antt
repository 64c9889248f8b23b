-- `put_channels` meets its contract. The loop's invariant: the lines so far stand on the page (proofs/Puts.antt). Assumes nothing.
use Rattle.list.specs.Lists.{channel_at}
use Rattle.listing.specs.Text.{channel_line}
use Rattle.listing.proofs.Puts.{Lines}
use Rattle.listing.proofs.put_channels.Given as goal

abbrev pub invariant-loop-k : goal.invariant-loop-k
invariant-loop-k l = Lines channel_line (channel_at l.list) l.k-end l.initial.page.bytes l.page.bytes l.k
