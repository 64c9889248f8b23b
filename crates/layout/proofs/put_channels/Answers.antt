-- `put_channels` meets its contract: each entry is the channel of its index (proofs/Entries.antt). Assumes nothing.
use native.Mathlib.Omega.{arith}
use borrow.Author.Rules.{rules}
use Rattle.list.specs.Lists.{channel_at, channels}
use Rattle.list.proofs.Channels.{channels_length, channels_all}
use Rattle.layout.proofs.Entries.{entries_all}
use Rattle.layout.proofs.Fronts as Fronts
use Rattle.layout.proofs.put_channels.Goals as goal

pub put_entries-requires-clause-room : goal.put_entries-requires-clause-room
put_entries-requires-clause-room c =
    let l = c.args.list.now in
    omega (arith, c.len.ensures, c.requires, Fronts.channels_length (channels l), channels_length l)

pub returns : goal.returns
returns c =
    let l = c.args.list.now in
    entries_all _ _ (channel_at l) _ _ _ _ (channels_all l _ c.len.ensures) (λ k x h p. search rules) c.put_entries.ensures
