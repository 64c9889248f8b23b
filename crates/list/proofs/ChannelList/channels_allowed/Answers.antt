-- `channels_allowed` meets its contract: what is left of the list may follow the channel before it if and only if the whole list is allowed.
-- Assumes nothing.
use mathlib.Core.Path.{ap, ◌∙◌}
use mathlib.Core.Bool.{false}
use native.Mathlib.Omega.{arith}
use Rattle.list.specs.Lists.{channel_at}
use Rattle.list.specs.Questions.{channels_allowed}
use Rattle.list.proofs.Channels.{channels_all}
use Rattle.list.proofs.MetaFirst.{allowed_after, allowed_next}
use Rattle.list.proofs.ChannelList.channels_allowed.Goals as goal

pub loop-k-init : goal.loop-k-init
unfolding channels_allowed
loop-k-init c = (omega arith, ap (allowed_after false) (channels_all _ c.len-count.result c.len-count.ensures))

pub loop-k-preserved : goal.loop-k-preserved
loop-k-preserved c =
    let h = c.loop-k-test.true in (
      omega arith,
      allowed_next (channel_at c.args.self.now) c.loop-k.k _ c.loop-k.plain c.is_allowed.result c.is_meta-meta.result c.channel-c.result
          h c.channel-c.ensures c.is_allowed.ensures c.is_meta-meta.ensures c.if-is_allowed-plain.false
          ∙ c.loop-k.invariant.1,
    )
