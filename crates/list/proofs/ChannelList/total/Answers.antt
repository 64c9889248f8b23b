-- `total` meets its contract: the sum so far and the samples of what is left are those of the list; where the next channel takes it past the limit,
-- so do all together. Assumes nothing.
use mathlib.Core.Path.{◌∙◌}
use native.Mathlib.Omega.{arith}
use Rattle.list.specs.Lists as Lists
use Rattle.list.specs.Questions.{counted_total}
use Rattle.list.proofs.Tables.{table_none}
use Rattle.list.proofs.Channels.{channels_all}
use Rattle.list.proofs.Totals.{total_next}
use Rattle.list.proofs.ChannelList.total.Goals as goal

pub loop-k-init : goal.loop-k-init
loop-k-init c = (omega arith, omega arith, rw (channels_all c.args.self.now c.len-count.result c.len-count.ensures) (omega arith))

pub returns-then-sum-more : goal.returns-then-sum-more
unfolding counted_total
returns-then-sum-more c =
    let n = total_next (Lists.channel_at c.args.self.now) c.loop-k.k _ c.loop-k.sum c.samples-more.result c.channel.result
    c.loop-k-test.true c.channel.ensures c.samples-more.ensures ∙ c.loop-k.invariant.2 in
    omega (arith, n, c.if-sum-more.true, c.loop-k.invariant.1)

pub loop-k-preserved : goal.loop-k-preserved
loop-k-preserved c =
    let n = total_next (Lists.channel_at c.args.self.now) c.loop-k.k _ c.loop-k.sum c.samples-more.result c.channel.result
    c.loop-k-test.true c.channel.ensures c.samples-more.ensures ∙ c.loop-k.invariant.2 in
    (omega (arith, c.loop-k-test.true), omega (arith, c.if-sum-more.false, c.loop-k.invariant.1), n)

pub returns : goal.returns
unfolding counted_total
returns c =
    let e = table_none (Lists.channel_at c.args.self.now) c.loop-k.k c.len-count.result c.loop-k-test.false in
    let s = rw e at c.loop-k.invariant.2 in
    omega (arith, c.loop-k.invariant.1)
