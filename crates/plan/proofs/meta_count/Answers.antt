-- `meta_count` meets its contract: the leading meta channels are counted by the library (proofs/Leading.antt). Assumes nothing.
use Rattle.std.proofs.Common.{rules, tests, arith, ◌≡◌, ◌-◌}
use Rattle.std.proofs.lemmas.Iterator.{YieldsList-from_range}
use Rattle.std.proofs.lemmas.Iterator.Consumers.{count_from_yields_List}
use Rattle.std.proofs.lemmas.Iterator.Search.{YieldsList-from_take_while}
use Rattle.list.specs.Lists.{channel_at}
use Rattle.plan.proofs.Leading.{leading_counted}
use Rattle.channel.specs.Channel.{is_meta}
use Rattle.plan.specs.Default.{meta_count}
use Rattle.plan.proofs.meta_count.Goals as goal

pub returns : goal.returns
unfolding meta_count
returns c =
    let l = c.args.list.now in
    let m = c.len.result in
    let n : m - 0 ≡ m = omega arith in
    leading_counted l is_meta m _ c.len.ensures
    (count_from_yields_List c.take_while.result _ c.count.ensures.ran
    (YieldsList-from_take_while _ (λ k. is_meta (channel_at l k)) (YieldsList-from_range 0 m m c.take_while.ensures.source n) c.take_while.ensures.closure c.take_while.ensures.done
    (λ x b q k. search (rules, tests))))
