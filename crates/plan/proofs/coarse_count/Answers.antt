-- `coarse_count` meets its contract: it judges the version, and the leading coarse channels are counted by the library (proofs/Leading.antt). Assumes
-- nothing.
use Rattle.std.proofs.Common.{rules, tests, arith, ◌≡◌, ◌-◌}
use Rattle.std.proofs.lemmas.Iterator.{YieldsList-from_range}
use Rattle.std.proofs.lemmas.Iterator.Consumers.{count_from_yields_List}
use Rattle.std.proofs.lemmas.Iterator.Search.{YieldsList-from_take_while}
use Rattle.list.specs.Lists.{channel_at}
use Rattle.plan.proofs.Leading.{leading_counted}
use Rattle.plan.specs.Coarse.{is_coarse, coarse_count, coarse_of}
use Rattle.plan.proofs.coarse_count.Goals as goal

pub returns-then-not-is_version : goal.returns-then-not-is_version
unfolding coarse_of
returns-then-not-is_version c = let e = c.if-not-is_version.true in rw (← c.is_version.ensures, e)

pub returns : goal.returns
unfolding coarse_of coarse_count
returns c =
    let l = c.args.list.now in
    let m = c.len.result in
    let stop = c.of-stop.result.stop in
    let n : m - 0 ≡ m = omega arith in
    let counted = leading_counted l (is_coarse stop) m _ c.len.ensures
    (count_from_yields_List c.take_while.result _ c.count-count.ensures.ran
    (YieldsList-from_take_while _ (λ k. is_coarse stop (channel_at l k)) (YieldsList-from_range 0 m m c.take_while.ensures.source n) c.take_while.ensures.closure c.take_while.ensures.done
    (λ x b q k. search (rules, tests)))) in
    rw (← c.is_version.ensures, c.if-not-is_version.false, counted, c.of-stop.ensures)
