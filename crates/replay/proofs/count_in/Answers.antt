-- `count_in` meets its contract: the chunks are the whole cases (proofs/Chunks.antt), and `filter` keeps those that the test finds right. Assumes nothing.
use Rattle.std.proofs.Common.{◌∙◌, ◌<◌, arith, rules}
use Rattle.std.proofs.lemmas.List.Sums.{length-filter}
use Rattle.std.proofs.lemmas.Iterator.Consumers.{YieldsList-at, YieldsList-from_filter, count_from_yields_List}
use Rattle.replay.specs.Cases.{cases_of}
use Rattle.replay.proofs.Chunks.{YieldsList-from_chunks_exact}
use Rattle.replay.proofs.count_in.Goals as goal

pub returns-clause-told : goal.returns-clause-told
returns-clause-told g c =
    λ test agrees.
    let cases = c.chunks_exact-cases.ensures in
    let some : 0 < c.args.size = omega (arith, c.if-size-eq0.false) in
    count_from_yields_List c.filter.result _ c.count.ensures.ran
    (YieldsList-from_filter _ test
    (YieldsList-at c.filter.ensures.source (YieldsList-from_chunks_exact c.args.size some c.args.bytes.now cases.rest cases.size))
    c.filter.ensures.closure (λ x b q k. (search rules, agrees x.now b (search rules))))
    ∙ length-filter test (cases_of c.args.size c.args.bytes.now)
