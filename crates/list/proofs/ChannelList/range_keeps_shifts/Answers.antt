-- `range_keeps_shifts` meets its contract: the library's test of every index is the table's (proofs/Tables.antt). Assumes nothing.
use Rattle.std.proofs.Common.{rules, tests, refl, arith, ◌≡◌, ◌∙◌, ◌+◌, ◌-◌}
use Rattle.std.proofs.lemmas.Iterator.{YieldsList-from_range}
use Rattle.std.proofs.lemmas.Iterator.Search.{all_from_yields_List}
use Rattle.list.specs.Lists.{channel_at}
use Rattle.list.specs.Questions.{shifts_kept}
use Rattle.list.proofs.Tables.{all_ranged}
use Rattle.list.proofs.ChannelList.range_keeps_shifts.Goals as goal

pub returns : goal.returns
returns c =
    let s = c.args.step in
    let e : c.end.result ≡ s.begin + s.number = c.end.ensures in
    let n : c.end.result - s.begin ≡ s.number = omega arith in
    all_from_yields_List (λ k. shifts_kept c.args.step.horizontal (channel_at c.args.self.now k)) _ _ _ c.all.ensures.ran (YieldsList-from_range s.begin c.end.result s.number refl n)
    (λ x b q k. search (rules, tests))
    ∙ all_ranged (channel_at c.args.self.now) (shifts_kept c.args.step.horizontal) s.begin s.number
