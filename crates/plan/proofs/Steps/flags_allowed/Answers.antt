-- `flags_allowed` meets its contract: the library's test of every index (proofs/Flags.antt). Assumes nothing.
use Rattle.std.proofs.Common.{rules, tests, refl, arith, ◌≡◌, ◌∙◌, ◌-◌, leb, get_or}
use Rattle.std.proofs.lemmas.Iterator.{YieldsList-from_range}
use Rattle.std.proofs.lemmas.Iterator.Search.{all_from_yields_List}
use Rattle.plan.proofs.Flags.{flags_ranged}
use Rattle.plan.proofs.Steps.flags_allowed.Goals as goal

pub returns : goal.returns
returns c =
    let s = c.args.self.now in
    let m = c.len.result in
    let n : m - 0 ≡ m = omega arith in
    all_from_yields_List (λ k. leb (get_or s.flags k 0) 3) _ _ _ c.all.ensures.ran (YieldsList-from_range 0 m m refl n)
    (λ x b q k. search (rules, tests))
    ∙ flags_ranged s m c.len.ensures
