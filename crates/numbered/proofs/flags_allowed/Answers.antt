-- `flags_allowed` meets its contract: the library's test of every step. Assumes nothing.
use Rattle.std.proofs.Common.{rules, tests, ◌∙◌}
use Rattle.std.proofs.lemmas.Iterator.{YieldsList-from_slice}
use Rattle.std.proofs.lemmas.Iterator.Search.{all_from_yields_List}
use lib.Dec.{leb}
use Rattle.numbered.specs.Numbered.{flags_at}
use Rattle.numbered.proofs.Chunks.{flags_listed}
use Rattle.numbered.proofs.flags_allowed.Goals as goal

pub returns : goal.returns
returns c =
    all_from_yields_List (λ g. leb (flags_at g 0) 3) _ _ _ c.all.ensures.ran (YieldsList-from_slice c.args.steps.now cc)
    (λ x b q k. search (rules, tests))
    ∙ flags_listed c.args.steps.now
