-- `channels_fit` meets its contract: the library's test of every channel. Assumes nothing.
use Rattle.std.proofs.Common.{rules, tests, ◌∙◌}
use Rattle.std.proofs.lemmas.Iterator.{YieldsList-from_slice}
use Rattle.std.proofs.lemmas.Iterator.Search.{all_from_yields_List}
use Rattle.numbered.specs.Numbered.{channel_at}
use Rattle.numbered.specs.Arrays.{shifts_fit}
use Rattle.numbered.proofs.Chunks.{all_listed}
use Rattle.numbered.proofs.channels_fit.Goals as goal

pub returns : goal.returns
returns c =
    all_from_yields_List (λ g. shifts_fit (channel_at g 0)) _ _ _ c.all.ensures.ran (YieldsList-from_slice c.args.channels.now cc)
    (λ x b q k. search (rules, tests))
    ∙ all_listed shifts_fit (λ g. channel_at g 0) c.args.channels.now
