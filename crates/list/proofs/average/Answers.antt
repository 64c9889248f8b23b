-- `average` meets its contract. Assumes nothing.
use mathlib.Core.Path.{ap, ◌∙◌}
use Rattle.list.specs.Lists as Lists
use Rattle.list.specs.Lists.{halved}
use Rattle.list.proofs.Shifts.{sided_below, sided_found}
use Rattle.list.proofs.average.Goals as goal

pub raised-requires : goal.raised-requires
raised-requires c =
    sided_below (λ _. c.halved-half.result) c.args.horizontal c.args.c c.with_side.result c.with_side.ensures c.requires

pub returns : goal.returns
unfolding Lists.average
returns c =
    let a = c.args in
    c.raised.ensures
    ∙ ap (Lists.raised a.horizontal)
    (c.with_side.ensures ∙ sided_found halved a.horizontal a.c c.halved-half.result (c.halved-half.ensures ∙ ap halved c.side.ensures))
