-- `residual` meets its contract. Assumes nothing.
use mathlib.Core.Path.{◌≡◌, ap, ◌∙◌}
use Prim.Native.Nat.{◌-◌}
use Rattle.list.specs.Lists as Lists
use Rattle.list.specs.Lists.{rest}
use Rattle.list.proofs.Shifts.{sided_below, sided_found}
use Rattle.list.proofs.residual.Goals as goal

pub raised-requires : goal.raised-requires
raised-requires c =
    sided_below (λ _. c.side-side.result - c.halved.result) c.args.horizontal c.args.c c.with_side.result c.with_side.ensures c.requires

pub returns : goal.returns
unfolding Lists.residual
returns c =
    let h = c.halved in
    let a = c.args in
    let e : c.side-side.result - h.result ≡ rest c.side-side.result = ap (λ n. c.side-side.result - n) h.ensures in
    c.raised.ensures
    ∙ ap (Lists.raised a.horizontal)
    (c.with_side.ensures ∙ sided_found rest a.horizontal a.c (c.side-side.result - h.result) (e ∙ ap rest c.side-side.ensures))
