-- `channel_back` meets its contract: the tile call is accepted and leaves the channel and its mark (proofs/OneTile.antt). Assumes nothing.
use mathlib.Core.Path.{ap, ◌∙◌}
use Rattle.rebuild.specs.Run.{sides_of}
use Rattle.rebuild.proofs.OneTile.{one_tile}
use Rattle.rebuild.proofs.Marks.{told_by}
use Rattle.rebuild.proofs.channel_back.Goals as goal

pub returns : goal.returns
returns g c =
    let a = c.args in
    let t =
    one_tile a.horizontal a.place a.avg.now a.res.now a.out.now c.requires _ _ _
    (c.sides-average.ensures ∙ ap sides_of c.average.ensures) (c.sides-residual.ensures ∙ ap sides_of c.residual.ensures) c.sides.ensures in
    let e = c.squeeze_tile-told.ensures in
    (e.1 ∙ t.0, told_by g.M.Marking.marks c.squeeze_tile-told.result c.unwrap_or.ensures e.2 t.1)
