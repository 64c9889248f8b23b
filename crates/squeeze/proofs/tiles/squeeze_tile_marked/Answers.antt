-- `squeeze_tile_marked` meets its contract: the tile's questions, or the room for the mark, refuse it, or the tile's call answers and tells the mark
-- (proofs/WithMark.antt). Assumes nothing.
use Rattle.std.proofs.Common.{rules, ◌≡◌, ◌∙◌}
use Rattle.numbers.specs.Numbers.{answer_of, number_of}
use Rattle.numbers.specs.declared.Refusal.TheVariants.{Length}
use Rattle.numbers.proofs.Refusals.{number_some}
use Rattle.tile.specs.Call.{after}
use Rattle.squeeze.proofs.WithMark.{refused_anyway, with_room, no_room_left, slice_kept, slice_same, mark_kept, mark_stored}
use Rattle.squeeze.proofs.tiles.squeeze_tile_marked.Goals as goal

pub returns-in_err-judge_tile : goal.returns-in_err-judge_tile
returns-in_err-judge_tile c =
    let a = c.args in
    let r = c.in_err-judge_tile.field-0.0 in
    let e : answer_of {A = Unit {0}} c.from_residual.result ≡ number_of r = search rules in
    let h = number_some r in
    let k = c.in_err-judge_tile.ensures in
    let w = k ∙ refused_anyway _ a.mark.now (λ z. h (k ∙ z)) in
    rw e (w, slice_kept _ (number_of r) a.mark.now w h a.out.now _, mark_kept _ (number_of r) a.mark.now w h _)

pub returns-then-mark-eq0 : goal.returns-then-mark-eq0
returns-then-mark-eq0 c =
    let a = c.args in
    let w = no_room_left _ a.mark.now c.if-mark-eq0.true c.in_ok-judge_tile.ensures in
    (w, slice_kept _ _ a.mark.now w (number_some Length) a.out.now _, mark_kept _ _ a.mark.now w (number_some Length) _)

pub returns-in_err-marked : goal.returns-in_err-marked
unfolding after
returns-in_err-marked c =
    let a = c.args in
    let r = c.in_err-marked.field-0.0 in
    let e : answer_of {A = Unit {0}} c.from_residual-in_err-marked.result ≡ number_of r = search rules in
    let d = c.in_err-marked.ensures in
    let k = d.0 ∙ with_room _ a.mark.now c.if-mark-eq0.false in
    rw e (k, d.1 ∙ slice_same _ a.mark.now (with_room _ a.mark.now c.if-mark-eq0.false) _ a.out.now, mark_kept _ (number_of r) a.mark.now k (number_some r) _)

pub returns : goal.returns
unfolding after
returns c =
    let a = c.args in
    let d = c.in_ok-marked.ensures in
    let m = with_room _ a.mark.now c.if-mark-eq0.false in
    (d.0 ∙ m, d.1 ∙ slice_same _ a.mark.now m _ a.out.now, rw d.2 (mark_stored _ a.mark.now (d.0 ∙ m) c.if-mark-eq0.false _))
