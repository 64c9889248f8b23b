-- `squeeze_grid_rect` meets its contract: what `get_grid_rect` gives, refused or written (proofs/Rects.antt). Assumes nothing.
use Rattle.std.proofs.Common.{rules, ◌≡◌, ◌∙◌, refl}
use Rattle.numbers.specs.Numbers.{answer_of, number_of}
use Rattle.numbers.proofs.Refusals.{number_some}
use Rattle.squeeze.proofs.Rects.{rect_refused, rect_misfit, rect_done}
use Rattle.squeeze.proofs.tiles.squeeze_grid_rect.Goals as goal

pub returns-in_err-found : goal.returns-in_err-found
returns-in_err-found c =
    let a = c.args in
    let r = c.in_err-found.field-0.0 in
    let e : answer_of c.from_residual.result ≡ number_of r = search rules in
    let k = rect_refused _ _ _ _ _ _ _ c.in_err-found.ensures a.numbers.now (number_some r) in
    (e ∙ k.0, k.1)

pub returns-then-numbers-ne-RECT_NUMBERS : goal.returns-then-numbers-ne-RECT_NUMBERS
returns-then-numbers-ne-RECT_NUMBERS c =
    rect_misfit _ _ _ _ _ _ _ c.in_ok-found.ensures c.args.numbers.now refl c.if-numbers-ne-RECT_NUMBERS.true

pub returns : goal.returns
returns c =
    let k = rect_done _ _ _ _ _ _ _ c.in_ok-found.ensures c.args.numbers.now refl c.if-numbers-ne-RECT_NUMBERS.false in
    (k.0, search rules ∙ k.1)
