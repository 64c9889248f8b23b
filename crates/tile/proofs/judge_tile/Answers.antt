-- `judge_tile` meets its contract: one return for each question in its order (proofs/Fitted.antt).
-- Assumes nothing.
use Rattle.tile.specs.Call.{slices_fit}
use Rattle.tile.proofs.Fitted.{areas_refused, sizes_refused, slices_refused, none_refused}
use Rattle.tile.proofs.judge_tile.Goals as goal

pub returns-then-not-area_allowed : goal.returns-then-not-area_allowed
returns-then-not-area_allowed c =
    areas_refused _ c.area_allowed.ensures c.area_allowed-2.ensures c.area_allowed-3.ensures c.if-not-area_allowed.true

pub returns-then-not-sides_fit-outer_fits : goal.returns-then-not-sides_fit-outer_fits
returns-then-not-sides_fit-outer_fits c =
    sizes_refused _ c.area_allowed.ensures c.area_allowed-2.ensures c.area_allowed-3.ensures c.if-not-area_allowed.false
    c.across-crossing.ensures c.sides_fit.ensures c.outer_fits.ensures c.outer_fits-2.ensures c.if-not-sides_fit-outer_fits.true

pub returns-then-not-avg-avgs : goal.returns-then-not-avg-avgs
unfolding slices_fit
returns-then-not-avg-avgs c =
    slices_refused _ c.area_allowed.ensures c.area_allowed-2.ensures c.area_allowed-3.ensures c.if-not-area_allowed.false
    c.across-crossing.ensures c.sides_fit.ensures c.outer_fits.ensures c.outer_fits-2.ensures c.if-not-sides_fit-outer_fits.false
    c.if-not-avg-avgs.true

pub returns : goal.returns
unfolding slices_fit
returns c =
    none_refused _ c.area_allowed.ensures c.area_allowed-2.ensures c.area_allowed-3.ensures c.if-not-area_allowed.false
    c.across-crossing.ensures c.sides_fit.ensures c.outer_fits.ensures c.outer_fits-2.ensures c.if-not-sides_fit-outer_fits.false
    c.if-not-avg-avgs.false
