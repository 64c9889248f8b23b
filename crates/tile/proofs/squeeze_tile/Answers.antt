-- `squeeze_tile` meets its contract: a refused call keeps its output and has no mark, an accepted one has the squeeze's (proofs/Fitted.antt).
-- Assumes nothing.
use Rattle.std.proofs.Common.{rules, ◌≡◌, ◌∙◌, Bool, false}
use Rattle.numbers.specs.Numbers.{number_of, answer_of}
use Rattle.numbers.proofs.Refusals.{number_some}
use Rattle.range.specs.Range.{mark_of}
use Rattle.tile.specs.Call.{squeeze_of}
use Rattle.tile.proofs.Fitted.{refused, accepted_made}
use Rattle.tile.proofs.squeeze_tile.Goals as goal

pub returns-in_err-judge_tile : goal.returns-in_err-judge_tile
returns-in_err-judge_tile g c =
    let r = c.in_err-judge_tile.field-0.0 in
    let e : answer_of {A = Bool} c.from_residual.result ≡ number_of r = search rules in
    let m : mark_of c.from_residual.result ≡ false = search rules in
    let w = refused _ g.M.Marking.marks (number_of r) (number_some r) c.in_err-judge_tile.ensures in
    (e ∙ w.0, w.1, m ∙ w.2)

pub returns : goal.returns
unfolding squeeze_of
returns g c = accepted_made _ g.M.Marking.marks _ _ c.in_ok-judge_tile.ensures c.unsqueeze.ensures.0 c.unsqueeze.ensures.1
