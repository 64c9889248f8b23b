-- `all_channels` meets its contract: the test tells which of the two forms the steps have (proofs/Parts.antt). Assumes nothing.
use mathlib.Core.Bool.{true, false}
use mathlib.Core.Path.{ap, ◌∙◌}
use native.Mathlib.Omega.{arith}
use lib.ListN.{length}
use Rattle.plan.specs.Default.{step}
use Rattle.plan.proofs.Parts.{vertical_first, turns_alone}
use Rattle.plan.proofs.Appended.{added_room, counted, pushed_one, appended_after}
use Rattle.plan.proofs.all_channels.Goals as goal

-- where the picture is tall: the vertical step, then the turns
pub rounds-requires : goal.rounds-requires
rounds-requires c =
    let q = c.args in
    let o = q.others in
    let v = vertical_first q.stop o.begin o.number o.width o.height c.halved.result c.requires.0 c.if-w-h.true c.halved.ensures in
    let n = ap length v in
    let p = rw c.step.ensures at c.push.ensures ∙ added_room q.steps.now (step false true o.begin o.number) (omega (arith, n, c.requires.1)) in
    (c.requires.0, omega (arith, n, counted _ _ _ (pushed_one _ _ (step false true o.begin o.number) p), c.requires.1))

pub returns-then-w-h : goal.returns-then-w-h
returns-then-w-h c =
    let q = c.args in
    let o = q.others in
    let v = vertical_first q.stop o.begin o.number o.width o.height c.halved.result c.requires.0 c.if-w-h.true c.halved.ensures in
    let p = rw c.step.ensures at c.push.ensures ∙ added_room q.steps.now (step false true o.begin o.number) (omega (arith, ap length v, c.requires.1)) in
    rw v (appended_after _ _ _ _ _ (pushed_one _ _ (step false true o.begin o.number) p) c.rounds.ensures)

pub rounds-requires-else-w-h : goal.rounds-requires-else-w-h
rounds-requires-else-w-h c = (c.requires.0, rw (turns_alone _ _ _ _ _ c.if-w-h.false) at c.requires.1)

pub returns-else-w-h : goal.returns-else-w-h
returns-else-w-h c = rw (turns_alone _ _ _ _ _ c.if-w-h.false) c.rounds-else-w-h.ensures
