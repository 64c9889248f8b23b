-- `no_mark` meets its contract: the plan's answer, and the slices' where the plan is accepted. Assumes nothing.
use Rattle.std.proofs.Common.{◌∙◌, sym, refl}
use borrow.Author.Tests.{eq-eqb, ne_eqb}
use Rattle.numbers.proofs.Refusals.{number_some}
use Rattle.plan.specs.Plans.{judge_plan}
use Rattle.plan.proofs.Judged.{plan_answer}
use Rattle.squeeze.proofs.whole_runs.no_mark.Goals as goal

pub returns-in-Ok : goal.returns-in-Ok
returns-in-Ok c =
    let f = c.args.form.now in
    let j = plan_answer f.version f.list f.steps _ c.in-Ok.ensures.reached in
    rw (eq-eqb (judge_plan f.version f.list f.steps) 0 (sym j)) refl

pub returns-in-Err : goal.returns-in-Err
returns-in-Err c =
    let f = c.args.form.now in
    let j = plan_answer f.version f.list f.steps _ c.in-Err.ensures.reached in
    rw (ne_eqb (judge_plan f.version f.list f.steps) 0 (λ z. number_some c.in-Err.refusal (j ∙ z))) j
