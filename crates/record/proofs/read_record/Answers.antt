-- `read_record` meets its contract: the form's answer, then the plan's (proofs/Outcomes.antt). Assumes nothing.
use Rattle.std.proofs.Common.{rules, Err, ◌≡◌, refl}
use Rattle.numbers.proofs.Refusals.{number_some}
use Rattle.plan.proofs.Judged.{plan_answer}
use Rattle.record.specs.Records.{packed_form}
use Rattle.record.specs.Told.{record_told}
use Rattle.record.proofs.Outcomes.{read_refused_plan}
use Rattle.record.proofs.read_record.Goals as goal

pub returns-in_err-rewrite : goal.returns-in_err-rewrite
unfolding packed_form
returns-in_err-rewrite c =
    let r = c.in_err-rewrite.field-0.0 in
    let e : record_told c.from_residual-in_err-rewrite.result ≡ record_told (Err r) = search rules in
    read_refused_plan _ _ c.in_ok-read.ensures refl _ (plan_answer _ _ _ _ c.in_err-rewrite.ensures) _ (number_some r) e
