-- `write_record` meets its contract: the plan's answer, the record's length, then the version's field and the two rows of fields (proofs/Outcomes.antt).
-- Assumes nothing.
use Rattle.std.proofs.Common.{rules, Err, ◌≡◌, ◌∙◌, refl}
use Rattle.numbers.proofs.Refusals.{number_some}
use Rattle.plan.proofs.Judged.{plan_answer}
use Rattle.record.specs.Told.{written_told}
use Rattle.record.proofs.Outcomes.{write_refused, write_short}
use Rattle.record.proofs.write_record.Goals as goal

pub returns-in_err-rewrite : goal.returns-in_err-rewrite
returns-in_err-rewrite c =
    let r = c.in_err-rewrite.field-0.0 in
    let e : written_told c.from_residual.result ≡ written_told (Err r) = search rules in
    let k = write_refused _ _ _ _ (plan_answer _ _ _ _ c.in_err-rewrite.ensures) c.args.out.now (number_some r) in
    (e ∙ k.0, k.1)

pub returns-then-out-length : goal.returns-then-out-length
returns-then-out-length c =
    write_short _ _ _ _ (plan_answer _ _ _ _ c.in_ok-rewrite.ensures) refl _ _ _ _ c.version_size-first.ensures c.channels_size.ensures c.len.ensures c.if-out-length.true
