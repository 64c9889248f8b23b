-- `read_form` meets its contract: the version's field, if there is one, and the fields after it (proofs/Outcomes.antt). Assumes nothing.
use Rattle.std.proofs.Common.{rules, Err, ◌≡◌}
use Rattle.numbers.specs.Numbers.{number_of}
use Rattle.numbers.proofs.Refusals.{number_some}
use Rattle.list.proofs.Asking.{yes}
use Rattle.record.specs.Records.{packed_form}
use Rattle.record.specs.Told.{record_told}
use Rattle.record.proofs.Outcomes.{form_refused}
use Rattle.record.proofs.read_form.Goals as goal

pub returns-in_err-judge_version : goal.returns-in_err-judge_version
unfolding packed_form
returns-in_err-judge_version c =
    let r = c.in_err-judge_version.field-0.0 in
    let e : record_told c.from_residual.result ≡ record_told (Err r) = search rules in
    form_refused _ (yes c.has_version_tag.ensures c.if-not-has_version_tag.false) (number_of r) c.in_err-judge_version.ensures _ (number_some r) e
