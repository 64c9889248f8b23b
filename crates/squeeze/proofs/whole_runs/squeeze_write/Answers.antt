-- `squeeze_write` meets its contract: the record's form is refused, or the call below answers (proofs/Ends.antt). Assumes nothing.
use Rattle.std.proofs.Common.{rules, ◌≡◌, refl}
use Rattle.numbers.specs.Numbers.{answer_of, number_of}
use Rattle.squeeze.proofs.Ends.{write_refused, write_done}
use Rattle.squeeze.proofs.whole_runs.squeeze_write.Goals as goal

pub returns-in_err-form : goal.returns-in_err-form
returns-in_err-form c = write_refused _ _ _ _ _ c.in_err-form.ensures _ (search rules)

pub returns-in_err-write : goal.returns-in_err-write
returns-in_err-write c =
    let r = c.in_err-write.field-0.0 in
    let e : answer_of {A = Unit {0}} c.from_residual-in_err-write.result ≡ number_of r = search rules in
    let d = c.in_err-write.ensures in
    rw e (write_done _ _ _ _ _ c.in_ok-form.ensures refl _ _ _ (d.0, d.1, d.2))

pub returns : goal.returns
returns c = let d = c.in_ok-write.ensures in write_done _ _ _ _ _ c.in_ok-form.ensures refl _ _ _ (d.0, d.1, d.2)
