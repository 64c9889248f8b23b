-- `read_fields` meets its contract. The loop's invariant: the arrays hold the channels and steps read so far, and the fields that are left complete
-- the form (proofs/Held.antt). The measure is the number of bytes left. Assumes nothing.
use Rattle.std.proofs.Common.{rules, Err, ◌≡◌, ◌∙◌, sym, ap, refl, length, arith}
use borrow.Author.Tests.{eqb-true, eqb-false}
use Rattle.numbers.specs.Numbers.{number_of}
use Rattle.numbers.proofs.Refusals.{number_some}
use Rattle.list.proofs.Asking.{no, yes}
use Rattle.record.specs.Records.{packed_form}
use Rattle.record.specs.Told.{record_told}
use Rattle.record.proofs.Heads.{channel_held}
use Rattle.record.proofs.Held.{few, form_refused, form_missing, form_all}
use Rattle.record.proofs.read_fields.Goals as goal

pub returns-in_err-field : goal.returns-in_err-field
unfolding packed_form
returns-in_err-field c =
    let r = c.in_err-field.field-0.0 in
    let e : record_told c.from_residual.result ≡ record_told (Err r) = search rules in
    let n = eqb-false _ 0 (no c.is_empty.ensures c.loop-rest-test.true) in
    e ∙ ap packed_form (sym (form_refused _ _ _ _ _ _ c.loop-rest.invariant n (number_of r) c.in_err-field.ensures.judged (number_some r)))

pub overflow_cast-k : goal.overflow_cast-k
overflow_cast-k c =
    let n : length c.loop-rest.rest.now ≡ 0 → ⊥ = eqb-false _ 0 (no c.is_empty.ensures c.loop-rest-test.true) in
    let f = channel_held _ _ c.in_ok-field.ensures.field _ c.in-Channel.is in
    omega (arith, few _ _ _ _ _ _ c.loop-rest.invariant n 0 c.in_ok-field.ensures.judged refl _ c.in_ok-field.ensures.rest f.0)

pub returns-then-list-eq0 : goal.returns-then-list-eq0
unfolding packed_form
returns-then-list-eq0 c =
    let z = eqb-true _ 0 (yes c.is_empty.ensures c.loop-rest-test.false) in
    ap packed_form (sym (form_missing _ _ _ _ _ _ c.loop-rest.invariant z c.if-list-eq0.true))

pub returns : goal.returns
returns c =
    let z = eqb-true _ 0 (yes c.is_empty.ensures c.loop-rest-test.false) in
    form_all _ _ _ _ _ _ c.loop-rest.invariant z c.if-list-eq0.false
