-- `record_of_numbers` meets its contract: the answer to questions 3 to 11, then 14, then what the record's writer gave (proofs/Outcomes.antt).
-- Assumes nothing.
use Rattle.std.proofs.Common.{rules, ◌≡◌, ◌∙◌, ap, refl}
use native.Mathlib.Omega.{arith}
use Rattle.numbers.specs.Numbers.{answer_of, number_of}
use Rattle.numbers.proofs.Refusals.{number_some}
use Rattle.plan.specs.declared.Form.{Form}
use Rattle.numbered.proofs.Outcomes.{numbers_refused, slices_refused, writing_refused, writing_done, length_room, length_few}
use Rattle.numbered.proofs.record_of_numbers.Goals as goal

pub returns-in_err-form : goal.returns-in_err-form
returns-in_err-form c =
    let a = c.args in
    let r = c.in_err-form.field-0.0 in
    let e : answer_of c.from_residual.result ≡ number_of r = search rules in
    let k = numbers_refused a.version a.channels.now a.steps.now a.«record».now a.length.now _ c.in_err-form.ensures.judged (number_some r) in
    (e ∙ k.0, k.1, k.2)

pub returns-then-not-whole-length : goal.returns-then-not-whole-length
returns-then-not-whole-length c =
    let a = c.args in
    slices_refused a.version a.channels.now a.steps.now a.«record».now a.length.now _ c.in_ok-form.ensures.judged refl (rw (c.is_empty.ensures, c.is_empty-2.ensures, c.as_chunks.ensures.back_len, c.as_chunks-2.ensures.back_len) at c.if-not-whole-length.true)

pub returns-in_err-written : goal.returns-in_err-written
returns-in_err-written c =
    let a = c.args in
    let f = c.in_ok-form.ensures in
    let w = rw (ap (λ (x : Form). x.version) f.form) at c.in_err-written.ensures in
    let r = c.in_err-written.field-0.0 in
    let e : answer_of c.from_residual-in_err-written.result ≡ number_of r = search rules in
    let k = writing_refused a.version a.channels.now a.steps.now a.«record».now a.length.now _ f.judged refl (rw (c.is_empty.ensures, c.is_empty-2.ensures, c.as_chunks.ensures.back_len, c.as_chunks-2.ensures.back_len) at c.if-not-whole-length.false)
    _ _ (ap (λ (x : Form). x.list) f.form) (ap (λ (x : Form). x.steps) f.form) _ _ w.0 w.1 (number_some r) in
    (e ∙ k.0, k.1, k.2)

pub overflow_cast-length : goal.overflow_cast-length
overflow_cast-length c =
    let a = c.args in
    let f = c.in_ok-form.ensures in
    let w = rw (ap (λ (x : Form). x.version) f.form) at c.in_ok-written.ensures in
    let few = length_few a.version a.channels.now a.steps.now a.«record».now a.length.now _ f.judged refl (rw (c.is_empty.ensures, c.is_empty-2.ensures, c.as_chunks.ensures.back_len, c.as_chunks-2.ensures.back_len) at c.if-not-whole-length.false)
    _ _ (ap (λ (x : Form). x.list) f.form) (ap (λ (x : Form). x.steps) f.form) _ _ w.0 w.1 refl in
    record { fits = omega (arith, few) }

pub bounds-length-0 : goal.bounds-length-0
bounds-length-0 c =
    let a = c.args in
    omega (arith, length_room a.channels.now a.steps.now a.length.now (rw (c.is_empty.ensures, c.is_empty-2.ensures, c.as_chunks.ensures.back_len, c.as_chunks-2.ensures.back_len) at c.if-not-whole-length.false))

pub returns : goal.returns
returns c =
    let a = c.args in
    let f = c.in_ok-form.ensures in
    let w = rw (ap (λ (x : Form). x.version) f.form) at c.in_ok-written.ensures in
    writing_done a.version a.channels.now a.steps.now a.«record».now a.length.now _ f.judged refl (rw (c.is_empty.ensures, c.is_empty-2.ensures, c.as_chunks.ensures.back_len, c.as_chunks-2.ensures.back_len) at c.if-not-whole-length.false)
    _ _ (ap (λ (x : Form). x.list) f.form) (ap (λ (x : Form). x.steps) f.form) _ _ w.0 w.1 refl
