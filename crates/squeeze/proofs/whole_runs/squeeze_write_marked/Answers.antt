-- `squeeze_write_marked` meets its contract: the record's form is refused, or there is no room for the mark, or the call below answers and tells the mark
-- (proofs/Ends.antt, WithMark.antt). Assumes nothing.
use Rattle.std.proofs.Common.{rules, ◌≡◌, ◌∙◌, refl}
use Rattle.numbers.specs.Numbers.{answer_of, number_of}
use Rattle.numbers.proofs.Refusals.{number_some}
use Rattle.squeeze.specs.Entry.{answer}
use Rattle.squeeze.proofs.Ends.{write_refused, write_with, write_told, without_room}
use Rattle.squeeze.proofs.WithMark.{refused_anyway, slice_kept, mark_kept, mark_stored}
use Rattle.squeeze.proofs.whole_runs.squeeze_write_marked.Goals as goal

pub returns-in_err-form : goal.returns-in_err-form
returns-in_err-form c =
    let a = c.args in
    let r = c.in_err-form.field-0.0 in
    let e : answer_of {A = Unit {0}} c.from_residual.result ≡ number_of r = search rules in
    let u = answer a.bytes.now a.picture.now a.pyramid.now a.work.now in
    let h = number_some r in
    let k = (write_refused a.bytes.now a.picture.now a.pyramid.now a.work.now r c.in_err-form.ensures (number_of r) refl).0 in
    let w = k ∙ refused_anyway u a.mark.now (λ z. h (k ∙ z)) in
    rw e
    (w, slice_kept u (number_of r) a.mark.now w h a.pyramid.now _, slice_kept u (number_of r) a.mark.now w h a.work.now _, mark_kept u (number_of r) a.mark.now w h _)

pub returns-then-mark-eq0 : goal.returns-then-mark-eq0
returns-then-mark-eq0 c =
    let a = c.args in
    let u = answer a.bytes.now a.picture.now a.pyramid.now a.work.now in
    let n = number_of c.no_mark.result in
    let h = number_some c.no_mark.result in
    let w = without_room a.bytes.now a.picture.now a.pyramid.now a.work.now _ c.in_ok-form.ensures refl n a.mark.now c.if-mark-eq0.true c.no_mark.ensures in
    (w, slice_kept u n a.mark.now w h a.pyramid.now _, slice_kept u n a.mark.now w h a.work.now _, mark_kept u n a.mark.now w h _)

pub returns-in_err-marked : goal.returns-in_err-marked
returns-in_err-marked c =
    let a = c.args in
    let r = c.in_err-marked.field-0.0 in
    let e : answer_of {A = Unit {0}} c.from_residual-in_err-marked.result ≡ number_of r = search rules in
    let d = c.in_err-marked.ensures in
    let u = answer a.bytes.now a.picture.now a.pyramid.now a.work.now in
    let k = write_with a.bytes.now a.picture.now a.pyramid.now a.work.now _ c.in_ok-form.ensures refl (number_of r) _ _ a.mark.now c.if-mark-eq0.false (d.0, d.1, d.2) in
    rw e (k.0, k.1, k.2, mark_kept u (number_of r) a.mark.now k.0 (number_some r) _)

pub returns : goal.returns
returns c =
    let a = c.args in
    let d = c.in_ok-marked.ensures in
    let u = answer a.bytes.now a.picture.now a.pyramid.now a.work.now in
    let k = write_with a.bytes.now a.picture.now a.pyramid.now a.work.now _ c.in_ok-form.ensures refl 0 _ _ a.mark.now c.if-mark-eq0.false (d.0, d.1, d.2) in
    let m = d.3 ∙ write_told a.bytes.now a.picture.now a.pyramid.now a.work.now _ c.in_ok-form.ensures refl 0 a.pyramid.now a.work.now d.0 in
    (k.0, k.1, k.2, rw m (mark_stored u a.mark.now k.0 c.if-mark-eq0.false _))
