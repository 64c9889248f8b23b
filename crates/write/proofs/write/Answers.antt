-- `write` meets its contract: each return has the answers to the questions before it (proofs/Answered.antt). Assumes nothing.
use Rattle.std.proofs.Common.{rules}
use mathlib.Core.Path.{◌≡◌, refl}
use mathlib.Core.Bool.{false}
use Rattle.numbers.specs.Numbers.{answer_of, number_of}
use Rattle.range.specs.Range.{mark_of}
use Rattle.numbers.proofs.Refusals.{number_some}
use Rattle.plan.proofs.Judged.{plan_answer}
use Rattle.write.proofs.Answered.{plan_refused, slices_refused, run_asks, accepted}
use Rattle.write.proofs.write.Goals as goal

pub returns-in_err-steps : goal.returns-in_err-steps
returns-in_err-steps g c =
    let a = c.args in
    let f = a.form.now in
    let r = c.in_err-steps.field-0.0 in
    let e : answer_of c.from_residual.result ≡ number_of r = search rules in
    let m : mark_of c.from_residual.result ≡ false = search rules in
    rw (e, m)
    (plan_refused f.version f.list f.steps a.picture.now a.pyramid.now a.work.now g.M.Marking.marks _ (plan_answer f.version f.list f.steps _ c.in_err-steps.ensures.reached) (number_some r))

pub returns-then-not-picture-total : goal.returns-then-not-picture-total
returns-then-not-picture-total g c =
    let a = c.args in
    let f = a.form.now in
    let ea = plan_answer f.version f.list f.steps _ c.in_ok-steps.ensures.reached in
    slices_refused f.version f.list f.steps a.picture.now a.pyramid.now a.work.now g.M.Marking.marks _ ea refl _ c.total-total.ensures c.if-not-picture-total.true

pub run-outside-requires : goal.run-outside-requires
run-outside-requires g c =
    let a = c.args in
    let f = a.form.now in
    let p = c.in_ok-steps.ensures in
    run_asks f.version f.list f.steps a.picture.now a.pyramid.now a.work.now g.M.Marking.marks _ (plan_answer f.version f.list f.steps _ p.reached) refl _ c.total-total.ensures
    c.if-not-picture-total.false _ p.meant p.room

pub returns : goal.returns
returns g c =
    let a = c.args in
    let f = a.form.now in
    let p = c.in_ok-steps.ensures in
    accepted f.version f.list f.steps a.picture.now a.pyramid.now a.work.now g.M.Marking.marks _ (plan_answer f.version f.list f.steps _ p.reached) refl _ c.total-total.ensures
    c.if-not-picture-total.false _ p.meant p.room _ _ _ _ c.run-outside.ensures.made c.run-outside.auto.work c.clear.ensures c.run-outside.ensures.told
