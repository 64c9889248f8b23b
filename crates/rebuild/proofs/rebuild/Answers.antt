-- `rebuild` meets its contract: each return has the answers to the questions before it, and the last has the run (proofs/Outcome.antt). Assumes nothing.
use Rattle.std.proofs.Common.{rules, ◌≡◌, false, ◌∙◌, sym, refl}
use Rattle.range.specs.Range.{mark_of}
use Rattle.numbers.specs.Numbers.{number_of, answer_of}
use Rattle.numbers.proofs.Refusals.{number_some}
use Rattle.plan.proofs.Judged.{plan_answer}
use Rattle.rebuild.proofs.Outcome.{run_fits, run_is, run_marked_is, ends_refused, ends_misfit, lengths, ends_done}
use Rattle.rebuild.proofs.rebuild.Goals as goal

pub returns-in_err-steps : goal.returns-in_err-steps
returns-in_err-steps g c =
    let a = c.args in
    let f = a.form.now in
    let r = c.in_err-steps.field-0.0 in
    let e : answer_of c.from_residual.result ≡ number_of r = search rules in
    let n : mark_of c.from_residual.result ≡ false = search rules in
    let ea = plan_answer f.version f.list f.steps _ c.in_err-steps.ensures.reached in
    let w = ends_refused f.version f.list f.steps a.pyramid.now a.picture.now a.work.now g.M.Marking.marks _ ea (number_some r) in
    (e ∙ w.0, w.1, w.2, n ∙ w.3)

pub returns-then-not-pyramid-total : goal.returns-then-not-pyramid-total
returns-then-not-pyramid-total g c =
    let a = c.args in
    let f = a.form.now in
    ends_misfit f.version f.list f.steps a.pyramid.now a.picture.now a.work.now g.M.Marking.marks _ (plan_answer f.version f.list f.steps _ c.in_ok-steps.ensures.reached) refl
    c.total-total.result c.total-total.ensures c.if-not-pyramid-total.true

pub run-outside-requires : goal.run-outside-requires
run-outside-requires g c =
    let a = c.args in
    let f = a.form.now in
    let p = c.in_ok-steps.ensures in
    let ea = plan_answer f.version f.list f.steps _ p.reached in
    let t = c.total-total in
    let n = lengths f.version f.list f.steps a.pyramid.now a.picture.now a.work.now g.M.Marking.marks _ ea refl t.result t.ensures c.if-not-pyramid-total.false in
    (run_fits f.version f.list f.steps (sym ea) _ p.meant p.room a.pyramid.now n.0, n.1 ∙ sym n.0, n.2 ∙ sym n.0)

pub returns : goal.returns
returns g c =
    let a = c.args in
    let f = a.form.now in
    let p = c.in_ok-steps.ensures in
    let ea = plan_answer f.version f.list f.steps _ p.reached in
    let t = c.total-total in
    let e = c.run-outside.ensures in
    ends_done f.version f.list f.steps a.pyramid.now a.picture.now a.work.now g.M.Marking.marks _ ea refl t.result t.ensures c.if-not-pyramid-total.false _ _ _
    (run_is f.version f.list f.steps (sym ea) _ p.meant p.room a.pyramid.now _ e.0) c.run-outside.auto.work c.clear.ensures _
    (run_marked_is f.version f.list f.steps (sym ea) _ p.meant p.room g.M.Marking.marks a.pyramid.now _ e.1)
