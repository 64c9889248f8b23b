-- `layout_of` meets its contract: the record's refusal, the slices', or the rows of its layout over them (proofs/Read.antt, proofs/Outcomes.antt). Assumes
-- nothing.
use Rattle.std.proofs.Common.{rules, ◌≡◌, ◌∙◌, refl, sym, ap}
use Rattle.numbers.specs.Numbers.{answer_of, number_of}
use Rattle.numbers.proofs.Refusals.{number_some}
use Rattle.list.specs.Lists.{channels, origins}
use Rattle.plan.specs.Steps as S
use Rattle.record.proofs.Reached.{form_refused, plan_judged, read_accepted, coarse_accepted, coarse_is}
use Rattle.layout.specs.Layout.{Rows, rows, rows_of, all_over}
use Rattle.layout.proofs.Outcomes.{all_over_lem, room_is, refused, short, done}
use Rattle.layout.proofs.Read.{rows_are, fit_is}
use Rattle.layout.proofs.layout_of.Goals as goal

pub returns-in_err-form : goal.returns-in_err-form
returns-in_err-form c =
    let r = c.in_err-form.field-0.0 in
    let e : answer_of c.from_residual.result ≡ number_of r = search rules in
    let k = refused c.args.bytes.now _ _ (form_refused c.args.bytes.now _ c.in_err-form.ensures (number_some r)) (number_some r) in
    (e ∙ k.0, k.1)

pub returns-in_err-plan : goal.returns-in_err-plan
returns-in_err-plan c =
    let r = c.in_err-plan.field-0.0 in
    let e : answer_of c.from_residual-in_err-plan.result ≡ number_of r = search rules in
    let k = refused c.args.bytes.now _ _ (plan_judged c.args.bytes.now _ c.in_ok-form.ensures refl _ c.in_err-plan.ensures.reached) (number_some r) in
    (e ∙ k.0, k.1)

pub returns-in_err-coarse : goal.returns-in_err-coarse
returns-in_err-coarse c =
    absurd (number_some c.in_err-coarse.field-0.0 (coarse_accepted c.args.bytes.now _ c.in_ok-form.ensures refl _ c.in_ok-plan.ensures.reached refl _ c.in_err-coarse.ensures))

pub returns-then-not-room : goal.returns-then-not-room
returns-then-not-room c =
    let a = c.args in
    let f = c.in_ok-form.ensures in
    let p = c.in_ok-plan.ensures in
    let out = rows a.counts.now a.steps.now a.channels.now a.origins.now in
    let fit = fit_is a.bytes.now _ f refl _ p.reached refl _ p.meant p.room _ _ c.len.ensures c.len-count.ensures out in
    short a.bytes.now out (read_accepted a.bytes.now _ f refl _ p.reached refl) (sym fit ∙ c.if-not-room.true)

pub put_layout-requires : goal.put_layout-requires
put_layout-requires c =
    let a = c.args in
    let form = c.in_ok-form.form in
    let plan = c.in_ok-plan.plan in
    let room = room_is form.version plan.steps plan.reached _ _ c.len.ensures c.len-count.ensures (rows a.counts.now a.steps.now a.channels.now a.origins.now) in
    (coarse_is a.bytes.now _ c.in_ok-form.ensures refl _ c.in_ok-plan.ensures.reached refl _ c.in_ok-coarse.ensures, sym room ∙ c.if-not-room.false)

pub returns : goal.returns
returns c =
    let a = c.args in
    let f = c.in_ok-form.ensures in
    let form = c.in_ok-form.form in
    let p = c.in_ok-plan.ensures in
    let plan = c.in_ok-plan.plan in
    let out = rows a.counts.now a.steps.now a.channels.now a.origins.now in
    let fit = fit_is a.bytes.now _ f refl _ p.reached refl _ p.meant p.room _ _ c.len.ensures c.len-count.ensures out in
    let here = rows_are a.bytes.now _ f refl _ p.reached refl _ p.meant p.room in
    let found = rows_of form.version (S.steps plan.steps) (channels plan.reached) (origins plan.reached) in
    done a.bytes.now out (read_accepted a.bytes.now _ f refl _ p.reached refl) (sym fit ∙ c.if-not-room.false) _
    (all_over_lem found out _ _ _ _ c.put_layout.ensures ∙ ap (λ (x : Rows). all_over x out) here)
