-- `put_record` meets its contract: the record's refusal, or the lines of the steps that are meant and of the list that they leave (crate record,
-- proofs/Reached.antt). Assumes nothing.
use Rattle.std.proofs.Common.{rules, ◌≡◌, ◌∙◌, refl, sym}
use mathlib.Core.Path.{ap}
use native.Mathlib.Omega.{arith}
use lib.ListN.{length}
use Rattle.numbers.specs.Numbers.{answer_of, number_of}
use Rattle.numbers.proofs.Refusals.{number_some}
use Rattle.record.proofs.Reached.{form_refused, plan_judged, read_accepted, channels_are, coarse_accepted, coarse_is}
use Rattle.plan.specs.Version.{rule_of}
use Rattle.listing.proofs.Outcomes.{coarse_within}
use Rattle.listing.proofs.Read.{lines_are}
use Rattle.listing.proofs.Room.{reached_sides, listing_room_lem}
use Rattle.listing.proofs.put_record.Goals as goal

pub returns-in_err-form-clause-judged : goal.returns-in_err-form-clause-judged
returns-in_err-form-clause-judged c =
    let r = c.in_err-form.field-0.0 in
    let e : answer_of c.from_residual.result ≡ number_of r = search rules in
    e ∙ form_refused c.args.bytes.now _ c.in_err-form.ensures (number_some r)

pub returns-in_err-plan-clause-judged : goal.returns-in_err-plan-clause-judged
returns-in_err-plan-clause-judged c =
    let r = c.in_err-plan.field-0.0 in
    let e : answer_of c.from_residual-in_err-plan.result ≡ number_of r = search rules in
    e ∙ plan_judged c.args.bytes.now _ c.in_ok-form.ensures refl _ c.in_err-plan.ensures.reached

pub returns-in_err-coarse-clause-judged : goal.returns-in_err-coarse-clause-judged
returns-in_err-coarse-clause-judged c =
    absurd (number_some c.in_err-coarse.field-0.0 (coarse_accepted c.args.bytes.now _ c.in_ok-form.ensures refl _ c.in_ok-plan.ensures.reached refl _ c.in_err-coarse.ensures))

pub put_plan-requires : goal.put_plan-requires
put_plan-requires c =
    let bytes = c.args.bytes.now in
    let f = c.in_ok-form.ensures in
    let p = c.in_ok-plan.ensures in
    let read = read_accepted bytes _ f refl _ p.reached refl in
    let fit = rw (← (channels_are bytes _ f refl _ p.reached refl)) at (reached_sides bytes read) in
    let coarse = coarse_is bytes _ f refl _ p.reached refl _ c.in_ok-coarse.ensures in
    let e = lines_are bytes _ f refl _ p.reached refl _ p.meant p.room _ c.in_ok-coarse.ensures in
    (fit, omega (arith, coarse, coarse_within (rule_of c.in_ok-form.form.version).stop c.in_ok-plan.plan.reached), omega (arith, ap length e, ap length c.requires, listing_room_lem bytes read))

pub returns-clause-judged : goal.returns-clause-judged
returns-clause-judged c = sym (read_accepted c.args.bytes.now _ c.in_ok-form.ensures refl _ c.in_ok-plan.ensures.reached refl)

pub returns-clause-put : goal.returns-clause-put
returns-clause-put c =
    let p = c.in_ok-plan.ensures in
    c.put_plan.ensures ∙ rw c.requires (lines_are c.args.bytes.now _ c.in_ok-form.ensures refl _ p.reached refl _ p.meant p.room _ c.in_ok-coarse.ensures)
