-- `meant_steps` meets its contract: each return has the answers to the questions before it (proofs/Answers.antt). Assumes nothing.
use Rattle.std.proofs.Common.{rules, Err, ◌≡◌, ◌∙◌, sym, refl}
use native.Mathlib.Omega.{arith}
use Rattle.numbers.proofs.Refusals.{number_some}
use Rattle.list.proofs.Acceptance.{list_accepted, allowed_both}
use Rattle.plan.specs.Plans.{planned_of}
use Rattle.plan.proofs.Turns.{stops}
use Rattle.plan.proofs.Answers.{form_accepted, meant_refused, meant_given, meant_none, meant_default}
use Rattle.plan.proofs.Form.meant_steps.Goals as goal

pub returns-in_err-judge-clause-value : goal.returns-in_err-judge-clause-value
returns-in_err-judge-clause-value c =
    let f = c.args.self.now in
    let r = c.in_err-judge.field-0.0 in
    let j = c.in_err-judge.ensures in
    let e : planned_of c.from_residual.result ≡ planned_of (Err r) = search rules in
    e ∙ meant_refused f.version f.list f.steps _ j _ (number_some r) refl

pub returns-then-self-ne0-clause-value : goal.returns-then-self-ne0-clause-value
returns-then-self-ne0-clause-value c =
    let f = c.args.self.now in
    meant_given f.version f.list f.steps _ c.in_ok-judge.ensures refl c.if-self-ne0.true

pub returns-then-self-ne0-clause-room : goal.returns-then-self-ne0-clause-room
returns-then-self-ne0-clause-room c =
    let f = c.args.self.now in
    (form_accepted f.version f.list f.steps (sym c.in_ok-judge.ensures)).1

pub returns-then-len-meta_count-clause-value : goal.returns-then-len-meta_count-clause-value
returns-then-len-meta_count-clause-value c =
    let f = c.args.self.now in
    meant_none f.version f.list f.steps _ c.in_ok-judge.ensures refl c.if-self-ne0.false _ _ c.meta_count.ensures (rw c.len.ensures at c.if-len-meta_count.true) refl

pub default_steps-requires : goal.default_steps-requires
default_steps-requires c =
    let f = c.args.self.now in
    let ok = (form_accepted f.version f.list f.steps (sym c.in_ok-judge.ensures)).0 in
    (rw c.of.ensures (stops f.version), omega (arith, c.meta_count.ensures, c.len.ensures, c.if-len-meta_count.false), (allowed_both _ (list_accepted _ ok).allowed).1)

pub returns-clause-value : goal.returns-clause-value
returns-clause-value c =
    let f = c.args.self.now in
    let d = c.default_steps.ensures in
    meant_default f.version f.list f.steps _ c.in_ok-judge.ensures refl c.if-self-ne0.false _ _ c.meta_count.ensures (rw c.len.ensures at c.if-len-meta_count.false) (rw c.of.ensures at d.value)
