-- `step` meets its contract: no refusal lets the step be taken (proofs/Taken.antt). Assumes nothing.
use Rattle.std.proofs.Common.{rules, Err, ◌≡◌, ◌∙◌, sym}
use Rattle.list.specs.Lists.{channels}
use Rattle.list.specs.Questions.{judge_list, judge_step, step_answer, stepped_of}
use Rattle.list.proofs.Acceptance.{step_accepted}
use Rattle.list.proofs.Asking.{none_refused}
use Rattle.list.proofs.Taken.{taken_refused, taken_next}
use Rattle.numbers.proofs.Refusals.{number_some}
use Rattle.list.proofs.ChannelList.step.Goals as goal

pub returns-in_err-check_squeeze_params : goal.returns-in_err-check_squeeze_params
returns-in_err-check_squeeze_params c =
    let r = c.in_err-check_squeeze_params.field-0.0 in
    let l = c.args.self in
    let j = c.in_err-check_squeeze_params.ensures in
    let e : stepped_of l c.from_residual.result ≡ stepped_of l (Err r) = search rules in
    e ∙ (λ i. record { answer = j i; list = l }) ∙ sym (taken_refused c.args.step l (λ z. number_some r (j ∙ z)))

pub next_list-requires : goal.next_list-requires
unfolding step_answer
next_list-requires c =
    let l = c.args.self in
    let cs = channels l in
    step_accepted c.args.step cs (none_refused (judge_list l) (judge_step c.args.step cs) (sym c.in_ok-check_squeeze_params.ensures)).1

pub returns : goal.returns
returns c =
    let e = c.next_list.ensures in
    (λ i. record { answer = 0; list = e i }) ∙ sym (taken_next c.args.step c.args.self (sym c.in_ok-check_squeeze_params.ensures))
