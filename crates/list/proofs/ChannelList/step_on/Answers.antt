-- `step_on` meets its contract: no refusal lets the step be taken (proofs/Taken.antt). Assumes nothing.
use Rattle.std.proofs.Common.{rules, Err, ◌≡◌, ◌∙◌, sym}
use Rattle.list.specs.Lists.{channels}
use Rattle.list.specs.Questions.{stepped_of}
use Rattle.list.proofs.Acceptance.{step_accepted}
use Rattle.list.proofs.Taken.{on_refused, on_taken}
use Rattle.numbers.proofs.Refusals.{number_some}
use Rattle.list.proofs.ChannelList.step_on.Goals as goal

pub returns-in_err-judge_step : goal.returns-in_err-judge_step
returns-in_err-judge_step c =
    let r = c.in_err-judge_step.field-0.0 in
    let l = c.args.self.now in
    let j = c.in_err-judge_step.ensures in
    let e : stepped_of l c.from_residual.result ≡ stepped_of l (Err r) = search rules in
    e ∙ (λ i. record { answer = j i; list = l }) ∙ sym (on_refused c.args.step l (λ z. number_some r (j ∙ z)))

pub next_list-requires : goal.next_list-requires
next_list-requires c = step_accepted c.args.step (channels c.args.self.now) (sym (c.in_ok-judge_step.ensures))

pub returns : goal.returns
returns c =
    let e = c.next_list.ensures in
    (λ i. record { answer = 0; list = e i }) ∙ sym (on_taken c.args.step c.args.self.now (sym (c.in_ok-judge_step.ensures)))
