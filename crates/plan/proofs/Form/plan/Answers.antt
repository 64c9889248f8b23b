-- `plan` meets its contract: where steps are meant, questions 3 to 5 were passed, which the run asks for. Assumes nothing.
use mathlib.Core.Path.{sym}
use Rattle.plan.proofs.Answers.{form_accepted, meaning_accepted, meaning_answer}
use Rattle.plan.proofs.Form.plan.Goals as goal

pub run-requires : goal.run-requires
run-requires c =
    let f = c.args.self.now in
    let ok = sym (meaning_answer f.version f.list f.steps _ c.in_ok-steps.ensures.value) in
    (form_accepted f.version f.list f.steps (meaning_accepted f.version f.list f.steps ok).0).0
