-- `put_steps` meets its contract: each entry is the step of its index (proofs/Entries.antt). Assumes nothing.
use native.Mathlib.Omega.{arith}
use borrow.Author.Rules.{rules}
use Rattle.plan.specs.Steps.{step_at, steps}
use Rattle.plan.proofs.Answers.{steps_length}
use Rattle.record.proofs.Placed.{steps_all}
use Rattle.layout.proofs.Entries.{entries_all}
use Rattle.layout.proofs.Fronts as Fronts
use Rattle.layout.proofs.put_steps.Goals as goal

pub put_entries-requires-clause-room : goal.put_entries-requires-clause-room
put_entries-requires-clause-room c =
    let l = c.args.steps.now in
    omega (arith, c.len.ensures, c.requires, Fronts.steps_length (steps l), steps_length l)

pub returns : goal.returns
returns c =
    let l = c.args.steps.now in
    entries_all _ _ (step_at l) _ _ _ _ (steps_all l _ c.len.ensures) (λ k x h p. search rules) c.put_entries.ensures
