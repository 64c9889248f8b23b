-- `put_steps` meets its contract. The loop's invariant: the lines so far stand on the page (proofs/Puts.antt). Assumes nothing.
use Rattle.plan.specs.Steps.{step_at}
use Rattle.listing.specs.Text.{step_line}
use Rattle.listing.proofs.Puts.{Lines}
use Rattle.listing.proofs.put_steps.Given as goal

abbrev pub invariant-loop-k : goal.invariant-loop-k
invariant-loop-k l = Lines step_line (step_at l.steps) l.k-end l.initial.page.bytes l.page.bytes l.k
