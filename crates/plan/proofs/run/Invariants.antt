-- `run` meets its contract: at each step the list reached and the steps left give the whole run (`Reached` of proofs/Reached.antt). Assumes nothing.
use Rattle.plan.proofs.Reached.{Reached}
use Rattle.plan.proofs.run.Given as goal

abbrev pub invariant-loop-k : goal.invariant-loop-k
invariant-loop-k l = Reached l.list l.steps l.now l.k
