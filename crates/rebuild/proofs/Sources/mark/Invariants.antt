-- `mark` meets its contract: the entries up to k are marked. Assumes nothing.
use Rattle.rebuild.specs.Run.{Marked}
use Rattle.rebuild.proofs.Sources.mark.Given as goal

abbrev pub invariant-loop-k : goal.invariant-loop-k
invariant-loop-k l = Marked l.begin l.k l.places l.initial.self l.self
