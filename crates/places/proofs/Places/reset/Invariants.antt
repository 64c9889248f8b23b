-- `reset` meets its contract: the first k places are laid, the next starts at `at`, and those from k on stay. Assumes nothing.
use Rattle.places.proofs.Homes.{new_place, new_area, Laying}
use Rattle.places.proofs.Places.reset.Given as goal

abbrev pub invariant-loop-k : goal.invariant-loop-k
invariant-loop-k l = Laying (new_place l.list) (new_area l.list) l.count l.initial.self.places l.self.places l.at l.k
