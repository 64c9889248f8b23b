-- `starts` meets its contract: the first k starts are laid, and the next is `at`. Assumes nothing.
use Rattle.places.specs.Places.{area, place_at}
use Rattle.places.proofs.Homes.{start_at, Laying}
use Rattle.places.proofs.Places.starts.Given as goal

abbrev pub invariant-loop-k : goal.invariant-loop-k
invariant-loop-k l = Laying start_at (λ k. area (place_at l.self k)) l.count l.initial.starts l.starts l.at l.k
