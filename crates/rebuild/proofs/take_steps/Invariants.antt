-- `take_steps` meets its contract: step by step. Assumes nothing.
use mathlib.Core.Path.{◌≡◌}
use Rattle.list.specs.Lists.{channels}
use Rattle.places.specs.Places.{places_in, places_from}
use Rattle.rebuild.specs.Run.{places_all, first_steps}
use Rattle.rebuild.proofs.take_steps.Given as goal

abbrev pub invariant-loop-k : goal.invariant-loop-k
invariant-loop-k l = places_in l.places ≡ places_all (first_steps l.steps l.k) (places_from 0 (channels l.list))
