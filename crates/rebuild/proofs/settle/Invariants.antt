-- `settle` meets its contract: channel by channel (`Settling` of proofs/Settling.antt). Assumes nothing.
use Rattle.places.specs.Places.{places_in}
use Rattle.rebuild.proofs.Settling.{Settling}
use Rattle.rebuild.proofs.settle.Given as goal

abbrev pub invariant-loop-k : goal.invariant-loop-k
invariant-loop-k l = Settling (places_in l.places) l.sources l.pyramid l.initial.picture l.k l.picture
