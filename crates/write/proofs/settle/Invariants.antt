-- `settle` meets its contract. The loop's invariant: the first k channels stand at their start, and behind them the pyramid is as it was (`Settling` of
-- proofs/Settling.antt). Assumes nothing.
use Rattle.places.specs.Places.{place_at}
use Rattle.write.proofs.Settling.{Settling}
use Rattle.write.proofs.settle.Given as goal

abbrev pub invariant-loop-k : goal.invariant-loop-k
invariant-loop-k l =
    Settling l.picture l.initial.pyramid l.work l.k-end (place_at l.places) l.starts l.pyramid l.k
