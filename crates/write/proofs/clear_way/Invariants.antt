-- `clear_way` meets its contract. The loop's invariant: the first k channels have moved or stand at their start (`Moving` of proofs/Moving.antt).
-- Assumes nothing.
use lib.ListN.{get_or}
use Rattle.places.specs.Places.{place_at}
use Rattle.write.proofs.Moving.{Moving}
use Rattle.write.proofs.clear_way.Given as goal

abbrev pub invariant-loop-k : goal.invariant-loop-k
invariant-loop-k l =
    Moving l.k-end (place_at l.places) (λ j. get_or l.starts j 0) l.pyramid l.initial.work l.work l.k
