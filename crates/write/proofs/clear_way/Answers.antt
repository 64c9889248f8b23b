-- `clear_way` meets its contract: one more channel (proofs/Moving.antt). Assumes nothing.
use lib.ListN.{get_or}
use Rattle.places.specs.Places.{place_at}
use Rattle.write.proofs.Moving.{moving_more}
use Rattle.write.proofs.clear_way.Goals as goal

pub loop-k-preserved : goal.loop-k-preserved
loop-k-preserved c =
    let a = c.args in
    let l = c.loop-k in
    moving_more c.len-k-end.result (place_at a.places.now) (λ j. get_or a.starts.now j 0) a.pyramid.now a.work.now (rw (← c.len-k-end.ensures) at c.requires.1)
    l.k c.loop-k-test.true l.work _ l.invariant (rw c.at.ensures at c.clear_place.ensures)
