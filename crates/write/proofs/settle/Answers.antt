-- `settle` meets its contract: one more channel at its start, and all of them at the end (proofs/Settling.antt). Assumes nothing.
use native.Mathlib.Omega.{arith}
use Rattle.places.specs.Places.{place_at}
use Rattle.write.proofs.Settling.{room, settling_more, settling_all}
use Rattle.write.proofs.settle.Goals as goal

pub settle_place-requires : goal.settle_place-requires
settle_place-requires c =
    let a = c.args in
    let k = c.loop-k.k in
    let alike = c.requires.0 in
    let w = rw (← c.len-k-end.ensures) at c.requires.1 in
    let i = w.inside k c.loop-k-test.true in
    let r = room a.picture.now a.pyramid.now a.work.now c.len-k-end.result (place_at a.places.now) a.starts.now w alike k c.loop-k-test.true in
    rw c.at.ensures (i, omega (arith, alike.evens_length), omega (arith, alike.odds_length, c.loop-k.auto.pyramid))

pub loop-k-preserved : goal.loop-k-preserved
loop-k-preserved c =
    let a = c.args in
    let l = c.loop-k in
    settling_more a.picture.now a.pyramid.now a.work.now c.len-k-end.result (place_at a.places.now) a.starts.now (rw (← c.len-k-end.ensures) at c.requires.1)
    c.requires.0 l.k c.loop-k-test.true l.pyramid _ l.invariant (rw c.at.ensures at c.settle_place.ensures)

pub returns : goal.returns
returns c =
    let a = c.args in
    let l = c.loop-k in
    rw (← c.len-k-end.ensures)
    (settling_all a.picture.now a.pyramid.now a.work.now c.len-k-end.result (place_at a.places.now) a.starts.now (rw (← c.len-k-end.ensures) at c.requires.1)
    c.requires.0 l.pyramid l.k (omega arith) l.invariant)
