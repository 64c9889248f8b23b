-- `settle` meets its contract: channel by channel (`Settling` of proofs/Settling.antt). Assumes nothing.
use mathlib.Core.Path.{ap}
use Prim.Native.Nat.{◌<◌}
use native.Mathlib.Omega.{arith}
use lib.ListN.{length}
use Rattle.places.specs.Places.{area, places_in}
use Rattle.places.specs.declared.Place.{Place}
use Rattle.places.proofs.Arrays.{places_length, places_at}
use Rattle.rebuild.proofs.Settling.{settling_none, settling_more, settling_all}
use Rattle.rebuild.proofs.settle.Goals as goal

pub loop-k-init : goal.loop-k-init
loop-k-init c = settling_none _ _ _ _ c.requires

pub settle-requires : goal.settle-requires
settle-requires c =
    let p = c.args.places.now in
    let f = c.requires in
    let n = places_length p in
    let k = c.loop-k.k in
    let h : k < length (places_in p) = omega (arith, c.len-k-end.ensures) in
    let e = ap area (places_at p k (omega arith)) in
    let eh = ap (λ (q : Place). q.home) (places_at p k (omega arith)) in
    (omega (arith, f.starts_in k h, e, c.area.ensures), omega (arith, f.laid.inside k h, e, eh, c.area.ensures, c.loop-k.invariant.long))

pub loop-k-preserved : goal.loop-k-preserved
loop-k-preserved c =
    let p = c.args.places.now in
    let n = places_length p in
    let k = c.loop-k.k in
    let h : k < length (places_in p) = omega (arith, c.len-k-end.ensures) in
    settling_more (places_in p) _ _ _ c.requires k h c.loop-k.picture c.loop-k.invariant _ (places_at p k (omega arith)) _ (rw c.area.ensures at c.settle.ensures)

pub returns : goal.returns
returns c = settling_all _ _ _ _ c.requires c.loop-k.k _ _ (omega arith) c.loop-k.invariant
