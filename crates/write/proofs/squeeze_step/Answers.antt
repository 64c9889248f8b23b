-- `squeeze_step` meets its contract: one more channel of the range, and all of them at the end (proofs/Squeezing.antt). Assumes nothing.
use mathlib.Core.Path.{◌≡◌}
use Prim.Native.Nat.{◌+◌, ◌-◌}
use native.Mathlib.Omega.{arith}
use Rattle.places.specs.Places.{place_at}
use Rattle.write.proofs.Squeezing.{squeezed_none, none_told, squeezed_more, told_more}
use Rattle.write.proofs.squeeze_step.Goals as goal

pub loop-k-init : goal.loop-k-init
loop-k-init g c =
    let a = c.args in
    record {
      made = squeezed_none a.step.horizontal (place_at a.places.now) a.step.begin a.step.begin a.picture.now a.odd.now a.even.now;
      told = none_told a.step.horizontal (place_at a.places.now) a.step.begin a.step.begin a.picture.now a.odd.now a.even.now g.M.Marking.marks;
    }

pub loop-k-preserved : goal.loop-k-preserved
loop-k-preserved g c =
    let a = c.args in
    let l = c.loop-k in
    let put = rw c.at.ensures at c.squeeze_place-outside.ensures in
    record {
      made = squeezed_more a.step.horizontal (place_at a.places.now) a.step.begin (a.step.begin + a.step.number) a.picture.now a.odd.now a.even.now c.requires.1
          l.k (omega arith) (omega arith) l.odd l.even _ _ l.invariant.made put.turned;
      told = told_more a.step.horizontal (place_at a.places.now) a.step.begin (a.step.begin + a.step.number) a.picture.now a.odd.now a.even.now c.requires.1
          l.k (omega arith) (omega arith) l.odd l.even _ _ l.invariant.made put.turned g.M.Marking.marks l.outside _ l.invariant.told put.told;
    }

pub returns : goal.returns
returns g c =
    let s = c.args.step in
    let e : c.loop-k.k ≡ s.begin + s.number = omega arith in
    let n : s.begin + s.number - s.begin ≡ s.number = omega arith in
    record { made = rw e at c.loop-k.invariant.made; told = rw (e, n) at c.loop-k.invariant.told }
