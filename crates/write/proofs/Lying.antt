-- The samples at a place (`lying` of specs/Standing.antt) when a part of one slice was written: those at the place itself, and those of a place that
-- lies apart. Assumes nothing.
use mathlib.Core.Path.{◌≡◌, refl}
use mathlib.Core.Bool.{Bool}
use mathlib.Core.List.{List}
use Prim.Native.Nat.{◌+◌, ◌≤◌}
use native.Mathlib.Omega.{arith}
use lib.IntN.{ℤ}
use lib.ListN.{length}
use Rattle.places.specs.declared.Slot.{Slot}
use Rattle.places.specs.declared.Slot.TheVariants.{Unmade, Odd, Even}
use Rattle.places.specs.declared.Place.{Place}
use Rattle.places.specs.Places as Places
use Rattle.places.specs.Places.{area, bare}
use Rattle.places.specs.Laid.{Apart, part, written}
use Rattle.places.proofs.Parts.{part_own, part_other}
use Rattle.write.specs.Standing.{Alike, slice_of, lying, halves, Turned}
use Rattle.write.proofs.Putting.{halves_length}

-- a place whose part of either slice is as before
pub lying_same : (picture odds evens odds' evens' : List ℤ) (q : Place) → part q.home (area q) odds' ≡ part q.home (area q) odds
    → part q.home (area q) evens' ≡ part q.home (area q) evens → lying picture odds' evens' q ≡ lying picture odds evens q
unfolding lying
lying_same picture odds evens odds' evens' q a b = go q.slot
  where
    go : (s : Slot) → part q.home (area q) (slice_of picture odds' evens' s) ≡ part q.home (area q) (slice_of picture odds evens s)
    go Unmade = refl
    go Odd = a
    go Even = b

-- ---- a channel squeezed from where it stands to its home in the other slice
module _ (h : Bool) (p : Place) (picture odds evens : List ℤ) (alike : Alike picture odds evens) (inside : p.home + area p ≤ length picture) where
  abbrev filled : List ℤ → List ℤ → List ℤ
  filled from to = written p.home (halves h (bare p) (part p.home (area p) from)) to

  filled_own : (from to : List ℤ) → length to ≡ length picture → part p.home (area p) (filled from to) ≡ halves h (bare p) (part p.home (area p) from)
  filled_own from to e =
      let ys = halves h (bare p) (part p.home (area p) from) in
      let l = halves_length h p (part p.home (area p) from) in
      rw l at (part_own p.home ys to (omega arith))

  filled_other : (from to : List ℤ) → length to ≡ length picture → (q : Place) → q.home + area q ≤ length picture
      → Apart q.home (area q) p.home (area p) → part q.home (area q) (filled from to) ≡ part q.home (area q) to
  filled_other from to e q i a =
      let ys = halves h (bare p) (part p.home (area p) from) in
      let l = halves_length h p (part p.home (area p) from) in
      part_other q.home (area q) p.home ys to (omega arith) (omega arith) (rw l a)

  pub unmade_turned : (odds' : List ℤ) → p.slot ≡ Unmade → odds' ≡ filled picture odds → Turned h p picture odds evens odds' evens
  unfolding lying Places.turned
  unmade_turned odds' s e =
      let l = alike.odds_length in
      record {
        own = rw (s, e) (filled_own picture odds l);
        kept = λ q i a. lying_same picture odds evens odds' evens q (rw e (filled_other picture odds l q i a)) refl;
      }

  pub odd_turned : (evens' : List ℤ) → p.slot ≡ Odd → evens' ≡ filled odds evens → Turned h p picture odds evens odds evens'
  unfolding lying Places.turned
  odd_turned evens' s e =
      let l = alike.evens_length in
      record {
        own = rw (s, e) (filled_own odds evens l);
        kept = λ q i a. lying_same picture odds evens odds evens' q refl (rw e (filled_other odds evens l q i a));
      }

  pub even_turned : (odds' : List ℤ) → p.slot ≡ Even → odds' ≡ filled evens odds → Turned h p picture odds evens odds' evens
  unfolding lying Places.turned
  even_turned odds' s e =
      let l = alike.odds_length in
      record {
        own = rw (s, e) (filled_own evens odds l);
        kept = λ q i a. lying_same picture odds evens odds' evens q (rw e (filled_other evens odds l q i a)) refl;
      }
