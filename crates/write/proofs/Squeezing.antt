-- The channels of a range squeezed one after the other (`Squeezed` of specs/Standing.antt): one more of them changes none of the others, since their
-- homes lie apart. Assumes nothing.
use mathlib.Core.Path.{◌≡◌, refl, sym, ap, ◌∙◌}
use mathlib.Core.Bool.{Bool, true, false, ◌||◌, ◌&&◌}
use mathlib.Core.List.{List}
use mathlib.Core.Logic.{⊎_swap}
use Prim.Native.Nat.{ℕ, suc, ◌+◌, ◌-◌, ◌<◌, ◌≤◌}
use native.Mathlib.Omega.{arith}
use borrow.Author.Tests.{ltb-true, ltb-false}
use lib.Dec.{ltb}
use lib.IntN.{ℤ}
use lib.ListN.{length}
use Rattle.std.proofs.Math.Bool.{and-false, and-or_distrib_left}
use Rattle.places.specs.declared.Place.{Place}
use Rattle.places.specs.Places.{bare}
use Rattle.write.specs.Standing.{lying, halves, other, place_marked, places_marked, Turned, Ranged, Squeezed}

module _ (h : Bool) (at : ℕ → Place) (from to : ℕ) (picture odds evens : List ℤ) where
  pub squeezed_none : Squeezed h at from from picture odds evens odds evens
  squeezed_none = record { own = λ k l m. absurd (omega arith); kept = λ q i a. refl }

  pub none_told : (marks : Bool) → false ≡ (marks && places_marked h at from (from - from) picture odds evens)
  none_told marks = let z : from - from ≡ 0 = omega arith in rw z (sym (and-false marks))

  module _ (r : Ranged (length picture) at from to) (k : ℕ) (l : from ≤ k) (m : k < to) (odds₁ evens₁ odds₂ evens₂ : List ℤ)
      (w : Squeezed h at from k picture odds evens odds₁ evens₁) (t : Turned h (at k) picture odds₁ evens₁ odds₂ evens₂) where
    -- the channel at k is what it was
    still : lying picture odds₁ evens₁ (at k) ≡ lying picture odds evens (at k)
    still = w.kept (at k) (r.inside k l m) (λ i a b. ⊎_swap (r.apart i k a b m))

    more_own : (j : ℕ) → from ≤ j → j < k + 1 → lying picture odds₂ evens₂ (other (at j)) ≡ halves h (bare (at j)) (lying picture odds evens (at j))
    more_own j a b = go (ltb j k) refl
      where
        go : (s : Bool) → ltb j k ≡ s → lying picture odds₂ evens₂ (other (at j)) ≡ halves h (bare (at j)) (lying picture odds evens (at j))
        go true e =
            let c = ltb-true j k e in
            t.kept (other (at j)) (r.inside j a (omega arith)) (r.apart j k a c m) ∙ w.own j a c
        go false e =
            let c = ltb-false j k e in
            let z : j ≡ k = omega arith in
            rw z (t.own ∙ ap (halves h (bare (at k))) still)

    pub squeezed_more : Squeezed h at from (k + 1) picture odds evens odds₂ evens₂
    squeezed_more =
        record {
          own = more_own;
          kept = λ q i a. t.kept q i (a k l (omega arith)) ∙ w.kept q i (λ j b c. a j b (omega arith));
        }

    -- and its mark beside those before it
    pub told_more : (marks told turn : Bool) → told ≡ (marks && places_marked h at from (k - from) picture odds evens)
        → turn ≡ (marks && place_marked h (at k) picture odds₁ evens₁) → (told || turn) ≡ (marks && places_marked h at from (k + 1 - from) picture odds evens)
    unfolding place_marked
    told_more marks told turn et eu =
        let e : k + 1 - from ≡ suc (k - from) = omega arith in
        let z : from + (k - from) ≡ k = omega arith in
        rw (e, z, et, eu, still)
        (sym (and-or_distrib_left marks (places_marked h at from (k - from) picture odds evens) (place_marked h (at k) picture odds evens)))
