-- What stands in the pyramid, but not at its start, moved to its home in the work slice (`Moved` of specs/Settled.antt), channel by channel: the work
-- slice and the pyramid then hold what is to be settled. Assumes nothing.
use mathlib.Core.Path.{◌≡◌, refl, ◌∙◌}
use mathlib.Core.Bool.{Bool, true, false, cond, ◌&&◌, not, and-eq-true_iff}
use mathlib.Core.List.{List}
use mathlib.Core.Logic.{⊎_swap}
use denote.Enum.Bare.{sameb}
use Prim.Native.Nat.{ℕ, ◌+◌, ◌<◌, ◌≤◌}
use native.Mathlib.Omega.{arith}
use borrow.Author.Tests.{eqb-true, ltb-true, ltb-false, not-true}
use lib.Dec.{eqb, ltb}
use lib.IntN.{ℤ}
use lib.ListN.{length}
use Rattle.places.specs.contracts.Slot.{the_type}
use Rattle.places.specs.declared.Slot.{Slot}
use Rattle.places.specs.declared.Slot.TheVariants.{Unmade, Odd, Even}
use Rattle.places.specs.declared.Place.{Place}
use Rattle.places.specs.Places.{area, is_unmade, is_odd}
use Rattle.places.specs.Laid.{part, written}
use Rattle.places.proofs.Parts.{part_length, part_own, part_other}
use Rattle.write.specs.Standing as Standing
use Rattle.write.specs.Standing.{slice_of, lying, Ranged}
use Rattle.write.specs.Settled as Settled
use Rattle.write.specs.Settled.{settling, Moved}
use Rattle.write.proofs.Lying.{lying_same}

-- ---- slots
pub odd_tested : (s : Slot) → sameb the_type s Odd ≡ is_odd s
odd_tested Unmade = refl
odd_tested Odd = refl
odd_tested Even = refl

odd_is : (s : Slot) → is_odd s ≡ true → s ≡ Odd
odd_is Unmade e = cc
odd_is Odd e = refl
odd_is Even e = cc

-- ---- one channel
module _ (start : ℕ) (p : Place) (pyramid work : List ℤ) where
  -- it moves
  module _ (work' : List ℤ) (l : length work ≡ length pyramid) (i : p.home + area p ≤ length pyramid) (t : is_odd p.slot && not (eqb p.home start) ≡ true)
      (e : work' ≡ written p.home (part p.home (area p) pyramid) work) where
    moved_own : part p.home (area p) work' ≡ part p.home (area p) pyramid
    moved_own =
        let n = part_length p.home (area p) pyramid i in
        rw e (rw n at (part_own p.home (part p.home (area p) pyramid) work (omega arith)))

    settling_own : (picture : List ℤ) → settling picture pyramid work' start p ≡ lying picture pyramid work p
    unfolding Settled.settling Standing.lying
    settling_own picture =
        let b = (and-eq-true_iff (is_odd p.slot) (not (eqb p.home start))).0 t in
        rw (odd_is p.slot b.0, not-true (eqb p.home start) b.1) moved_own

    pub moved : Moved start p pyramid work work'
    moved =
        record {
          own = settling_own;
          kept = λ q j a.
              let n = part_length p.home (area p) pyramid i in
              rw e (part_other q.home (area q) p.home (part p.home (area p) pyramid) work (omega arith) (omega arith) (rw n a));
        }

  -- it stays
  pub unmoved : is_odd p.slot && not (eqb p.home start) ≡ false → Moved start p pyramid work work
  unfolding Settled.settling Standing.lying
  unmoved t = record { own = λ picture. go picture p.slot (eqb p.home start) refl t; kept = λ q j a. refl }
    where
      go : (picture : List ℤ) (s : Slot) (b : Bool) → eqb p.home start ≡ b → is_odd s && not b ≡ false
          → cond (is_unmade s) (part p.home (area p) picture) (cond (is_odd s && b) (part start (area p) pyramid) (part p.home (area p) work))
          ≡ part p.home (area p) (slice_of picture pyramid work s)
      go picture Unmade b e f = refl
      go picture Odd true e f = rw (eqb-true p.home start e)
      go picture Odd false e f = cc
      go picture Even b e f = refl

-- ---- the channels of a list, the first k of them done
pub record Moving (count : ℕ) (at : ℕ → Place) (start : ℕ → ℕ) (pyramid first work : List ℤ) (k : ℕ) : Type 0 where
  pub done : (picture : List ℤ) (j : ℕ) → j < k → settling picture pyramid work (start j) (at j) ≡ lying picture pyramid first (at j)
  pub left : (j : ℕ) → k ≤ j → j < count → part (at j).home (area (at j)) work ≡ part (at j).home (area (at j)) first

-- settling goes by the place's part of the work slice
settling_same : (picture pyramid work work' : List ℤ) (start : ℕ) (p : Place) → part p.home (area p) work' ≡ part p.home (area p) work
    → settling picture pyramid work' start p ≡ settling picture pyramid work start p
unfolding Settled.settling
settling_same picture pyramid work work' start p e = rw e

module _ (count : ℕ) (at : ℕ → Place) (start : ℕ → ℕ) (pyramid first : List ℤ) where
  pub moving_none : Moving count at start pyramid first first 0
  moving_none = record { done = λ picture j h. absurd (omega arith); left = λ j l h. refl }

  module _ (r : Ranged (length pyramid) at 0 count) (k : ℕ) (h : k < count) (work work' : List ℤ) (w : Moving count at start pyramid first work k)
      (m : Moved (start k) (at k) pyramid work work') where
    more_done : (picture : List ℤ) (j : ℕ) → j < k + 1 → settling picture pyramid work' (start j) (at j) ≡ lying picture pyramid first (at j)
    more_done picture j l = go (ltb j k) refl
      where
        go : (s : Bool) → ltb j k ≡ s → settling picture pyramid work' (start j) (at j) ≡ lying picture pyramid first (at j)
        go true e =
            let c = ltb-true j k e in
            settling_same picture pyramid work work' (start j) (at j) (m.kept (at j) (r.inside j (omega arith) (omega arith)) (r.apart j k (omega arith) c h))
            ∙ w.done picture j c
        go false e =
            let c = ltb-false j k e in
            let z : j ≡ k = omega arith in
            rw z (m.own picture ∙ lying_same picture pyramid first pyramid work (at k) refl (w.left k (omega arith) h))

    pub moving_more : Moving count at start pyramid first work' (k + 1)
    moving_more =
        record {
          done = more_done;
          left = λ j l b. m.kept (at j) (r.inside j (omega arith) b) (⊎_swap (r.apart k j (omega arith) (omega arith) b)) ∙ w.left j (omega arith) b;
        }
