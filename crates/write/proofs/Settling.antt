-- Each channel put at its start in the pyramid, first to last (`settled` of specs/Settled.antt): what is done stands in front, and behind it the
-- pyramid is as it was, so that a channel that stands at its start already is still there. Assumes nothing.
use mathlib.Core.Path.{◌≡◌, refl, sym, ap, ◌∙◌}
use mathlib.Core.Bool.{Bool, true, false, cond, ◌&&◌}
use mathlib.Core.List.{List, ◌++◌, append_assoc, append-nil}
use Prim.Native.Nat.{ℕ, ◌+◌, ◌<◌, ◌≤◌}
use native.Mathlib.Omega.{arith}
use borrow.Author.Tests.{eq-eqb, ne_eqb}
use lib.Dec.{eqb}
use lib.IntN.{ℤ}
use lib.ListN.{length, get_or, take, drop, length-append, drop_of_length-le, take-append-drop}
use lib.Seq.{take_at, drop_at, drop-drop}
use Rattle.list.specs.Tables.{table}
use Rattle.places.specs.declared.Slot.TheVariants.{Unmade, Odd, Even}
use Rattle.places.specs.declared.Place.{Place}
use Rattle.places.specs.Places.{area, is_unmade, is_odd, sum}
use Rattle.places.specs.Laid as Laid
use Rattle.places.specs.Laid.{part, written}
use Rattle.places.proofs.Parts.{part_length}
use Rattle.write.specs.Standing.{Alike}
use Rattle.write.specs.Settled as Settled
use Rattle.write.specs.Settled.{settling, Starting, settled}
use Rattle.write.proofs.Tables.{sum_more, sum_reach, joined_more}

-- a part written where it stands
pub part_again : (at n : ℕ) (xs : List ℤ) → at + n ≤ length xs → written at (part at n xs) xs ≡ xs
unfolding Laid.written Laid.part
part_again at n xs h =
    let l : length (take n (drop at xs)) ≡ n = part_length at n xs h in
    rw (l, ← drop-drop n at xs, take-append-drop n (drop at xs)) (take-append-drop at xs)

module _ (picture work : List ℤ) (start : ℕ) (p : Place) where
  settling_length : (pyramid : List ℤ) → p.home + area p ≤ length picture → p.home + area p ≤ length work → start + area p ≤ length pyramid
      → length (settling picture pyramid work start p) ≡ area p
  unfolding Settled.settling
  settling_length pyramid a b c = go (is_unmade p.slot) (is_odd p.slot && eqb p.home start)
    where
      go : (u s : Bool) → length (cond u (part p.home (area p) picture) (cond s (part start (area p) pyramid) (part p.home (area p) work))) ≡ area p
      go true s = part_length p.home (area p) picture a
      go false true = part_length start (area p) pyramid c
      go false false = part_length p.home (area p) work b

  -- the ways, by the slot
  pub from_picture : (pyramid : List ℤ) → p.slot ≡ Unmade → settling picture pyramid work start p ≡ part p.home (area p) picture
  unfolding Settled.settling
  from_picture pyramid e = rw e

  pub in_pyramid : (pyramid : List ℤ) → p.slot ≡ Odd → p.home ≡ start → settling picture pyramid work start p ≡ part start (area p) pyramid
  unfolding Settled.settling
  in_pyramid pyramid e h = rw (e, eq-eqb p.home start h)

  pub from_work : (pyramid : List ℤ) → p.slot ≡ Odd → (p.home ≡ start → ⊥) → settling picture pyramid work start p ≡ part p.home (area p) work
  unfolding Settled.settling
  from_work pyramid e h = rw (e, ne_eqb p.home start h)

  pub from_even : (pyramid : List ℤ) → p.slot ≡ Even → settling picture pyramid work start p ≡ part p.home (area p) work
  unfolding Settled.settling
  from_even pyramid e = rw e

  settling_by : (pyramid pyramid' : List ℤ) → part start (area p) pyramid' ≡ part start (area p) pyramid
      → settling picture pyramid' work start p ≡ settling picture pyramid work start p
  unfolding Settled.settling
  settling_by pyramid pyramid' e = rw e

-- ---- the channels of a list, the first k of them settled
module _ (picture first work : List ℤ) (count : ℕ) (at : ℕ → Place) (starts : List ℕ) where
  abbrev sums : ℕ → ℕ
  sums k = sum (table (λ j. area (at j)) 0 k)

  abbrev front : ℕ → List ℤ
  front k = settled picture first work at starts k

  pub record Settling (pyramid : List ℤ) (k : ℕ) : Type 0 where
    pub so : pyramid ≡ front k ++ drop (sums k) first
    pub long : length (front k) ≡ sums k

  pub settling_none : Settling first 0
  settling_none = record { so = refl; long = refl }

  module _ (w : Starting (length picture) count at starts) (a : Alike picture first work) where
    module _ (k : ℕ) (h : k < count) where
      -- a channel's place in the pyramid
      pub room : get_or starts k 0 + area (at k) ≤ length picture
      room = omega (arith, w.start k h, w.whole, sum_reach (λ j. area (at j)) k count h)

      module _ (pyramid pyramid' : List ℤ) (g : Settling pyramid k)
          (e : pyramid' ≡ written (get_or starts k 0) (settling picture pyramid work (get_or starts k 0) (at k)) pyramid) where
        abbrev own : List ℤ
        own = settling picture first work (get_or starts k 0) (at k)

        behind : drop (get_or starts k 0) pyramid ≡ drop (get_or starts k 0) first
        behind = rw (g.so, w.start k h) (drop_at (front k) (drop (sums k) first) (sums k) g.long)

        ahead : take (get_or starts k 0) pyramid ≡ front k
        ahead = rw (g.so, w.start k h) (take_at (front k) (drop (sums k) first) (sums k) g.long)

        own_same : settling picture pyramid work (get_or starts k 0) (at k) ≡ own
        unfolding Laid.part
        own_same = settling_by picture work (get_or starts k 0) (at k) first pyramid (ap (take (area (at k))) behind)

        own_length : length own ≡ area (at k)
        own_length =
            let r = room in
            let o = a.odds_length in
            let v = a.evens_length in
            let i = w.inside k h in
            settling_length picture work (get_or starts k 0) (at k) first i (omega arith) (omega arith)

        pub settling_more : Settling pyramid' (k + 1)
        unfolding Laid.written
        settling_more =
            let more = joined_more (λ j. settling picture first work (get_or starts j 0) (at j)) k in
            let n = sum_more (λ j. area (at j)) k in
            let l = own_length in
            record {
              so = rw (e, own_same, ahead, l, ← drop-drop (area (at k)) (get_or starts k 0) pyramid, behind, drop-drop (area (at k)) (get_or starts k 0) first, more, n, ← w.start k h)
                  (sym (append_assoc (front k) own (drop (get_or starts k 0 + area (at k)) first)));
              long = rw (more, n) (length-append (front k) own ∙ omega (arith, g.long, own_length));
            }

    pub settling_all : (pyramid : List ℤ) (k : ℕ) → k ≡ count → Settling pyramid k → pyramid ≡ settled picture first work at starts count
    settling_all pyramid k e g =
        let o = a.odds_length in
        let n = w.whole in
        let b : length first ≤ sums count = omega arith in
        rw e at g.so ∙ rw (drop_of_length-le first b) (append-nil (front count))
