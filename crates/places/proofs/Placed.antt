-- A whole step on the array: room made for the residuals and the range split (Moves.antt) leave the places that `step_places` gives, and keep what
-- lies behind them. Assumes nothing.
use mathlib.Core.Path.{◌≡◌, refl, sym, ap, ◌∙◌}
use mathlib.Core.Bool.{true, false, and-eq-true_iff}
use mathlib.Core.List.{List}
use Prim.Native.Nat.{ℕ, ◌+◌, ◌-◌, ◌<◌, ◌≤◌}
use native.Mathlib.Omega.{arith}
use lib.Dec.{leb}
use lib.ListN.{length, drop, length-drop}
use lib.Seq.{ext_get_or, get_or-drop}
use borrow.Author.Tests.{leb-true}
use Rattle.list.specs.declared.Step.{Step}
use Rattle.list.specs.Tables.{table}
use Rattle.list.specs.Lists.{max_channels}
use Rattle.list.proofs.Tables.{table_length, table_at}
use Rattle.places.specs.declared.Place.{Place}
use Rattle.places.specs.declared.Places.{Places}
use Rattle.places.specs.Places.{average_place, residual_place, step_places, residuals_at, none, place_of, place_at, places_in, step_fits, count_after, places_after}
use Rattle.places.specs.Moves.{Spread, Split}
use Rattle.places.proofs.Steps.{residuals_inside, steps_length, step_before, step_average, step_between, step_residual, step_after, Entry, before, average, between, residual, after, entry_is}

-- ---- by index: p before the step, m once there is room, e at the end
module _ (s : Step) (count : ℕ) (p : ℕ → Place) (inside : s.begin + s.number ≤ count) where
  places_long : length (table p 0 count) ≡ count
  places_long = table_length p 0 count

  places_inside : s.begin + s.number ≤ length (table p 0 count)
  places_inside = let n = places_long in omega arith

  places_at : (k : ℕ) → k < count → place_of (table p 0 count) k ≡ p k
  places_at k h = let z : 0 + k ≡ k = omega arith in table_at p 0 count k _ h ∙ ap p z

  residuals_alike : residuals_at (length (table p 0 count)) s ≡ residuals_at count s
  residuals_alike = ap (λ (n : ℕ). residuals_at n s) places_long

  module _ (m e : ℕ → Place) (v : Spread count (residuals_at count s) s.number p m)
      (w : Split s.horizontal s.begin (residuals_at count s) s.number m e) where
    placed_at : (k : ℕ) → k < count + s.number → Entry count s k → e k ≡ place_of (step_places s (table p 0 count)) k
    placed_at k h (before b) =
        let r = residuals_inside count s inside in
        w.front k b ∙ v.front k (omega arith) ∙ sym (step_before s (table p 0 count) places_inside k b ∙ places_at k (omega arith))
    placed_at k h (average l b) =
        let r = residuals_inside count s inside in
        let z : s.begin + (k - s.begin) ≡ k = omega arith in
        let a : e k ≡ average_place s.horizontal (m k) = rw z at (w.average (k - s.begin) (omega arith)) in
        a
        ∙ ap (average_place s.horizontal) (v.front k (omega arith))
        ∙ sym (step_average s (table p 0 count) places_inside k l b ∙ ap (average_place s.horizontal) (places_at k (omega arith)))
    placed_at k h (between l b) =
        let r = residuals_inside count s inside in
        let a = residuals_alike in
        w.between k l b ∙ v.front k b ∙ sym (step_between s (table p 0 count) places_inside k l (omega arith) ∙ places_at k (omega arith))
    placed_at k h (residual i b q) =
        let r = residuals_inside count s inside in
        let c : k ≡ residuals_at (length (table p 0 count)) s + i = q ∙ ap (λ (n : ℕ). n + i) (sym residuals_alike) in
        ap e q
        ∙ w.residual i b
        ∙ ap (residual_place s.horizontal) (v.front (s.begin + i) (omega arith))
        ∙ sym (ap (place_of (step_places s (table p 0 count))) c
        ∙ step_residual s (table p 0 count) places_inside i b
        ∙ ap (residual_place s.horizontal) (places_at (s.begin + i) (omega arith)))
    placed_at k h (after l) =
        let r = residuals_inside count s inside in
        let a = residuals_alike in
        let n = places_long in
        let z : k - s.number + s.number ≡ k = omega arith in
        let d : m k ≡ p (k - s.number) = rw z at (v.moved (k - s.number) (omega arith) (omega arith)) in
        w.back k l ∙ d ∙ sym (step_after s (table p 0 count) places_inside k (omega arith) (omega arith) ∙ places_at (k - s.number) (omega arith))

    placed_all : table e 0 (count + s.number) ≡ step_places s (table p 0 count)
    placed_all =
        let n = steps_length s (table p 0 count) places_inside in
        let l = places_long in
        let t = table_length e 0 (count + s.number) in
        ext_get_or _ (table e 0 (count + s.number)) (step_places s (table p 0 count)) (omega arith)
        (λ k h.
        let b : k < count + s.number = omega arith in
        let z : 0 + k ≡ k = omega arith in
        table_at e 0 (count + s.number) k _ b ∙ ap e z ∙ placed_at k b (entry_is count s k))

    behind_kept : (k : ℕ) → count + s.number ≤ k → e k ≡ p k
    behind_kept k h = let r = residuals_inside count s inside in w.back k (omega arith) ∙ v.back k h

-- ---- on the array
pub fits_facts : (count : ℕ) (s : Step) → step_fits count s ≡ true → (s.begin + s.number ≤ count) × (count + s.number ≤ max_channels)
unfolding step_fits
fits_facts count s e =
    let b = (and-eq-true_iff (leb (s.begin + s.number) count) (leb (count + s.number) max_channels)).0 e in
    (leb-true _ _ b.0, leb-true _ _ b.1)

drop_kept : (n : ℕ) (ps qs : List Place) → length qs ≡ length ps → ((k : ℕ) → n ≤ k → place_of qs k ≡ place_of ps k) → drop n qs ≡ drop n ps
drop_kept n ps qs e f =
    let a = length-drop n ps in
    let b = length-drop n qs in
    ext_get_or none (drop n qs) (drop n ps) (omega arith) (λ i h. get_or-drop n qs i none ∙ f (n + i) (omega arith) ∙ sym (get_or-drop n ps i none))

-- what a step leaves of the places p in q
pub record After (s : Step) (p q : Places) : Type 0 where
  pub counted : q.count ≡ count_after p.count s
  pub placed : places_in q ≡ places_after s p
  pub kept : drop q.count q.places ≡ drop q.count p.places

-- a step that does not fit
pub refused : (s : Step) (p : Places) → step_fits p.count s ≡ false → After s p p
unfolding count_after places_after
refused s p e = record { counted = rw e; placed = rw e; kept = refl }

-- one that fits, by way of the array ms with room made for the residuals
pub stepped : (s : Step) (p q : Places) (ms : List Place) → step_fits p.count s ≡ true → length q.places ≡ length p.places → q.count ≡ p.count + s.number
    → Spread p.count (residuals_at p.count s) s.number (place_of p.places) (place_of ms)
    → Split s.horizontal s.begin (residuals_at p.count s) s.number (place_of ms) (place_of q.places)
    → After s p q
unfolding count_after places_in places_after
stepped s p q ms fits long more v w =
    let i = (fits_facts p.count s fits).0 in
    record {
      counted = rw fits more;
      placed = rw (more, fits) (placed_all s p.count (place_at p) i (place_of ms) (place_at q) v w);
      kept = drop_kept q.count p.places q.places long (λ k h. behind_kept s p.count (place_at p) i (place_of ms) (place_at q) v w k (omega arith));
    }
