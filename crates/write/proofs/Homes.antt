-- The places of an array, entry by entry, and the starts of their channels in the pyramid. Assumes nothing.
use mathlib.Core.Path.{◌≡◌, sym, ap, ◌∙◌}
use mathlib.Core.Bool.{Bool, true}
use mathlib.Core.List.{List}
use Prim.Native.Nat.{ℕ, ◌+◌, ◌<◌, ◌≤◌, min}
use native.Mathlib.Omega.{arith}
use borrow.Author.Tests.{le-leb}
use lib.IntN.{ℤ}
use lib.ListN.{length, get_or, take}
use Rattle.channel.specs.Channel.{sides_fit}
use Rattle.range.proofs.Some.{some_cong}
use Rattle.list.specs.declared.Step.{Step}
use Rattle.list.specs.Tables.{table, padded, map}
use Rattle.list.specs.Lists.{max_channels}
use Rattle.list.proofs.Tables.{table_length, table_at, table_first, table_same, map_table}
use Rattle.places.specs.declared.Place.{Place}
use Rattle.places.specs.declared.Places.{Places}
use Rattle.places.specs.Places as Specs
use Rattle.places.specs.Places.{area, bare, starts_from, sum, place_of, place_at, places_in, areas_in, step_places, places_after}
use Rattle.places.specs.Laid.{Laid}
use Rattle.places.proofs.Arrays.{places_length, places_at}
use Rattle.places.proofs.Laid.{starts_at}
use Rattle.runs.specs.Parts.{joined}
use Rattle.write.specs.Standing.{lying, held, place_marked, places_marked, Ranged, Fitting, Squeezed, Full}
use Rattle.write.specs.Settled.{Cleared, Starting, settled}

module _ (p : Places) where
  -- ---- entries
  abbrev at : ℕ → Place
  at = place_at p

  abbrev ps : List Place
  ps = places_in p

  pub laid_ranged : (n from to : ℕ) → to ≤ p.count → Laid n ps → Ranged n at from to
  laid_ranged n from to l w =
      let c = places_length p in
      record {
        inside = λ k a b. rw (places_at p k (omega arith)) at (w.inside k (omega arith));
        apart = λ i j a b d. rw (places_at p i (omega arith), places_at p j (omega arith)) at (w.apart i j b (omega arith));
      }

  pub fit_ranged : (from to : ℕ) → to ≤ p.count → ((k : ℕ) → k < length ps → sides_fit (bare (place_of ps k)) ≡ true) → Fitting at from to
  fit_ranged from to l w k a b =
      let c = places_length p in
      rw (places_at p k (omega arith)) at (w k (omega arith))

  pub squeezed_places : (h : Bool) (from to : ℕ) (picture odds evens odds' evens' : List ℤ) → to ≤ p.count
      → Squeezed h at from to picture odds evens odds' evens' → Squeezed h (place_of ps) from to picture odds evens odds' evens'
  squeezed_places h from to picture odds evens odds' evens' l w =
      record {
        own = λ k a b. rw (places_at p k (omega arith)) (w.own k a b);
        kept = λ q i d. w.kept q i (λ k a b. rw (places_at p k (omega arith)) at (d k a b));
      }

  pub marked_places : (h : Bool) (from n : ℕ) (picture odds evens : List ℤ) → from + n ≤ p.count
      → places_marked h at from n picture odds evens ≡ places_marked h (place_of ps) from n picture odds evens
  marked_places h from n picture odds evens l =
      some_cong (λ i. place_marked h (at (from + i)) picture odds evens) (λ i. place_marked h (place_of ps (from + i)) picture odds evens) n
      (λ i m. rw (places_at p (from + i) (omega arith)))

  -- a step whose range lies inside and whose residuals have room
  pub places_stepped : (s : Step) → s.begin + s.number ≤ length ps → length ps + s.number ≤ max_channels → places_after s p ≡ step_places s ps
  unfolding Specs.places_after Specs.step_fits
  places_stepped s i r =
      let n = places_length p in
      rw (le-leb (s.begin + s.number) p.count (omega arith), le-leb (p.count + s.number) max_channels (omega arith))

  -- ---- starts
  abbrev areas : ℕ → ℕ
  areas k = area (at k)

  areas_so : p.count ≤ max_channels → areas_in p ≡ table areas 0 p.count
  unfolding Specs.areas_in
  areas_so few = let z : min p.count max_channels ≡ p.count = omega arith in ap (table areas 0) z

  pub areas_sum : sum (table areas 0 p.count) ≡ sum (map area ps)
  unfolding Specs.places_in
  areas_sum = ap sum (sym (map_table area at 0 p.count))

  module _ (n : ℕ) (full : Full p.count ps n) (starts : List ℕ) (laid : starts ≡ padded max_channels (starts_from 0 (areas_in p))) where
    whole : sum (table areas 0 p.count) ≡ n
    whole = areas_sum ∙ full.filled

    start_so : (k : ℕ) → k < p.count → get_or starts k 0 ≡ sum (table areas 0 k)
    start_so k h =
        let f = full.few in
        let m = full.small in
        let w = whole in
        let l = table_length areas 0 p.count in
        let z : 0 + k ≡ k = omega arith in
        let y : min k p.count ≡ k = omega arith in
        let ns = table areas 0 p.count in
        let e : starts ≡ padded max_channels (starts_from 0 ns) = laid ∙ ap (λ (l : List ℕ). padded max_channels (starts_from 0 l)) (areas_so f) in
        let t = table_at (λ j. get_or (starts_from 0 ns) j 0) 0 max_channels k 0 (omega arith) in
        let s = starts_at 0 ns (omega arith) k (omega arith) in
        let o : 0 + sum (take k ns) ≡ sum (take k ns) = omega arith in
        rw e (t ∙ rw z s ∙ o ∙ rw y at (ap sum (table_first areas 0 p.count k)))

    pub starting : Starting n p.count at starts
    starting =
        let r = laid_ranged n 0 p.count (omega arith) full.laid in
        record { inside = λ k h. r.inside k (omega arith) h; start = start_so; whole = whole }

  -- ---- settled from the slices with the way cleared, the channels are what their places hold
  pub settled_held : (starts : List ℕ) (picture pyramid work work' ys : List ℤ) → Cleared p.count at starts pyramid work work'
      → ys ≡ settled picture pyramid work' at starts p.count → ys ≡ joined (held picture pyramid work ps)
  unfolding Specs.places_in
  settled_held starts picture pyramid work work' ys w e =
      e
      ∙ ap joined
      (table_same _ (λ k. lying picture pyramid work (at k)) 0 p.count (λ k l h. w picture k (omega arith))
      ∙ sym (map_table (lying picture pyramid work) at 0 p.count))
