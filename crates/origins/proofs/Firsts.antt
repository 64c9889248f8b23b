-- The first channel of an origin is that of its averages, and every origin is a position of the first list: each entry after a step has the origin of
-- the entry that it is made of (`source` of list/specs/Entries.antt). Assumes nothing.
use mathlib.Core.Path.{◌≡◌, refl, sym, ap, ◌∙◌}
use mathlib.Core.Bool.{Bool, true, false, cond}
use mathlib.Core.List.{List}
use Prim.Native.Nat.{ℕ, ◌+◌, ◌-◌, ◌<◌, ◌≤◌}
use native.Mathlib.Omega.{arith}
use borrow.Author.Tests.{ltb-true, ltb-false}
use lib.Dec.{ltb}
use lib.ListN.{length, get_or}
use Rattle.channel.specs.declared.Channel.{Channel}
use Rattle.list.specs.declared.Step.{Step}
use Rattle.list.specs.Lists.{average, stepped, stepped_origins}
use Rattle.list.specs.Questions.{channel_of}
use Rattle.list.specs.Entries.{is_inside, source}
use Rattle.list.proofs.Entries.{residuals_at, entry_before, entry_average, entry_between, entry_after, origins_stepped}
use Rattle.list.proofs.Made.{inside_yes, inside_low, inside_high, origin_source}
use Rattle.origins.specs.Origins as Origins
use Rattle.runs.specs.Runs.{place_after}
use Rattle.origins.specs.Origins.{averaged_by}
use Rattle.origins.specs.Claim.{IsFirst}

-- ---- where a step puts the averages of the channel at p, n channels in all and the residuals from r on
module _ (s : Step) (n r p : ℕ) (inside : s.begin + s.number ≤ n) (er : r ≡ cond s.inplace (s.begin + s.number) n) (there : p < n) where
  -- before the range's end, or behind it and in place, or not
  data Where (q : ℕ) : Type 0 where
    front : p < s.begin + s.number → q ≡ p → s.begin + s.number ≤ r → Where q
    moved : s.begin + s.number ≤ p → q ≡ p + s.number → r ≡ s.begin + s.number → Where q
    stays : s.begin + s.number ≤ p → q ≡ p → r ≡ n → Where q

  is_where : Where (place_after s p)
  unfolding place_after
  is_where = by (ltb p (s.begin + s.number)) s.inplace refl er
    where
      by : (b i : Bool) → ltb p (s.begin + s.number) ≡ b → r ≡ cond i (s.begin + s.number) n → Where (cond b p (cond i (p + s.number) p))
      by true true e f = front (ltb-true _ _ e) refl (omega arith)
      by true false e f = front (ltb-true _ _ e) refl (omega arith)
      by false true e f = moved (ltb-false _ _ e) refl f
      by false false e f = stays (ltb-false _ _ e) refl f

  -- the entry that entry k is made of
  data From (k j : ℕ) : Type 0 where
    below : k < r → j ≡ k → From k j
    among : r ≤ k → k < r + s.number → j ≡ k - r + s.begin → From k j
    beyond : r + s.number ≤ k → j ≡ k - s.number → From k j

  is_from : (k : ℕ) → From k (source s r k)
  unfolding source
  is_from k = by (ltb k r) (ltb (k - r) s.number) refl refl
    where
      by : (a b : Bool) → ltb k r ≡ a → ltb (k - r) s.number ≡ b → From k (cond a k (cond b (k - r + s.begin) (k - s.number)))
      by true b e f = below (ltb-true _ _ e) refl
      by false true e f = let l = ltb-false k r e in let h = ltb-true (k - r) s.number f in among l (omega arith) refl
      by false false e f = let l = ltb-false k r e in let h = ltb-false (k - r) s.number f in beyond (omega arith) refl

  -- at that place it is p, before it one before p
  pub source_there : source s r (place_after s p) ≡ p
  source_there = by is_where (is_from (place_after s p))
    where
      by : Where (place_after s p) → From (place_after s p) (source s r (place_after s p)) → source s r (place_after s p) ≡ p
      by (front a b c) (below d e) = omega arith
      by (front a b c) (among d h e) = absurd (omega arith)
      by (front a b c) (beyond d e) = absurd (omega arith)
      by (moved a b c) (below d e) = absurd (omega arith)
      by (moved a b c) (among d h e) = absurd (omega arith)
      by (moved a b c) (beyond d e) = omega arith
      by (stays a b c) (below d e) = omega arith
      by (stays a b c) (among d h e) = absurd (omega arith)
      by (stays a b c) (beyond d e) = absurd (omega arith)

  pub source_before : (k : ℕ) → k < place_after s p → source s r k < p
  source_before k h = by is_where (is_from k)
    where
      by : Where (place_after s p) → From k (source s r k) → source s r k < p
      by (front a b c) (below d e) = omega arith
      by (front a b c) (among d l e) = absurd (omega arith)
      by (front a b c) (beyond d e) = absurd (omega arith)
      by (moved a b c) (below d e) = omega arith
      by (moved a b c) (among d l e) = omega arith
      by (moved a b c) (beyond d e) = omega arith
      by (stays a b c) (below d e) = omega arith
      by (stays a b c) (among d l e) = absurd (omega arith)
      by (stays a b c) (beyond d e) = absurd (omega arith)

  pub place_inside : place_after s p < n + s.number
  place_inside = by is_where
    where
      by : Where (place_after s p) → place_after s p < n + s.number
      by (front a b c) = omega arith
      by (moved a b c) = omega arith
      by (stays a b c) = omega arith

-- ---- origins after a step
module _ (s : Step) (os : List ℕ) (inside : s.begin + s.number ≤ length os) where
  abbrev r : ℕ
  r = residuals_at s os

  pub first_step : (o p : ℕ) → IsFirst o os p → IsFirst o (stepped_origins s os) (place_after s p)
  first_step o p f =
      let n = origins_stepped s os inside in
      let there = f.within in
      let q = place_inside s (length os) r p inside refl there in
      let at = origin_source s os inside r refl in
      record {
        within = omega arith;
        here = sym (at (place_after s p) q).1 ∙ ap (λ (j : ℕ). get_or os j 0) (source_there s (length os) r p inside refl there) ∙ f.here;
        before = λ k h e. f.before (source s r k) (source_before s (length os) r p inside refl there k h) ((at k (omega arith)).1 ∙ e);
      }

  pub below_step : (m : ℕ) → ((k : ℕ) → k < length os → get_or os k 0 < m) → (k : ℕ) → k < length (stepped_origins s os) → get_or (stepped_origins s os) k 0 < m
  below_step m h k l =
      let n = origins_stepped s os inside in
      let a = origin_source s os inside r refl k (omega arith) in
      omega (arith, h (source s r k) a.0, a.1)

-- ---- the channel of averages after a step
module _ (s : Step) (cs : List Channel) (inside : s.begin + s.number ≤ length cs) (p : ℕ) (there : p < length cs) where
  pub average_step : channel_of (stepped s cs) (place_after s p) ≡ averaged_by s p (channel_of cs p)
  unfolding Origins.averaged_by
  average_step = by (ltb p s.begin) refl (is_where s (length cs) (residuals_at s cs) p inside refl there)
    where
      at : (q k : ℕ) → q ≡ k → channel_of (stepped s cs) k ≡ cond (is_inside s.begin s.number p) (average s.horizontal (channel_of cs p)) (channel_of cs p)
          → channel_of (stepped s cs) q ≡ cond (is_inside s.begin s.number p) (average s.horizontal (channel_of cs p)) (channel_of cs p)
      at q k e h = ap (channel_of (stepped s cs)) e ∙ h

      by : (b : Bool) → ltb p s.begin ≡ b → Where s (length cs) (residuals_at s cs) p inside refl there (place_after s p)
          → channel_of (stepped s cs) (place_after s p) ≡ cond (is_inside s.begin s.number p) (average s.horizontal (channel_of cs p)) (channel_of cs p)
      by true e (front a q c) = let l = ltb-true _ _ e in at _ p q (rw (inside_low s.begin s.number p l) (entry_before s cs inside p l))
      by false e (front a q c) = let l = ltb-false _ _ e in at _ p q (rw (inside_yes s.begin s.number p l a) (entry_average s cs inside p l a))
      by b e (moved a q c) =
          let z : p + s.number - s.number ≡ p = omega arith in
          at _ (p + s.number) q
          (rw (inside_high s.begin s.number p a)
          (entry_after s cs inside (p + s.number) (residuals_at s cs) refl (omega arith) (omega arith) (omega arith) ∙ ap (channel_of cs) z))
      by b e (stays a q c) =
          at _ p q (rw (inside_high s.begin s.number p a) (entry_between s cs inside p (residuals_at s cs) refl a (omega arith)).1)
