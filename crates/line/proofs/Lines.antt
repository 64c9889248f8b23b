-- Laws of the line rule (specs/Line.antt), for lines in any direction. The samples of pair i stand at 2i and 2i + 1, a tail at the end. And a
-- line t that is a stretch of a line l from pair `from` on (`Stretch`) has l's samples from 2 from on: by induction along t, since before
-- each pair both have the same output. A line is a stretch of another at 0 where the two have the same entries. Assumes nothing.
use mathlib.Core.Path.{◌≡◌, refl, sym, ◌∙◌}
use mathlib.Core.Logic.{◌⊎◌, inl, inr}
use Prim.Native.Nat.{ℕ, zero, suc, ◌+◌, ◌/◌, ◌%◌, ◌<◌, ◌≤◌}
use native.Mathlib.Omega.{arith}
use borrow.Author.Tests.{lt-ltb, le-ltb}
use Rattle.std.proofs.lemmas.Bool.{cases_lt}
use Rattle.line.specs.Line.{Line, or_else, next_average, before, first_at, second_at, sample}

-- ---- comparisons
pub lt_or_ge : (k w : ℕ) → (k < w) ⊎ (w ≤ k)
lt_or_ge = cases_lt

-- ---- the samples of a pair, and the tail
pub sample_first : (l : Line) (i : ℕ) → i < l.residuals → sample l (i + i) ≡ first_at l i
unfolding sample
sample_first l i h =
    let d : (i + i) / 2 ≡ i = omega arith in
    let m : (i + i) % 2 ≡ 0 = omega arith in
    rw (d, m, lt-ltb i l.residuals h)

pub sample_second : (l : Line) (i : ℕ) → i < l.residuals → sample l (i + i + 1) ≡ second_at l i
unfolding sample
sample_second l i h =
    let d : (i + i + 1) / 2 ≡ i = omega arith in
    let m : (i + i + 1) % 2 ≡ 1 = omega arith in
    rw (d, m, lt-ltb i l.residuals h)

pub sample_tail : (l : Line) (i : ℕ) → l.residuals ≤ i → sample l (i + i) ≡ l.avg i
unfolding sample
sample_tail l i h = let d : (i + i) / 2 ≡ i = omega arith in rw (d, le-ltb i l.residuals h)

-- the output before the next pair is the second sample of this one
pub before_next : (l : Line) (i : ℕ) → before l (suc i) ≡ second_at l i
unfolding before
before_next l i = refl

pub before_first : (l : Line) → before l 0 ≡ or_else l.prev (l.avg 0)
unfolding before
before_first l = refl

pub next_inside : (l : Line) (i : ℕ) → i + 1 < l.averages → next_average l i ≡ l.avg (i + 1)
unfolding next_average
next_inside l i h = rw (lt-ltb (i + 1) l.averages h)

pub next_last : (l : Line) (i : ℕ) → l.averages ≤ i + 1 → next_average l i ≡ or_else l.next (l.avg i)
unfolding next_average
next_last l i h = rw (le-ltb (i + 1) l.averages h)

-- a position of a line is the first or the second of a pair, or past the pairs
pub data Half (j : ℕ) : Type 0 where
  even : (i : ℕ) → j ≡ i + i → Half j
  odd : (i : ℕ) → j ≡ i + i + 1 → Half j

pub half : (j : ℕ) → Half j
half j = by_bit (j % 2) refl
  where
    by_bit : (b : ℕ) → j % 2 ≡ b → Half j
    by_bit zero e = even (j / 2) (omega arith)
    by_bit (suc b) e = odd (j / 2) (omega arith)

-- ---- stretches
-- m averages and n residuals make a line
pub record Fits (l : Line) : Type 0 where
  pub some : 0 < l.averages
  pub low : l.residuals ≤ l.averages
  pub high : l.averages ≤ l.residuals + 1

pub record Stretch (l t : Line) (from : ℕ) : Type 0 where
  pub room : from + t.residuals ≤ l.residuals
  pub avg_same : (i : ℕ) → i < t.averages → t.avg i ≡ l.avg (from + i)
  pub res_same : (i : ℕ) → i < t.residuals → t.res i ≡ l.res (from + i)
  pub next_same : (i : ℕ) → i < t.residuals → next_average t i ≡ next_average l (from + i)
  pub before_same : before t 0 ≡ before l from
  pub tail_last : t.residuals < t.averages → from + t.residuals ≡ l.residuals

module _ (l t : Line) (from : ℕ) (f : Fits t) (s : Stretch l t from) where
  pub stretch_before : (i : ℕ) → i ≤ t.residuals → before t i ≡ before l (from + i)
  stretch_before zero h = let e : from + 0 ≡ from = omega arith in rw e s.before_same
  stretch_before (suc i) h =
      let e : from + suc i ≡ suc (from + i) = omega arith in
      let a : i < t.residuals = omega arith in
      let b : i < t.averages = omega (arith, f.low) in
      rw (e, before_next t i, before_next l (from + i))
      (rw (s.avg_same i b, s.res_same i a, s.next_same i a, stretch_before i (omega arith)) refl)

  pub stretch_sample : (j : ℕ) → j < t.averages + t.residuals → sample t j ≡ sample l (from + from + j)
  stretch_sample j h = by_half (half j)
    where
      pair_first : (i : ℕ) → i < t.residuals → first_at t i ≡ first_at l (from + i)
      pair_first i p =
          let b : i < t.averages = omega (arith, f.low) in
          rw (s.avg_same i b, s.res_same i p, s.next_same i p, stretch_before i (omega arith)) refl

      pair_second : (i : ℕ) → i < t.residuals → second_at t i ≡ second_at l (from + i)
      pair_second i p =
          let b : i < t.averages = omega (arith, f.low) in
          rw (s.avg_same i b, s.res_same i p, s.next_same i p, stretch_before i (omega arith)) refl

      at_pair : (i : ℕ) → j ≡ i + i → (i < t.residuals) ⊎ (t.residuals ≤ i) → sample t j ≡ sample l (from + from + j)
      at_pair i e (inl p) =
          let d : from + from + (i + i) ≡ (from + i) + (from + i) = omega arith in
          let q : from + i < l.residuals = omega (arith, s.room) in
          rw (e, d) (sample_first t i p ∙ pair_first i p ∙ sym (sample_first l (from + i) q))
      at_pair i e (inr p) =
          let d : from + from + (i + i) ≡ (from + i) + (from + i) = omega arith in
          let b : i < t.averages = omega (arith, f.high, f.low) in
          let w : t.residuals < t.averages = omega (arith, f.high) in
          let q : l.residuals ≤ from + i = omega (arith, s.tail_last w) in
          rw (e, d) (sample_tail t i p ∙ s.avg_same i b ∙ sym (sample_tail l (from + i) q))

      by_half : Half j → sample t j ≡ sample l (from + from + j)
      by_half (even i e) = at_pair i e (cases_lt i t.residuals)
      by_half (odd i e) =
          let p : i < t.residuals = omega (arith, f.high) in
          let d : from + from + (i + i + 1) ≡ (from + i) + (from + i) + 1 = omega arith in
          let q : from + i < l.residuals = omega (arith, s.room) in
          rw (e, d) (sample_second t i p ∙ pair_second i p ∙ sym (sample_second l (from + i) q))

-- ---- lines with the same entries
pub record Same (l t : Line) : Type 0 where
  pub averages : t.averages ≡ l.averages
  pub residuals : t.residuals ≡ l.residuals
  pub avg : (i : ℕ) → i < l.averages → t.avg i ≡ l.avg i
  pub res : (i : ℕ) → i < l.residuals → t.res i ≡ l.res i
  pub next : t.next ≡ l.next
  pub prev : t.prev ≡ l.prev

pub same_sample : (l t : Line) → Fits t → Same l t → (j : ℕ) → j < t.averages + t.residuals → sample t j ≡ sample l j
same_sample l t f s j h =
    let z : 0 + 0 + j ≡ j = omega arith in
    rw z at (stretch_sample l t 0 f stretch j h)
  where
    next_same : (i : ℕ) → i < t.residuals → (i + 1 < t.averages) ⊎ (t.averages ≤ i + 1) → next_average t i ≡ next_average l (0 + i)
    next_same i p (inl q) =
        let z : 0 + i ≡ i = omega arith in
        let r : i + 1 < l.averages = omega (arith, s.averages) in
        rw z (next_inside t i q ∙ s.avg (i + 1) r ∙ sym (next_inside l i r))
    next_same i p (inr q) =
        let z : 0 + i ≡ i = omega arith in
        let r : l.averages ≤ i + 1 = omega (arith, s.averages) in
        let b : i < l.averages = omega (arith, s.averages, f.low) in
        rw z (next_last t i q ∙ rw (s.next, s.avg i b) (sym (next_last l i r)))

    stretch : Stretch l t 0
    stretch =
        record {
          room = omega (arith, s.residuals);
          avg_same = λ i p. let z : 0 + i ≡ i = omega arith in let b : i < l.averages = omega (arith, s.averages) in rw z (s.avg i b);
          res_same = λ i p. let z : 0 + i ≡ i = omega arith in let b : i < l.residuals = omega (arith, s.residuals) in rw z (s.res i b);
          next_same = λ i p. next_same i p (cases_lt (i + 1) t.averages);
          before_same =
              let b : 0 < l.averages = omega (arith, s.averages, f.some) in
              before_first t ∙ rw (s.prev, s.avg 0 b) (sym (before_first l));
          tail_last = λ p. omega (arith, s.residuals);
        }
