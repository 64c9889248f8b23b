-- A line alone, there and back: the samples that rebuilding makes of a line's averages and residuals are the line, and the averages and
-- residuals of the samples that rebuilding makes are those it was made of. Both go along the line, since the output before each pair is the
-- same on both sides; at a pair it is the pair's bijection (crate pair). Assumes nothing.
use mathlib.Core.Path.{◌≡◌, refl, sym, ◌∙◌}
use mathlib.Core.Bool.{cond}
use mathlib.Core.List.{[]}
use mathlib.Core.Logic.{◌⊎◌, inl, inr}
use Prim.Native.Nat.{ℕ, zero, suc, ◌+◌, ◌<◌, ◌≤◌}
use native.Mathlib.Omega.{arith}
use borrow.Author.Tests.{lt-ltb, le-ltb}
use lib.Dec.{ltb}
use lib.IntN.{ℤ}
use Rattle.arith32.specs.Arith.{Sample}
use Rattle.pair.specs.Pair.{first, second, average}
use Rattle.pair.proofs.Inverse.{bijection}
use Rattle.line.specs.Line.{Line, next_average, before, sample}
use Rattle.std.proofs.lemmas.Bool.{cases_lt}
use Rattle.line.proofs.Lines.{Half, even, odd, half, sample_first, sample_second, sample_tail, before_next, before_first, next_inside, next_last}
use Rattle.line.specs.Forward.{average_count, residual_count, average_at, next_at, prev_at, residual_at}

-- ---- average i, inside a pair and at an odd end
pub average_pair : (x : ℕ → ℤ) (size i : ℕ) → i + i + 1 < size → average_at x size i ≡ average (x (i + i)) (x (i + i + 1))
unfolding average_at
average_pair x size i h = rw (lt-ltb (i + i + 1) size h)

pub average_tail : (x : ℕ → ℤ) (size i : ℕ) → size ≤ i + i + 1 → average_at x size i ≡ x (i + i)
unfolding average_at
average_tail x size i h = rw (le-ltb (i + i + 1) size h)

-- ---- there and back
-- the line of a line's averages and residuals, alone
abbrev pub squeezed_line : (ℕ → ℤ) → ℕ → Line
squeezed_line x size =
    record { avg = average_at x size; res = residual_at x size; averages = average_count size; residuals = residual_count size; next = []; prev = [] }

module _ (x : ℕ → ℤ) (size : ℕ) (f : (i : ℕ) → i < size → Sample (x i)) where
  pub next_is : (i : ℕ) → next_average (squeezed_line x size) i ≡ next_at x size i
  unfolding next_average next_at
  next_is i = refl

  pub pair_first : (i : ℕ) → i + i + 1 < size
      → first (average_at x size i) (residual_at x size i) (next_at x size i) (prev_at x size i) ≡ x (i + i)
  unfolding residual_at
  pair_first i h =
      rw (average_pair x size i h)
      ((bijection (next_at x size i) (prev_at x size i)).first_back (x (i + i)) (x (i + i + 1)) (f (i + i) (omega arith)))

  pub pair_second : (i : ℕ) → i + i + 1 < size
      → second (average_at x size i) (residual_at x size i) (next_at x size i) (prev_at x size i) ≡ x (i + i + 1)
  unfolding residual_at
  pair_second i h =
      rw (average_pair x size i h)
      ((bijection (next_at x size i) (prev_at x size i)).second_back (x (i + i)) (x (i + i + 1)) (f (i + i) (omega arith)) (f (i + i + 1) h))

  pub before_is : (i : ℕ) → i + i ≤ size → before (squeezed_line x size) i ≡ prev_at x size i
  unfolding prev_at
  before_is zero h = before_first (squeezed_line x size)
  before_is (suc i) h =
      before_next (squeezed_line x size) i ∙ rw (next_is i, before_is i (omega arith)) (pair_second i (omega arith))

  -- rebuilding makes the line again
  pub line_again : (j : ℕ) → j < size → sample (squeezed_line x size) j ≡ x j
  line_again j h = by (half j)
    where
      at_pair : (i : ℕ) → i + i < size → (i + i + 1 < size) ⊎ (size ≤ i + i + 1) → sample (squeezed_line x size) (i + i) ≡ x (i + i)
      at_pair i l (inl p) =
          sample_first (squeezed_line x size) i (omega arith) ∙ rw (next_is i, before_is i (omega arith)) (pair_first i p)
      at_pair i l (inr p) = sample_tail (squeezed_line x size) i (omega arith) ∙ average_tail x size i p

      by : Half j → sample (squeezed_line x size) j ≡ x j
      by (even i e) = rw e (at_pair i (omega arith) (cases_lt (i + i + 1) size))
      by (odd i e) =
          rw e
          (sample_second (squeezed_line x size) i (omega arith) ∙ rw (next_is i, before_is i (omega arith)) (pair_second i (omega arith)))

-- ---- back and there
-- a line alone, of samples, whose sizes are those of `size` samples
module _ (l : Line) (size : ℕ) (ea : l.averages ≡ average_count size) (er : l.residuals ≡ residual_count size) (no-next : l.next ≡ [])
    (no-prev : l.prev ≡ []) (fa : (i : ℕ) → i < l.averages → Sample (l.avg i)) (fr : (i : ℕ) → i < l.residuals → Sample (l.res i)) where
  pub averages_again : (i : ℕ) → i < l.averages → average_at (sample l) size i ≡ l.avg i
  averages_again i h = by (cases_lt (i + i + 1) size)
    where
      by : (i + i + 1 < size) ⊎ (size ≤ i + i + 1) → average_at (sample l) size i ≡ l.avg i
      by (inl p) =
          let r : i < l.residuals = omega arith in
          average_pair (sample l) size i p
          ∙ rw (sample_first l i r, sample_second l i r) ((bijection (next_average l i) (before l i)).average_back (l.avg i) (l.res i) (fa i h))
      by (inr p) = average_tail (sample l) size i p ∙ sample_tail l i (omega arith)

  next_again : (i : ℕ) → i < l.residuals → next_at (sample l) size i ≡ next_average l i
  unfolding next_at
  next_again i h = by (cases_lt (i + 1) (average_count size))
    where
      by : (i + 1 < average_count size) ⊎ (average_count size ≤ i + 1)
          → cond (ltb (i + 1) (average_count size)) (average_at (sample l) size (i + 1)) (average_at (sample l) size i) ≡ next_average l i
      by (inl p) =
          rw (lt-ltb (i + 1) (average_count size) p) (averages_again (i + 1) (omega arith) ∙ sym (next_inside l i (omega arith)))
      by (inr p) =
          rw (le-ltb (i + 1) (average_count size) p)
          (averages_again i (omega arith) ∙ sym (next_last l i (omega arith) ∙ rw no-next))

  prev_again : (i : ℕ) → i ≤ l.residuals → 0 < l.averages → prev_at (sample l) size i ≡ before l i
  unfolding prev_at
  prev_again zero h s = averages_again 0 s ∙ sym (before_first l ∙ rw no-prev)
  prev_again (suc i) h s = sample_second l i h ∙ sym (before_next l i)

  pub residuals_again : (i : ℕ) → i < l.residuals → residual_at (sample l) size i ≡ l.res i
  unfolding residual_at
  residuals_again i h =
      rw (sample_first l i h, sample_second l i h, next_again i h, prev_again i (omega arith) (omega arith))
      ((bijection (next_average l i) (before l i)).residual_back (l.avg i) (l.res i) (fa i (omega arith)) (fr i h))
