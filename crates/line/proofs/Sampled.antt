-- What lines are made of and what is made of them are 32-bit samples: every output is a wrapped sum or a copied average, every average a wrapped
-- sum or a copied sample, every residual a wrapped sum. Assumes nothing.
use mathlib.Core.Path.{◌≡◌}
use mathlib.Core.Bool.{Bool}
use mathlib.Core.List.{List}
use mathlib.Core.Logic.{◌⊎◌, inl, inr}
use Prim.Native.Nat.{ℕ, ◌+◌, ◌*◌, ◌/◌, ◌<◌, ◌≤◌}
use native.Mathlib.Omega.{arith}
use borrow.Author.Tests.{lt-ltb, le-ltb}
use lib.Dec.{lit<}
use lib.IntN.{ℤ, pos}
use lib.ListN.{length, get_or, get_or-eq_default}
use Rattle.arith32.specs.Arith.{Sample}
use Rattle.pair.proofs.Inverse.{bijection}
use Rattle.line.specs.Line.{Line, next_average, before, sample}
use Rattle.line.specs.Uncut.{Squeeze, place, line_at, position_at, size, table, line_of, output_at, uncut}
use Rattle.line.specs.Forward.{average_count, residual_count, average_at, next_at, prev_at, residual_at, line_in, averages_of, residuals_of}
use Rattle.line.proofs.Tables.{table_length, table_at}
use Rattle.std.proofs.lemmas.Bool.{cases_lt}
use Rattle.line.proofs.Lines.{Half, even, odd, half, sample_first, sample_second, sample_tail}
use Rattle.line.proofs.Outputs.{line_avg}
use Rattle.line.specs.Forward.{Samples}

-- an element of a slice of samples, or the zero past its end
pub element : (xs : List ℤ) → Samples xs → (i : ℕ) → Sample (get_or xs i (pos 0))
element xs f i = by (cases_lt i (length xs))
  where
    by : (i < length xs) ⊎ (length xs ≤ i) → Sample (get_or xs i (pos 0))
    by (inl l) = f i l
    by (inr l) = rw (get_or-eq_default xs (pos 0) l) (record { sfits = lit< tt })

-- a table of samples
table_samples : (f : ℕ → ℤ) (n : ℕ) → ((j : ℕ) → Sample (f j)) → Samples (table f 0 n)
table_samples f n h j l =
    let e = table_length f 0 n in
    let l' : j < n = omega arith in
    rw (table_at f 0 n j l') (h (0 + j))

-- ---- back
past : (l : Line) (i : ℕ) → l.residuals ≤ i → sample l (i + i + 1) ≡ l.avg i
unfolding sample
past l i p = let d : (i + i + 1) / 2 ≡ i = omega arith in rw (d, le-ltb i l.residuals p)

pub sample_sample : (l : Line) → ((i : ℕ) → Sample (l.avg i)) → (j : ℕ) → Sample (sample l j)
sample_sample l f j = by (half j)
  where
    even_place : (i : ℕ) → (i < l.residuals) ⊎ (l.residuals ≤ i) → Sample (sample l (i + i))
    even_place i (inl p) = rw (sample_first l i p) ((bijection (next_average l i) (before l i)).sample_first (l.avg i) (l.res i))
    even_place i (inr p) = rw (sample_tail l i p) (f i)

    odd_place : (i : ℕ) → (i < l.residuals) ⊎ (l.residuals ≤ i) → Sample (sample l (i + i + 1))
    odd_place i (inl p) = rw (sample_second l i p) ((bijection (next_average l i) (before l i)).sample_second (l.avg i) (l.res i))
    odd_place i (inr p) = rw (past l i p) (f i)

    by : Half j → Sample (sample l j)
    by (even i e) = rw e (even_place i (cases_lt i l.residuals))
    by (odd i e) = rw e (odd_place i (cases_lt i l.residuals))

pub uncut_samples : (s : Squeeze) → Samples s.avg → Samples (uncut s)
unfolding uncut output_at
uncut_samples s f =
    table_samples (output_at s) (s.lines * size s)
    (λ j.
    sample_sample (line_of s (line_at s.horizontal s.lines (size s) j))
    (λ i. rw (line_avg s (line_at s.horizontal s.lines (size s) j) i) (element s.avg f (place s.horizontal s.lines s.averages (line_at s.horizontal s.lines (size s) j) i)))
    (position_at s.horizontal s.lines (size s) j))

-- ---- forward
pub average_sample : (x : ℕ → ℤ) (n i : ℕ) → ((j : ℕ) → Sample (x j)) → Sample (average_at x n i)
unfolding average_at
average_sample x n i f = by (cases_lt (i + i + 1) n)
  where
    by : (i + i + 1 < n) ⊎ (n ≤ i + i + 1) → Sample (average_at x n i)
    by (inl p) = rw (lt-ltb (i + i + 1) n p) ((bijection (pos 0) (pos 0)).sample_average (x (i + i)) (x (i + i + 1)))
    by (inr p) = rw (le-ltb (i + i + 1) n p) (f (i + i))

pub averages_samples : (h : Bool) (lines n : ℕ) (xs : List ℤ) → Samples xs → Samples (averages_of h lines n xs)
unfolding averages_of
averages_samples h lines n xs f =
    table_samples _ (lines * average_count n)
    (λ j.
    average_sample (line_in h lines n xs (line_at h lines (average_count n) j)) n (position_at h lines (average_count n) j)
    (λ i. element xs f (place h lines n (line_at h lines (average_count n) j) i)))

pub residuals_samples : (h : Bool) (lines n : ℕ) (xs : List ℤ) → Samples (residuals_of h lines n xs)
unfolding residuals_of residual_at
residuals_samples h lines n xs =
    table_samples _ (lines * residual_count n)
    (λ j.
    (bijection (next_at (line_in h lines n xs (line_at h lines (residual_count n) j)) n (position_at h lines (residual_count n) j)) (prev_at (line_in h lines n xs (line_at h lines (residual_count n) j)) n (position_at h lines (residual_count n) j))).sample_residual _ _)
