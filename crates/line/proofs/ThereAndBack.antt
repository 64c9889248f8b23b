-- A channel's lines together: rebuilding undoes the writer's averages and residuals, and the other way round (Alone.antt, line by line).
-- Assumes nothing.
use mathlib.Core.Path.{◌≡◌, sym, ◌∙◌}
use mathlib.Core.Bool.{Bool}
use mathlib.Core.List.{List, []}
use mathlib.Core.Logic.{◌⊎◌, inl, inr}
use Prim.Native.Nat.{ℕ, zero, suc, ◌+◌, ◌*◌, ◌<◌, ◌≤◌}
use native.Mathlib.Omega.{arith}
use borrow.Author.Tests.{lt-ltb, le-ltb}
use lib.IntN.{ℤ, pos}
use lib.ListN.{length, get_or}
use Rattle.arith32.specs.Arith.{Sample}
use Rattle.line.specs.Line.{sample}
use Rattle.line.specs.Uncut.{Squeeze, squeeze, place, size, line_of, output_at, uncut}
use Rattle.line.specs.Forward.{average_count, residual_count, average_at, next_at, prev_at, residual_at, line_in, averages_of, residuals_of, Samples}
use Rattle.line.proofs.Tables.{table_length}
use Rattle.line.proofs.Places.{at_place, entries, entry_at, is_entries}
use Rattle.std.proofs.lemmas.Bool.{cases_lt}
use Rattle.line.proofs.Lines.{Fits, Same, same_sample}
use Rattle.line.proofs.Outputs.{outer_none, uncut_at, line_averages, line_residuals, line_avg, line_res, line_next, line_prev}
use Rattle.line.proofs.Alone.{squeezed_line, line_again, averages_again, residuals_again}

-- ---- what stands at a place of the averages and of the residuals
module _ (h : Bool) (lines n : ℕ) (xs : List ℤ) where
  pub averages_length : length (averages_of h lines n xs) ≡ lines * average_count n
  unfolding averages_of
  averages_length = table_length _ 0 (lines * average_count n)

  pub residuals_length : length (residuals_of h lines n xs) ≡ lines * residual_count n
  unfolding residuals_of
  residuals_length = table_length _ 0 (lines * residual_count n)

  averages_at : (k i : ℕ) → k < lines → i < average_count n
      → get_or (averages_of h lines n xs) (place h lines (average_count n) k i) (pos 0) ≡ average_at (line_in h lines n xs k) n i
  unfolding averages_of
  averages_at = entry_at h lines (average_count n) (λ k i. average_at (line_in h lines n xs k) n i)

  pub residuals_at_lem : (k i : ℕ) → k < lines → i < residual_count n
      → get_or (residuals_of h lines n xs) (place h lines (residual_count n) k i) (pos 0) ≡ residual_at (line_in h lines n xs k) n i
  unfolding residuals_of
  residuals_at_lem = entry_at h lines (residual_count n) (λ k i. residual_at (line_in h lines n xs k) n i)

-- a line's averages and residuals are as many as its samples
pub all_samples : (n : ℕ) → average_count n + residual_count n ≡ n
all_samples n = omega arith

-- ---- there and back
module _ (h : Bool) (lines n : ℕ) (xs : List ℤ) (long : length xs ≡ lines * n) (f : Samples xs) where
  -- the squeeze of the writer's averages and residuals
  abbrev pub squeezed : Squeeze
  squeezed = squeeze h lines (average_count n) (residual_count n) (averages_of h lines n xs) (residuals_of h lines n xs) [] []

  line_sample : (k : ℕ) → k < lines → (i : ℕ) → i < n → Sample (line_in h lines n xs k i)
  line_sample k hk i hi = at_place h lines n Sample xs long f k i hk hi

  same : (k : ℕ) → k < lines → Same (squeezed_line (line_in h lines n xs k) n) (line_of squeezed k)
  same k hk =
      record {
        averages = line_averages squeezed k;
        residuals = line_residuals squeezed k;
        avg = λ i hi. line_avg squeezed k i ∙ averages_at h lines n xs k i hk hi;
        res = λ i hi. line_res squeezed k i ∙ residuals_at_lem h lines n xs k i hk hi;
        next = line_next squeezed k ∙ outer_none k;
        prev = line_prev squeezed k ∙ outer_none k;
      }

  fits : (k : ℕ) → 0 < n → Fits (line_of squeezed k)
  fits k p =
      let a = line_averages squeezed k in
      let r = line_residuals squeezed k in
      record { some = omega arith; low = omega arith; high = omega arith }

  rebuilt_at : (k j : ℕ) → k < lines → j < n → sample (line_of squeezed k) j ≡ line_in h lines n xs k j
  rebuilt_at k j hk hj =
      let a = line_averages squeezed k in
      let r = line_residuals squeezed k in
      same_sample (squeezed_line (line_in h lines n xs k) n) (line_of squeezed k) (fits k (omega arith)) (same k hk) j (omega arith)
      ∙ line_again (line_in h lines n xs k) n (line_sample k hk) j hj

  pub rebuilt : uncut squeezed ≡ xs
  unfolding uncut output_at
  rebuilt =
      sym (is_entries h lines (size squeezed) (λ k i. sample (line_of squeezed k) i) xs (rw (all_samples n) long)
      (λ k i hk hi. let l : i < n = omega arith in rw (all_samples n) (sym (rebuilt_at k i hk l))))

-- ---- lines that agree on their samples have the same averages and residuals
module _ (x y : ℕ → ℤ) (n : ℕ) (e : (i : ℕ) → i < n → x i ≡ y i) where
  pub average_cong : (i : ℕ) → i < average_count n → average_at x n i ≡ average_at y n i
  unfolding average_at
  average_cong i h = by (cases_lt (i + i + 1) n)
    where
      by : (i + i + 1 < n) ⊎ (n ≤ i + i + 1) → average_at x n i ≡ average_at y n i
      by (inl p) = rw (lt-ltb (i + i + 1) n p, e (i + i) (omega arith), e (i + i + 1) p)
      by (inr p) = rw (le-ltb (i + i + 1) n p) (e (i + i) (omega arith))

  pub next_cong : (i : ℕ) → i < average_count n → next_at x n i ≡ next_at y n i
  unfolding next_at
  next_cong i h = by (cases_lt (i + 1) (average_count n))
    where
      by : (i + 1 < average_count n) ⊎ (average_count n ≤ i + 1) → next_at x n i ≡ next_at y n i
      by (inl p) = rw (lt-ltb (i + 1) (average_count n) p) (average_cong (i + 1) p)
      by (inr p) = rw (le-ltb (i + 1) (average_count n) p) (average_cong i h)

  pub prev_cong : (i : ℕ) → i < average_count n → prev_at x n i ≡ prev_at y n i
  unfolding prev_at
  prev_cong zero h = average_cong 0 h
  prev_cong (suc i) h = e (i + i + 1) (omega arith)

  pub residual_cong : (i : ℕ) → i < residual_count n → residual_at x n i ≡ residual_at y n i
  unfolding residual_at
  residual_cong i h =
      rw (e (i + i) (omega arith), e (i + i + 1) (omega arith), next_cong i (omega arith), prev_cong i (omega arith))

-- ---- back and there
module _ (h : Bool) (lines n : ℕ) (avg res : List ℤ) (la : length avg ≡ lines * average_count n) (lr : length res ≡ lines * residual_count n)
    (fa : Samples avg) (fr : Samples res) where
  -- the squeeze of given averages and residuals, alone
  abbrev pub given : Squeeze
  given = squeeze h lines (average_count n) (residual_count n) avg res [] []

  in_all : size given ≡ n
  in_all = omega arith

  no_next : (k : ℕ) → (line_of given k).next ≡ []
  no_next k = line_next given k ∙ outer_none k

  no_prev : (k : ℕ) → (line_of given k).prev ≡ []
  no_prev k = line_prev given k ∙ outer_none k

  line_of_uncut : (k i : ℕ) → k < lines → i < n → line_in h lines n (uncut given) k i ≡ sample (line_of given k) i
  line_of_uncut k i hk hi =
      let e = uncut_at given k i hk (omega arith) in
      rw in_all at e

  avg_sample : (k : ℕ) → k < lines → (i : ℕ) → i < (line_of given k).averages → Sample ((line_of given k).avg i)
  avg_sample k hk i hi =
      let a = line_averages given k in
      rw (line_avg given k i) (at_place h lines (average_count n) Sample avg la fa k i hk (omega arith))

  res_sample : (k : ℕ) → k < lines → (i : ℕ) → i < (line_of given k).residuals → Sample ((line_of given k).res i)
  res_sample k hk i hi =
      let r = line_residuals given k in
      rw (line_res given k i) (at_place h lines (residual_count n) Sample res lr fr k i hk (omega arith))

  -- what is made of each line of the output is what was given
  back_by : (m : ℕ) (made : (ℕ → ℤ) → ℕ → ℤ) (xs : List ℤ) → length xs ≡ lines * m
      → ((x y : ℕ → ℤ) → ((i : ℕ) → i < n → x i ≡ y i) → (i : ℕ) → i < m → made x i ≡ made y i)
      → ((k i : ℕ) → k < lines → i < m → made (sample (line_of given k)) i ≡ get_or xs (place h lines m k i) (pos 0))
      → entries h lines m (λ k i. made (line_in h lines n (uncut given) k) i) ≡ xs
  back_by m made xs long cong again =
      sym (is_entries h lines m _ xs long
      (λ k i hk hi. sym (cong (line_in h lines n (uncut given) k) (sample (line_of given k)) (λ j hj. line_of_uncut k j hk hj) i hi ∙ again k i hk hi)))

  pub averages_back : averages_of h lines n (uncut given) ≡ avg
  unfolding averages_of
  averages_back =
      back_by (average_count n) (λ x i. average_at x n i) avg la (λ x y. average_cong x y n)
      (λ k i hk hi.
      let a = line_averages given k in
      averages_again (line_of given k) n a (line_residuals given k) (no_next k) (no_prev k) (avg_sample k hk) (res_sample k hk) i (omega arith) ∙ line_avg given k i)

  pub residuals_back : residuals_of h lines n (uncut given) ≡ res
  unfolding residuals_of
  residuals_back =
      back_by (residual_count n) (λ x i. residual_at x n i) res lr (λ x y. residual_cong x y n)
      (λ k i hk hi.
      let r = line_residuals given k in
      residuals_again (line_of given k) n (line_averages given k) r (no_next k) (no_prev k) (avg_sample k hk) (res_sample k hk) i (omega arith) ∙ line_res given k i)
