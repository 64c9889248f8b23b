-- The writer's mark of lines by the residuals and the samples (`written_by_samples` of crate line), also where it is not known that these have 32 bits:
-- they do where none lies outside, and unmarked lines have no sample outside. So the mark of fitting slices. Assumes nothing.
use mathlib.Core.Path.{◌≡◌, sym, ◌∙◌}
use mathlib.Core.Bool.{Bool, true, false, ◌||◌, ◌&&◌}
use mathlib.Core.List.{List}
use mathlib.Core.Logic.{◌⊎◌, inl, inr}
use Prim.Native.Nat.{ℕ, ◌+◌, ◌*◌, ◌<◌, ◌≤◌}
use native.Mathlib.Omega.{arith}
use borrow.Author.Tests.{lt-ltb}
use lib.Dec.{ltb}
use lib.IntN.{ℤ, pos}
use lib.ListN.{length, get_or}
use Rattle.std.proofs.lemmas.Bool.{cases_lt}
use Rattle.arith32.specs.Arith.{Sample}
use Rattle.arith32.proofs.Whole.{in_range32}
use Rattle.range.specs.Range.{outside, some_outside, some}
use Rattle.range.proofs.Some.{left_false, right_false, same, each}
use Rattle.range.proofs.Slices.{inside}
use Rattle.standard.proofs.Range.{inside_domain, domain_range}
use Rattle.pair.specs.Marks.{written_marked}
use Rattle.pair.proofs.Six.{six}
use Rattle.line.specs.Forward.{average_count, residual_count, average_at, line_in, residuals_of, Samples}
use Rattle.line.specs.Marks.{written_at_marked, written_line_marked, lines_marked}
use Rattle.line.proofs.Lines.{Half, even, odd, half}
use Rattle.line.proofs.Alone.{average_tail}
use Rattle.line.proofs.Marks.{all_places}
use Rattle.line.proofs.WrittenMarks.{written_by_samples}
use Rattle.forward.specs.Into.{slices_fit, marked_into}
use Rattle.forward.proofs.Fitted.{told_fit}

-- ---- unmarked lines
module _ (x : ℕ → ℤ) (size : ℕ) (e : written_line_marked x size ≡ false) where
  pairs_unmarked : (i : ℕ) → i + i + 1 < size → written_at_marked x size i ≡ false
  unfolding written_line_marked
  pairs_unmarked i h = each (written_at_marked x size) (residual_count size) (left_false _ _ e) i (omega arith)

  pair_inside : (i : ℕ) → i + i + 1 < size → (outside (x (i + i)) ≡ false) × (outside (x (i + i + 1)) ≡ false)
  unfolding written_at_marked written_marked
  pair_inside i h = let s = six _ _ _ _ (x (i + i)) (x (i + i + 1)) (pairs_unmarked i h) in (s.first, s.second)

  tail_inside : (i : ℕ) → size ≡ i + i + 1 → outside (x (i + i)) ≡ false
  unfolding written_line_marked
  tail_inside i h =
      let k : residual_count size ≡ i = omega arith in
      let tail = right_false (some (written_at_marked x size) (residual_count size)) (ltb (residual_count size) (average_count size) && outside (average_at x size (residual_count size))) e in
      rw (lt-ltb (residual_count size) (average_count size) (omega arith), k, average_tail x size i (omega arith)) at tail

  sample_inside : (j : ℕ) → j < size → outside (x j) ≡ false
  sample_inside j h = by (half j)
    where
      at_pair : (i : ℕ) → i + i < size → (i + i + 1 < size) ⊎ (size ≤ i + i + 1) → outside (x (i + i)) ≡ false
      at_pair i l (inl p) = (pair_inside i p).0
      at_pair i l (inr p) = tail_inside i (omega arith)

      by : Half j → outside (x j) ≡ false
      by (even i q) = rw q (at_pair i (omega arith) (cases_lt (i + i + 1) size))
      by (odd i q) = rw q ((pair_inside i (omega arith)).1)

-- ---- what lies inside has 32 bits
inside_sample : (z : ℤ) → outside z ≡ false → Sample z
inside_sample z e = let r = domain_range z (inside_domain z e) in in_range32 z (omega arith) (omega arith)

inside_samples : (xs : List ℤ) → some_outside xs ≡ false → Samples xs
inside_samples xs e i h = inside_sample (get_or xs i (pos 0)) (inside xs e i h)

-- ---- the mark
module _ (h : Bool) (lines n : ℕ) (xs : List ℤ) (long : length xs ≡ lines * n) where
  samples_in : lines_marked h lines n xs ≡ false → some_outside xs ≡ false
  unfolding lines_marked
  samples_in e =
      all_places h lines n xs long
      (λ k j hk hj. sample_inside (line_in h lines n xs k) n (each (λ k. written_line_marked (line_in h lines n xs k) n) lines e k hk) j hj)

  pub written_by_slices : lines_marked h lines n xs ≡ (some_outside (residuals_of h lines n xs) || some_outside xs)
  written_by_slices =
      same (lines_marked h lines n xs) (some_outside (residuals_of h lines n xs) || some_outside xs)
      (λ e. sym (where_inside (samples_in e)) ∙ e)
      (λ e. where_inside (right_false (some_outside (residuals_of h lines n xs)) (some_outside xs) e) ∙ e)
    where
      where_inside : some_outside xs ≡ false → lines_marked h lines n xs ≡ (some_outside (residuals_of h lines n xs) || some_outside xs)
      where_inside e = written_by_samples h lines n xs long (inside_samples xs e)

  pub marked_fit : (out : List ℤ) → slices_fit lines n xs out ≡ true → marked_into h lines n xs out ≡ (some_outside (residuals_of h lines n xs) || some_outside xs)
  marked_fit out e = told_fit h lines n xs out e ∙ written_by_slices
