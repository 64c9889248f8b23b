-- The writer's mark of a channel (specs/Marks.antt) by its slices: some residual or some sample lies outside the plain range. It is the mark of
-- rebuilding from what is written. Assumes nothing.
use mathlib.Core.Path.{◌≡◌, refl, sym, ap, ◌∙◌}
use mathlib.Core.Bool.{Bool, true, false, ◌||◌}
use mathlib.Core.List.{List, [], ◌∷◌}
use mathlib.Core.Logic.{inl}
use Prim.Native.Nat.{ℕ, suc, ◌+◌, ◌*◌, ◌<◌, ◌≤◌}
use native.Mathlib.Omega.{arith}
use lib.IntN.{ℤ}
use lib.ListN.{length}
use Rattle.arith32.specs.Arith.{Sample}
use Rattle.range.specs.Range.{some_outside}
use Rattle.range.proofs.Some.{left_false, right_false, both_false, same, none, each}
use Rattle.line.specs.Uncut.{Fitting, place}
use Rattle.line.specs.Forward.{average_count, residual_count, average_at, line_in, residuals_of, Samples}
use Rattle.line.specs.Marks.{squeeze_marked, written_line_marked, lines_marked}
use Rattle.line.proofs.Places.{at_place}
use Rattle.line.proofs.Alone.{squeezed_line, line_again}
use Rattle.line.proofs.ThereAndBack.{averages_length, residuals_length, residuals_at_lem, squeezed, rebuilt}
use Rattle.line.proofs.Sampled.{element, average_sample, averages_samples}
use Rattle.line.proofs.LineMarks.{LineInside, line_inside, line_unmarked, line_written}
use Rattle.line.proofs.Marks.{each_place, all_places, no_outers, marked_by_samples}

module _ (h : Bool) (lines n : ℕ) (xs : List ℤ) (long : length xs ≡ lines * n) (f : Samples xs) where
  abbrev line : ℕ → ℕ → ℤ
  line k = line_in h lines n xs k

  line_samples : (k : ℕ) → k < lines → (i : ℕ) → i < n → Sample (line k i)
  line_samples k hk i hi = at_place h lines n Sample xs long f k i hk hi

  squeezed_low : (k : ℕ) → (squeezed_line (line k) n).residuals ≤ (squeezed_line (line k) n).averages
  squeezed_low k = omega arith

  squeezed_high : (k : ℕ) → (squeezed_line (line k) n).averages ≤ (squeezed_line (line k) n).residuals + 1
  squeezed_high k = omega arith

  module _ (e : lines_marked h lines n xs ≡ false) where
    in_line : (k : ℕ) → k < lines → LineInside (squeezed_line (line k) n)
    unfolding lines_marked
    in_line k hk =
        line_inside (squeezed_line (line k) n) (squeezed_low k) (squeezed_high k)
        (sym (line_written (line k) n (line_samples k hk)) ∙ each (λ k. written_line_marked (line k) n) lines e k hk)

    residuals_in : some_outside (residuals_of h lines n xs) ≡ false
    residuals_in =
        all_places h lines (residual_count n) (residuals_of h lines n xs) (residuals_length h lines n xs)
        (λ k i hk hi. rw (residuals_at_lem h lines n xs k i hk hi) ((in_line k hk).res i hi))

    samples_in : some_outside xs ≡ false
    samples_in =
        all_places h lines n xs long
        (λ k i hk hi. rw (line_again (line k) n (line_samples k hk) i hi) at ((in_line k hk).out i (omega arith)))

  module _ (er : some_outside (residuals_of h lines n xs) ≡ false) (ex : some_outside xs ≡ false) where
    inside_line : (k : ℕ) → k < lines → LineInside (squeezed_line (line k) n)
    inside_line k hk =
        record {
          res = λ i hi.
              rw (residuals_at_lem h lines n xs k i hk hi) at
              (each_place h lines (residual_count n) (residuals_of h lines n xs) (residuals_length h lines n xs) er k i hk hi);
          out = λ j hj.
              let l : j < n = omega arith in
              rw (line_again (line k) n (line_samples k hk) j l) (each_place h lines n xs long ex k j hk l);
          prev = λ x ys p q. absurd (nil_not q);
          next = λ x ys p m q. absurd (nil_not q);
        }
      where
        nil_not : {x : ℤ} {ys : List ℤ} → [] ≡ x ∷ ys → ⊥
        nil_not {ys = ys} q = let z : 0 ≡ suc (length ys) = ap length q in absurd (omega arith)

    averages_samples_lem : (k : ℕ) → k < lines → (i : ℕ) → i < average_count n → Sample (average_at (line k) n i)
    averages_samples_lem k hk i hi = average_sample (line k) n i (λ j. element xs f (place h lines n k j))

    lines_unmarked : lines_marked h lines n xs ≡ false
    unfolding lines_marked
    lines_unmarked =
        none (λ k. written_line_marked (line k) n) lines
        (λ k hk.
        line_written (line k) n (line_samples k hk)
        ∙ line_unmarked (squeezed_line (line k) n) (squeezed_low k) (squeezed_high k) (averages_samples_lem k hk) (inside_line k hk))

  -- the writer's mark by the slices
  pub written_by_samples : lines_marked h lines n xs ≡ (some_outside (residuals_of h lines n xs) || some_outside xs)
  written_by_samples =
      same (lines_marked h lines n xs) (some_outside (residuals_of h lines n xs) || some_outside xs)
      (λ e. both_false _ _ (residuals_in e) (samples_in e))
      (λ e.
      lines_unmarked (left_false (some_outside (residuals_of h lines n xs)) (some_outside xs) e)
      (right_false (some_outside (residuals_of h lines n xs)) (some_outside xs) e))

  -- and it is that of rebuilding from what is written
  pub written_as_rebuilt : lines_marked h lines n xs ≡ squeeze_marked (squeezed h lines n xs long f)
  written_as_rebuilt =
      let s = squeezed h lines n xs long f in
      let t = averages_samples h lines n xs f in
      written_by_samples
      ∙ sym
      (marked_by_samples s fitting t ∙ rw (rebuilt h lines n xs long f, no_outers s refl refl) (rw (or_false (some_outside xs)) refl))
    where
      fitting : Fitting (squeezed h lines n xs long f)
      fitting =
          record {
            low = omega arith;
            high = omega arith;
            avg_length = averages_length h lines n xs;
            res_length = residuals_length h lines n xs;
            next_length = inl refl;
            prev_length = inl refl;
          }

      or_false : (b : Bool) → (b || false) ≡ b
      or_false true = refl
      or_false false = refl
