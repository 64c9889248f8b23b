-- The rows on either side of a pair of rows (specs/Rows.antt) are parts of the averages or an outer line, sample by sample. Assumes nothing.
use mathlib.Core.Path.{◌≡◌, refl, sym, ◌∙◌}
use mathlib.Core.List.{List}
use Prim.Native.Nat.{ℕ, ◌+◌, ◌-◌, ◌<◌, ◌≤◌}
use native.Mathlib.Omega.{arith}
use borrow.Author.Tests.{lt-ltb, le-ltb}
use lib.IntN.{ℤ, pos}
use lib.ListN.{length, get_or, take, drop, length-drop}
use lib.Seq.{take_all}
use Rattle.line.specs.Line.{or_else}
use Rattle.line.specs.Uncut.{outer, table}
use Rattle.columns.specs.Rows.{row_before, row_after}
use Rattle.line.proofs.Outers.{outer_none, outer_some}
use Rattle.line.proofs.Outputs.{part_length, part_at}
use Rattle.line.proofs.Tables.{is_table, table_at, table_length}

-- ---- the samples from `at` on: all of them, and w of them as a table
pub part_rest : (s : List ℤ) (at : ℕ) → take (length s - at) (drop at s) ≡ drop at s
part_rest s at = let l = length-drop at s in take_all (length s - at) (drop at s) (omega arith)

part_table : (f : ℕ → ℤ) (s : List ℤ) (at w : ℕ) → at + w ≤ length s → ((k : ℕ) → k < w → get_or s (at + k) (pos 0) ≡ f k)
    → take w (drop at s) ≡ table f 0 w
part_table f s at w h e =
    is_table f 0 w (take w (drop at s)) (part_length at w s h)
    (λ k l. let z : 0 + k ≡ k = omega arith in rw z (part_at at w k s l ∙ e k l))

-- ---- the row before
module _ (prev avg : List ℤ) (w : ℕ) where
  pub before_average : w ≤ length avg → length prev ≡ 0 → take w avg ≡ row_before prev avg w
  unfolding row_before
  before_average h e =
      part_table (λ k. or_else (outer prev k) (get_or avg k (pos 0))) avg 0 w (omega arith)
      (λ k l. let z : 0 + k ≡ k = omega arith in rw z (sym (outer_none prev k (get_or avg k (pos 0)) e)))

  pub before_outer : length prev ≡ w → prev ≡ row_before prev avg w
  unfolding row_before
  before_outer e =
      is_table (λ k. or_else (outer prev k) (get_or avg k (pos 0))) 0 w prev e
      (λ k l. let z : 0 + k ≡ k = omega arith in rw z (sym (outer_some prev k (get_or avg k (pos 0)) (omega arith))))

  pub before_length : length (row_before prev avg w) ≡ w
  unfolding row_before
  before_length = table_length (λ k. or_else (outer prev k) (get_or avg k (pos 0))) 0 w

  pub before_at : (k : ℕ) → k < w → get_or (row_before prev avg w) k (pos 0) ≡ or_else (outer prev k) (get_or avg k (pos 0))
  unfolding row_before
  before_at k h =
      let z : 0 + k ≡ k = omega arith in
      table_at (λ j. or_else (outer prev j) (get_or avg j (pos 0))) 0 w k h ∙ rw z refl

-- ---- the average row after
module _ (avg next : List ℤ) (at w : ℕ) where
  pub after_average : at + w < length avg → at + w + w ≤ length avg → take w (drop (at + w) avg) ≡ row_after avg next at w
  unfolding row_after
  after_average l h = rw (lt-ltb (at + w) (length avg) l) (part_table (λ k. get_or avg (at + w + k) (pos 0)) avg (at + w) w h (λ k i. refl))

  pub after_own : at + w ≤ length avg → length avg ≤ at + w → length next ≡ 0 → take w (drop at avg) ≡ row_after avg next at w
  unfolding row_after
  after_own h l e =
      rw (le-ltb (at + w) (length avg) l)
      (part_table (λ k. or_else (outer next k) (get_or avg (at + k) (pos 0))) avg at w h (λ k i. sym (outer_none next k (get_or avg (at + k) (pos 0)) e)))

  pub after_outer : length avg ≤ at + w → length next ≡ w → next ≡ row_after avg next at w
  unfolding row_after
  after_outer l e =
      rw (le-ltb (at + w) (length avg) l)
      (is_table (λ k. or_else (outer next k) (get_or avg (at + k) (pos 0))) 0 w next e
      (λ k i. let z : 0 + k ≡ k = omega arith in rw z (sym (outer_some next k (get_or avg (at + k) (pos 0)) (omega arith)))))

  pub after_length : length (row_after avg next at w) ≡ w
  unfolding row_after
  after_length = table_length _ 0 w

  pub after_inside : (k : ℕ) → at + w < length avg → k < w → get_or (row_after avg next at w) k (pos 0) ≡ get_or avg (at + w + k) (pos 0)
  unfolding row_after
  after_inside k l h =
      let z : 0 + k ≡ k = omega arith in
      table_at _ 0 w k h ∙ rw (z, lt-ltb (at + w) (length avg) l) refl

  pub after_last : (k : ℕ) → length avg ≤ at + w → k < w
      → get_or (row_after avg next at w) k (pos 0) ≡ or_else (outer next k) (get_or avg (at + k) (pos 0))
  unfolding row_after
  after_last k l h =
      let z : 0 + k ≡ k = omega arith in
      table_at _ 0 w k h ∙ rw (z, le-ltb (at + w) (length avg) l) refl
