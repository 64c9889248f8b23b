-- The entries of a stretch (`average_over` and `residual_over` of specs/Rows.antt) are those of their lines: of any line that has the stretch's samples
-- at the places of a pair, of a line that is a slice, and of all lines across a row. Assumes nothing.
use mathlib.Core.Path.{◌≡◌, sym, ap, ◌∙◌}
use mathlib.Core.Bool.{true, false}
use mathlib.Core.List.{List}
use mathlib.Core.Logic.{◌⊎◌, inl, inr}
use Prim.Native.Nat.{ℕ, ◌+◌, ◌-◌, ◌*◌, ◌<◌, ◌≤◌}
use native.Mathlib.Omega.{arith}
use lib.IntN.{ℤ, pos}
use lib.ListN.{length, get_or, take, drop}
use lib.Seq.{get_or-drop, get_or-take}
use lib.Signed.{mag}
use Rattle.arith32.specs.Arith.{Sample}
use Rattle.pair.specs.Pair as P
use Rattle.line.specs.Uncut.{table}
use Rattle.line.specs.Forward.{average_count, residual_count, average_at, next_at, prev_at, residual_at, line_in}
use Rattle.std.proofs.lemmas.Bool.{cases_lt}
use Rattle.line.proofs.Tables.{table_cong}
use Rattle.line.proofs.Alone.{average_pair, average_tail}
use Rattle.line.proofs.ThereAndBack.{average_cong, residual_cong}
use Rattle.forward.specs.Rows.{along, average_entry, residual_entry, sample_over, Read, average_over, residual_over, next_first}
use Rattle.forward.proofs.Entries.{next_inside, residual_pair, prev_later, average_entry_lem, residual_entry_lem}
use Rattle.forward.proofs.Nexts.{next_second, next_average_lem}

-- ---- what was read, one more each turn
module _ (step : ℕ) (xs : List ℤ) where
  pub read_more : (n : ℕ) → mag (sample_over xs step n) < 2147483648 → Read n step xs → Read (n + 1) step xs
  read_more n m r x h = by (cases_lt x n)
    where
      by : (x < n) ⊎ (n ≤ x) → Sample (sample_over xs step x)
      by (inl l) = r x l
      by (inr l) = let e : x ≡ n = omega arith in rw e (record { sfits = m })

-- ---- pair i of a line x
module _ (x : ℕ → ℤ) (size i : ℕ) (first second : List ℤ) (step e : ℕ) (h : i + i + 1 < size)
    (a : sample_over first step e ≡ x (i + i)) (b : sample_over second step e ≡ x (i + i + 1)) where
  pub average_over_lem : average_over first second step e ≡ average_at x size i
  unfolding average_over
  average_over_lem = rw (a, b) (sym (average_pair x size i h))

  pub residual_over_lem : (before : ℕ → ℤ → ℤ) (third fourth : List ℤ) → P.average (sample_over third step e) (sample_over fourth step e) ≡ next_at x size i
      → before (e * step) (average_at x size i) ≡ prev_at x size i
      → residual_over before first second third fourth step e ≡ residual_at x size i
  unfolding residual_over P.residual
  residual_over_lem before third fourth next prev =
      rw (average_over_lem, prev, next, a, b) (sym (residual_pair x size i))

-- ---- a line that is a slice
module _ (line : List ℤ) where
  -- it from sample k on
  abbrev pub behind : ℕ → List ℤ
  behind k = take (length line - k) (drop k line)

  ahead : (k j e : ℕ) → k + e * 2 ≡ j → j < length line → sample_over (behind k) 2 e ≡ along line j
  ahead k j e s h = get_or-take (length line - k) (drop k line) (e * 2) (pos 0) (omega arith) ∙ get_or-drop k line (e * 2) (pos 0) ∙ rw s

  -- the pairs behind the first
  pub inner_average : (e : ℕ) → e + e + 3 < length line → average_over (behind 2) (behind 3) 2 e ≡ average_at (along line) (length line) (1 + e)
  inner_average e h =
      average_over_lem (along line) (length line) (1 + e) (behind 2) (behind 3) 2 e (omega arith)
      (ahead 2 _ e (omega arith) (omega arith)) (ahead 3 _ e (omega arith) (omega arith))

  pub inner_residual : (e : ℕ) → e + e + 5 < length line
      → residual_over (λ i average. get_or (behind 1) i (pos 0)) (behind 2) (behind 3) (behind 4) (behind 5) 2 e
      ≡ residual_at (along line) (length line) (1 + e)
  inner_residual e h =
      let n = length line in
      residual_over_lem (along line) n (1 + e) (behind 2) (behind 3) 2 e (omega arith)
      (ahead 2 _ e (omega arith) (omega arith)) (ahead 3 _ e (omega arith) (omega arith))
      (λ i average. get_or (behind 1) i (pos 0)) (behind 4) (behind 5)
      (rw (ahead 4 (1 + e + 1 + (1 + e + 1)) e (omega arith) (omega arith), ahead 5 (1 + e + 1 + (1 + e + 1) + 1) e (omega arith) (omega arith))
      (sym (next_inside (along line) n (1 + e) (omega arith) ∙ average_pair (along line) n (1 + e + 1) (omega arith))))
      (ahead 1 (1 + e + (1 + e) - 1) e (omega arith) (omega arith) ∙ sym (prev_later (along line) n (1 + e) (λ (z : 1 + e ≡ 0). omega arith)))

-- ---- rows of a slice
module _ (count width : ℕ) (xs : List ℤ) where
  abbrev pub row : ℕ → List ℤ
  row j = take width (drop (j * width) xs)

  row_at : (j e : ℕ) → e < width → get_or (row j) e (pos 0) ≡ get_or xs (j * width + e) (pos 0)
  row_at j e l = get_or-take width (drop (j * width) xs) e (pos 0) l ∙ get_or-drop (j * width) xs e (pos 0)

  -- line y of a horizontal squeeze
  pub line_average : (y x : ℕ) → y < count → x < average_count width
      → average_at (along (row y)) width x ≡ average_entry true count width xs (y * average_count width + x)
  line_average y x h l =
      average_cong (along (row y)) (line_in true count width xs y) width (row_at y) x l ∙ average_entry_lem true count width xs y x l

  pub line_residual : (y x : ℕ) → y < count → x < residual_count width
      → residual_at (along (row y)) width x ≡ residual_entry true count width xs (y * residual_count width + x)
  line_residual y x h l =
      residual_cong (along (row y)) (line_in true count width xs y) width (row_at y) x l ∙ residual_entry_lem true count width xs y x l

  -- line e of a vertical one, and its sample j
  abbrev line : ℕ → ℕ → ℤ
  line e = line_in false width count xs e

  across : (j e : ℕ) → e < width → sample_over (row j) 1 e ≡ line_in false width count xs e j
  across j e l =
      let s : e * 1 ≡ e = omega arith in
      rw s (row_at j e l)

  -- the row of tails, behind n pairs
  pub row_tail : (n e : ℕ) → count ≡ n + n + 1 → e < width → get_or (row (n + n)) e (pos 0) ≡ average_entry false width count xs (n * width + e)
  row_tail n e s l =
      row_at (n + n) e l
      ∙ sym (average_tail (line_in false width count xs e) count n (omega arith)) ∙ average_entry_lem false width count xs n e l

  -- ---- pair y of all lines, in slices of its samples and of what stands for the pair after it
  module _ (y : ℕ) (h : y + y + 1 < count) (first second : List ℤ) (a : first ≡ row (y + y)) (b : second ≡ row (y + y + 1)) where
    first_at : (e : ℕ) → e < width → sample_over first 1 e ≡ line e (y + y)
    first_at e l = rw a (across (y + y) e l)

    second_at : (e : ℕ) → e < width → sample_over second 1 e ≡ line e (y + y + 1)
    second_at e l = rw b (across (y + y + 1) e l)

    pub row_averages : table (average_over first second 1) 0 width ≡ table (average_entry false width count xs) (y * width) width
    row_averages =
        table_cong (average_over first second 1) (average_entry false width count xs) 0 (y * width) width
        (λ e l.
        let z : 0 + e ≡ e = omega arith in
        rw z (average_over_lem (line e) count y first second 1 e h (first_at e l) (second_at e l) ∙ average_entry_lem false width count xs y e l))

    pub row_residuals : (t f : ℕ) → (t ≡ next_first count y) × (f ≡ next_second count t) → (third fourth : List ℤ) → third ≡ row t → fourth ≡ row f
        → Read width 1 third → (before : ℕ → ℤ → ℤ)
        → ((e : ℕ) → e < width → before (e * 1) (average_at (line_in false width count xs e) count y) ≡ prev_at (line_in false width count xs e) count y)
        → table (residual_over before first second third fourth 1) 0 width ≡ table (residual_entry false width count xs) (y * width) width
    row_residuals t f after third fourth p q read before prev =
        table_cong (residual_over before first second third fourth 1) (residual_entry false width count xs) 0 (y * width) width
        (λ e l.
        let z : 0 + e ≡ e = omega arith in
        rw z
        (residual_over_lem (line e) count y first second 1 e h (first_at e l) (second_at e l) before third fourth (next e l) (prev e l)
        ∙ residual_entry_lem false width count xs y e l))
      where
        next : (e : ℕ) → e < width → P.average (sample_over third 1 e) (sample_over fourth 1 e) ≡ next_at (line_in false width count xs e) count y
        next e l =
            let j = next_first count y in
            let u : sample_over third 1 e ≡ line e j = rw (p ∙ ap row after.0) (across j e l) in
            let v : sample_over fourth 1 e ≡ line e (next_second count j) = rw (q ∙ ap row (after.1 ∙ ap (next_second count) after.0)) (across (next_second count j) e l) in
            rw (u, v) (sym (next_average_lem (line e) count y h (rw u at (read e l))))

    -- where the pair is not the first
    pub row_before : (before : List ℤ) → before ≡ row (y + y - 1) → (y ≡ 0 → ⊥)
        → (e : ℕ) → e < width → get_or before (e * 1) (pos 0) ≡ prev_at (line_in false width count xs e) count y
    row_before before p z e l = rw p (across (y + y - 1) e l) ∙ sym (prev_later (line e) count y z)
