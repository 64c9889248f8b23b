-- A vertical squeeze from its parts: the averages copied where there is no pair; else the row before the first pair copied in, the ordinary pairs
-- of rows and the end of the lines put together (proofs/Pairs.antt of the crate line). Assumes nothing.
use mathlib.Core.Path.{◌≡◌, refl, sym, ◌∙◌}
use mathlib.Core.Bool.{Bool, false, ◌&&◌, ◌||◌}
use mathlib.Core.List.{List}
use Prim.Native.Nat.{ℕ, ◌+◌, ◌*◌, ◌/◌, ◌%◌, ◌<◌, ◌≤◌}
use native.Mathlib.Omega.{arith}
use native.Mathlib.Nat.{mul-le-mul_right}
use lib.IntN.{ℤ, pos}
use lib.ListN.{length, get_or, take, drop}
use Rattle.range.specs.Range.{some_outside}
use Rattle.line.specs.Line.{before}
use Rattle.line.specs.Uncut.{Squeeze, squeeze, Fitting, line_of, uncut}
use Rattle.line.specs.Pairs.{lines_of, Ordinary, Ended}
use Rattle.line.proofs.Places.{line_room, position_room, place_back}
use Rattle.line.proofs.Lines.{before_first}
use Rattle.line.proofs.Pairs.{put_together, averages_are_all}
use Rattle.line.proofs.IntoMarks.{unpaired_marked}
use Rattle.columns.specs.Rows.{row_before}
use Rattle.columns.proofs.OuterRows.{before_length, before_at}
use Rattle.columns.proofs.Marks.{same_front, all_marked}
use Rattle.columns.proofs.Pastes.{pasted, pasted_length, pasted_in}

-- ordinary pairs of rows do not depend on how many rows there are
more_rows : {w l m n : ℕ} {avg res old new : List ℤ} {prior after : ℕ → ℤ} {count : ℕ}
    → Ordinary (lines_of false w l count avg res) prior after old new 0 count
    → Ordinary (lines_of false w m n avg res) prior after old new 0 count
more_rows o = record { long = o.long; firsts = o.firsts; seconds = o.seconds; handed = o.handed; kept = o.kept }

module _ {w m n : ℕ} {avg res next prev : List ℤ} (fitting : Fitting (squeeze false w m n avg res next prev)) where
  abbrev s : Squeeze
  s = squeeze false w m n avg res next prev

  pub first_row_inside : 0 < m → w ≤ length avg
  first_row_inside h = omega (arith, fitting.avg_length, mul-le-mul_right w h)

  -- the row before, by the line rule
  before_is : (k : ℕ) → k < w → get_or (row_before prev avg w) k (pos 0) ≡ before (line_of s k) 0
  unfolding line_of
  before_is k h =
      let z : 0 * w + k ≡ k = omega arith in
      before_at prev avg w k h ∙ sym (before_first (line_of s k) ∙ rw z refl)

  module _ (out : List ℤ) (long : length out ≡ w * (m + n)) where
    -- ---- no pair
    module _ (none : n ≡ 0) where
      pub averages_long : length out ≡ length avg
      averages_long =
          let z : m + n ≡ m = omega arith in
          rw z at long ∙ sym fitting.avg_length

      pub averages_alone : avg ≡ uncut s
      averages_alone = averages_are_all fitting none

    -- ---- pairs, the last of which is i
    module _ (i : ℕ) (last : i + 1 ≡ n) where
      -- the first pair's rows and the row before it
      pub before_row_room : w + length (row_before prev avg w) ≤ length out
      before_row_room =
          let h : 2 ≤ m + n = omega (arith, fitting.low) in
          omega (arith, before_length prev avg w, mul-le-mul_right w h)

      pub rows_together : (from : ℕ) {mid new : List ℤ}
          → let old = pasted out w (row_before prev avg w) in
          Ordinary (lines_of false w (i + 1) i avg res) (λ k. get_or old (w + k) (pos 0)) (λ k. get_or mid (from + k) (pos 0)) old mid 0 i
          → Ended s (λ k. get_or mid (from + k) (pos 0)) mid new i → new ≡ uncut s
      rows_together from o e =
          let b = row_before prev avg w in
          put_together fitting (pasted_length out w b before_row_room ∙ long)
          (λ k hk. pasted_in out w b before_row_room k (omega (arith, before_length prev avg w)) ∙ before_is k hk)
          (more_rows o) e

  -- ---- the mark: the end of the lines leaves the rows before it
  rows_kept : {prior : ℕ → ℤ} {mid new : List ℤ} {i : ℕ} → Ended s prior mid new i → take ((i + i) * w) new ≡ take ((i + i) * w) mid
  rows_kept {prior} {mid} {new} {i} e =
      same_front ((i + i) * w) new mid e.long
      (λ q h.
      let l : q < w * (i + i) = omega arith in
      rw (place_back false w (i + i) q) at (e.kept (q % w) (q / w) (line_room false w (i + i) q l) (position_room false w (i + i) q l)))

  pub rows_marked : (b : Bool) (i : ℕ) {prior : ℕ → ℤ} {mid new : List ℤ} {earlier last : Bool} → Ended s prior mid new i → new ≡ uncut s
      → earlier ≡ (b && (some_outside (take (i * w) res) || some_outside (take ((i + i) * w) mid)))
      → last ≡ (b && (some_outside (drop (i * w) res) || some_outside (drop ((i + i) * w) new)))
      → (earlier || last) ≡ (b && (some_outside res || some_outside (uncut s)))
  rows_marked b i {prior} {mid} {new} e u f g =
      rw u at (all_marked b (i * w) ((i + i) * w) res mid new (rows_kept e) f g)

  -- without a pair there is no residual
  pub averages_marked : (b : Bool) {told : Bool} → n ≡ 0 → avg ≡ uncut s → told ≡ (b && some_outside avg)
      → told ≡ (b && (some_outside res || some_outside (uncut s)))
  averages_marked b none u e = unpaired_marked b s fitting none e
