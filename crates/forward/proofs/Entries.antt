-- Next average, previous output and residual of a line (`next_at` and the rest of crate line) case by case, as the functions meet them; what stands
-- at entry x of row y of the averages or residuals; and how far the rows reach. Assumes nothing.
use mathlib.Core.Path.{◌≡◌, refl, sym, ◌∙◌}
use mathlib.Core.Bool.{Bool, true, false, cond}
use mathlib.Core.List.{List}
use Prim.Native.Nat.{ℕ, zero, suc, ◌+◌, ◌-◌, ◌*◌, ◌/◌, ◌<◌, ◌≤◌}
use native.Mathlib.Omega.{arith}
use native.Mathlib.Nat.{mul-le-mul_right, add-mul, mul-add, mul_comm}
use borrow.Author.Tests.{lt-ltb, le-ltb}
use lib.IntN.{ℤ}
use Rattle.arith32.specs.Arith.{◌⊖◌}
use Rattle.pair.specs.Pair as P
use Rattle.line.specs.Uncut.{line_at, position_at}
use Rattle.line.specs.Forward as F
use Rattle.line.specs.Forward.{average_count, residual_count, average_at, next_at, prev_at, residual_at, line_in}
use Rattle.line.proofs.Places.{row_of, rest_of}
use Rattle.forward.specs.Rows.{average_entry, residual_entry}

-- ---- along a line
module _ (x : ℕ → ℤ) (size i : ℕ) where
  pub next_inside : i + i + 2 < size → next_at x size i ≡ average_at x size (i + 1)
  unfolding F.next_at
  next_inside h = let l : i + 1 < average_count size = omega arith in rw (lt-ltb (i + 1) (average_count size) l)

  pub next_last : size ≤ i + i + 2 → next_at x size i ≡ average_at x size i
  unfolding F.next_at
  next_last h = let l : average_count size ≤ i + 1 = omega arith in rw (le-ltb (i + 1) (average_count size) l)

  pub residual_pair : residual_at x size i ≡ P.residual_of (x (i + i) ⊖ x (i + i + 1)) (P.average (x (i + i)) (x (i + i + 1))) (next_at x size i) (prev_at x size i)
  unfolding F.residual_at P.residual
  residual_pair = refl

pub prev_first : (x : ℕ → ℤ) (size i : ℕ) → i ≡ 0 → prev_at x size i ≡ average_at x size i
unfolding F.prev_at
prev_first x size zero h = refl
prev_first x size (suc i) h = absurd (omega arith)

pub prev_later : (x : ℕ → ℤ) (size i : ℕ) → (i ≡ 0 → ⊥) → prev_at x size i ≡ x (i + i - 1)
unfolding F.prev_at
prev_later x size zero h = absurd (h refl)
prev_later x size (suc i) h = let e : suc i + suc i - 1 ≡ i + i + 1 = omega arith in rw e

-- ---- along a row
-- the entries of a row, where each of so many lines has `count`
abbrev pub wide : Bool → ℕ → ℕ → ℕ
wide horizontal lines count = cond horizontal count lines

-- the line and the position of entry x of row y
pub line_of_row : (h : Bool) (lines m y x : ℕ) → x < wide h lines m → line_at h lines m (y * wide h lines m + x) ≡ cond h y x
line_of_row true lines m y x l = row_of y m x l
line_of_row false lines m y x l = rest_of y lines x l

pub position_of_row : (h : Bool) (lines m y x : ℕ) → x < wide h lines m → position_at h lines m (y * wide h lines m + x) ≡ cond h x y
position_of_row true lines m y x l = rest_of y m x l
position_of_row false lines m y x l = row_of y lines x l

module _ (h : Bool) (lines size : ℕ) (xs : List ℤ) (y x : ℕ) where
  pub average_entry_lem : x < wide h lines (average_count size)
      → average_at (line_in h lines size xs (cond h y x)) size (cond h x y) ≡ average_entry h lines size xs (y * wide h lines (average_count size) + x)
  unfolding average_entry
  average_entry_lem l = rw (line_of_row h lines (average_count size) y x l, position_of_row h lines (average_count size) y x l)

  pub residual_entry_lem : x < wide h lines (residual_count size)
      → residual_at (line_in h lines size xs (cond h y x)) size (cond h x y) ≡ residual_entry h lines size xs (y * wide h lines (residual_count size) + x)
  unfolding residual_entry
  residual_entry_lem l = rw (line_of_row h lines (residual_count size) y x l, position_of_row h lines (residual_count size) y x l)

-- ---- rows of w; the averages and the residuals of a line, and of all lines
pub row_room : (y h w : ℕ) → y < h → y * w + w ≤ h * w
row_room y h w l = let r : (y + 1) * w ≤ h * w = mul-le-mul_right w (omega arith) in omega (arith, add-mul y 1 w)

-- pair y of all lines, among their averages and their residuals
pub row_ends : (y lines size : ℕ) → y + y + 1 < size → (y * lines + lines ≤ lines * average_count size) × (y * lines + lines ≤ lines * residual_count size)
row_ends y lines size h = (
  omega (arith, row_room y (average_count size) lines (omega arith), mul_comm lines (average_count size)),
  omega (arith, row_room y (residual_count size) lines (omega arith), mul_comm lines (residual_count size)),
)

pub halves : (size : ℕ) → (size - size / 2 ≡ average_count size) × (size / 2 ≡ residual_count size)
halves size = (omega arith, omega arith)

pub area : (lines size : ℕ) → lines * average_count size + lines * residual_count size ≡ lines * size
area lines size =
    let e : average_count size + residual_count size ≡ size = omega arith in
    sym (mul-add lines (average_count size) (residual_count size)) ∙ rw e
