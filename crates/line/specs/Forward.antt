-- The writer's way along a line and over a channel (document 01, "Whole runs"): "Forward, averages are the writer's, an odd last sample the tail
-- average, and each residual is first - second minus the tendency met there in rebuilding." Definitions only.
use Rattle.std.specs.Prelude.{Bool, cond, List, ℕ, zero, suc, ◌+◌, ◌-◌, ◌*◌, ◌/◌, ◌<◌, ltb, ℤ, pos, length, get_or}
use Rattle.arith32.specs.Arith.{Sample}
use Rattle.pair.specs.Pair.{average, residual}
use Rattle.line.specs.Uncut.{place, line_at, position_at, table}

-- the averages and the residuals of a line of so many samples
abbrev pub average_count : ℕ → ℕ
average_count size = (size + 1) / 2

abbrev pub residual_count : ℕ → ℕ
residual_count size = size - average_count size

-- average i of a line x of `size` samples: "the writer's, an odd last sample the tail average"
unfoldable pub average_at : (ℕ → ℤ) → ℕ → ℕ → ℤ
average_at x size i = cond (ltb (i + i + 1) size) (average (x (i + i)) (x (i + i + 1))) (x (i + i))

-- the next average and the previous output that rebuilding meets at pair i of a line alone
unfoldable pub next_at : (ℕ → ℤ) → ℕ → ℕ → ℤ
next_at x size i = cond (ltb (i + 1) (average_count size)) (average_at x size (i + 1)) (average_at x size i)

unfoldable pub prev_at : (ℕ → ℤ) → ℕ → ℕ → ℤ
prev_at x size zero = average_at x size 0
prev_at x size (suc i) = x (i + i + 1)

-- residual i
unfoldable pub residual_at : (ℕ → ℤ) → ℕ → ℕ → ℤ
residual_at x size i = residual (x (i + i)) (x (i + i + 1)) (next_at x size i) (prev_at x size i)

-- line k of a slice of so many lines of so many samples
abbrev pub line_in : Bool → ℕ → ℕ → List ℤ → ℕ → ℕ → ℤ
line_in horizontal lines size xs k i = get_or xs (place horizontal lines size k i) (pos 0)

-- the averages and the residuals of all lines, as slices
unfoldable pub averages_of : Bool → ℕ → ℕ → List ℤ → List ℤ
averages_of horizontal lines size xs =
    table
    (λ j.
    average_at (line_in horizontal lines size xs (line_at horizontal lines (average_count size) j)) size
    (position_at horizontal lines (average_count size) j))
    0 (lines * average_count size)

unfoldable pub residuals_of : Bool → ℕ → ℕ → List ℤ → List ℤ
residuals_of horizontal lines size xs =
    table
    (λ j.
    residual_at (line_in horizontal lines size xs (line_at horizontal lines (residual_count size) j)) size
    (position_at horizontal lines (residual_count size) j))
    0 (lines * residual_count size)

-- a slice of 32-bit samples
abbrev pub Samples : List ℤ → Type 0
Samples xs = (i : ℕ) → i < length xs → Sample (get_or xs i (pos 0))
