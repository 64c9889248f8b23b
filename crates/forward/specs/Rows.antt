-- What stands at j of the averages and of the residuals (`averages_of` and `residuals_of` of crate line, entry by entry), and what a stretch makes.
-- Definitions only.
use Rattle.std.specs.Prelude.{◌≡◌, Bool, cond, List, ℕ, ◌+◌, ◌*◌, ◌<◌, ltb, ℤ, pos, length, get_or}
use Rattle.arith32.specs.Arith.{Sample}
use Rattle.pair.specs.Pair.{average, residual}
use Rattle.line.specs.Uncut.{line_at, position_at}
use Rattle.line.specs.Forward.{average_count, residual_count, average_at, residual_at, line_in}

-- the samples of a line that has a slice of its own
abbrev pub along : List ℤ → ℕ → ℤ
along xs i = get_or xs i (pos 0)

-- average and residual j of all lines
unfoldable pub average_entry : Bool → ℕ → ℕ → List ℤ → ℕ → ℤ
average_entry horizontal lines size xs j =
    average_at (line_in horizontal lines size xs (line_at horizontal lines (average_count size) j)) size
    (position_at horizontal lines (average_count size) j)

unfoldable pub residual_entry : Bool → ℕ → ℕ → List ℤ → ℕ → ℤ
residual_entry horizontal lines size xs j =
    residual_at (line_in horizontal lines size xs (line_at horizontal lines (residual_count size) j)) size
    (position_at horizontal lines (residual_count size) j)

-- the first n entries of a slice are those of f
abbrev pub Filled : (ℕ → ℤ) → ℕ → List ℤ → Type 0
Filled f n out = (j : ℕ) → j < n → get_or out j (pos 0) ≡ f j

-- ---- a stretch: entries of a row, made of the samples of a slice each, `step` from each other
-- the slice has n of them
abbrev pub Reach : ℕ → ℕ → List ℤ → Type 0
Reach n step xs = (x : ℕ) → x < n → x * step < length xs

-- the slice's sample for entry x
abbrev pub sample_over : List ℤ → ℕ → ℕ → ℤ
sample_over xs step x = get_or xs (x * step) (pos 0)

-- n of them are 32-bit samples, which is known once they are read
abbrev pub Read : ℕ → ℕ → List ℤ → Type 0
Read n step xs = (x : ℕ) → x < n → Sample (sample_over xs step x)

unfoldable pub average_over : List ℤ → List ℤ → ℕ → ℕ → ℤ
average_over first second step x = average (sample_over first step x) (sample_over second step x)

-- what stands before the pair at a place, whose average is given; the pair, and the pair after it
unfoldable pub residual_over : (ℕ → ℤ → ℤ) → List ℤ → List ℤ → List ℤ → List ℤ → ℕ → ℕ → ℤ
residual_over before first second third fourth step x =
    residual (sample_over first step x) (sample_over second step x) (average (sample_over third step x) (sample_over fourth step x))
    (before (x * step) (average_over first second step x))

-- ---- the first position of what stands for the pair after pair i: the pair or the tail after it, else pair i itself
unfoldable pub next_first : ℕ → ℕ → ℕ
next_first size i = cond (ltb (i + i + 2) size) (i + i + 2) (i + i)
