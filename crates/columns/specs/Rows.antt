-- The rows of a vertical squeeze (specs/Uncut.antt of the crate line) as its functions see them: the row before the first pair of rows, the average
-- row after the last one, and the columns of two rows of output. Definitions only.
use Rattle.std.specs.Prelude.{◌≡◌, cond, List, ◌⊎◌, ℕ, ◌+◌, ◌<◌, ◌≤◌, ltb, ℤ, pos, length, get_or}
use Rattle.pair.specs.Pair.{first, second}
use Rattle.line.specs.Line.{or_else}
use Rattle.line.specs.Uncut.{outer, table}

-- "The row before the first is the previous output row or average row 0"
unfoldable pub row_before : List ℤ → List ℤ → ℕ → List ℤ
row_before prev avg w = table (λ k. or_else (outer prev k) (get_or avg k (pos 0))) 0 w

-- the next averages of the row at `at`. "The last next-average is the tail average if there is one, else the neighbour line, else the average itself."
unfoldable pub row_after : List ℤ → List ℤ → ℕ → ℕ → List ℤ
row_after avg next at w =
    table
    (λ k. cond (ltb (at + w) (length avg)) (get_or avg (at + w + k) (pos 0)) (or_else (outer next k) (get_or avg (at + k) (pos 0))))
    0
    w

-- two rows of output at `to`, w samples each, and the row before them at `from`: just before, or where their second row will stand
pub record Apart (from to w room : ℕ) : Type 0 where
  pub inside : to + w + w ≤ room
  pub away : (from ≡ to + w) ⊎ (from + w ≡ to)

-- columns lo to hi of two rows made of rows of averages, residuals and next averages and of the row before, and nothing else changed
pub record Columns (avg res next old new : List ℤ) (from to lo hi : ℕ) : Type 0 where
  pub long : length new ≡ length old
  pub firsts : (k : ℕ) → lo ≤ k → k < hi
      → get_or new (to + k) (pos 0) ≡ first (get_or avg k (pos 0)) (get_or res k (pos 0)) (get_or next k (pos 0)) (get_or old (from + k) (pos 0))
  pub seconds : (k : ℕ) → lo ≤ k → k < hi
      → get_or new (to + length avg + k) (pos 0) ≡ second (get_or avg k (pos 0)) (get_or res k (pos 0)) (get_or next k (pos 0)) (get_or old (from + k) (pos 0))
  pub kept : (q : ℕ) → ((k : ℕ) → lo ≤ k → k < hi → (q ≡ to + k → ⊥) × (q ≡ to + length avg + k → ⊥))
      → get_or new q (pos 0) ≡ get_or old q (pos 0)
