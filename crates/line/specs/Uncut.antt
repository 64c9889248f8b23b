-- The uncut squeeze (document 01, "Whole runs"): "the tile call's rule on an average and residual of fitting sizes, however large, outer lines or
-- none". Lines lie in a slice row by row: along its rows where the squeeze is horizontal, down its columns where it is vertical.
-- Definitions only.
use Rattle.std.specs.Prelude.{Bool, cond, List, [], ◌∷◌, ◌⊎◌, ◌≡◌, ℕ, zero, suc, ◌+◌, ◌*◌, ◌/◌, ◌%◌, ◌≤◌, ℤ, pos, length, get_or, take, drop}
use Rattle.line.specs.Line.{Line, sample}

-- where position i of line k lies in a slice of `lines` lines of `size` samples each
abbrev pub place : Bool → ℕ → ℕ → ℕ → ℕ → ℕ
place horizontal lines size k i = cond horizontal (k * size + i) (i * lines + k)

-- and the line and the position of what lies at j
abbrev pub line_at : Bool → ℕ → ℕ → ℕ → ℕ
line_at horizontal lines size j = cond horizontal (j / size) (j % lines)

abbrev pub position_at : Bool → ℕ → ℕ → ℕ → ℕ
position_at horizontal lines size j = cond horizontal (j % size) (j / lines)

-- a squeeze: its direction, the number of lines that cross it, the averages and residuals along it, and its slices
pub record Squeeze : Type 0 where
  pub horizontal : Bool
  pub lines : ℕ
  pub averages : ℕ
  pub residuals : ℕ
  pub avg : List ℤ
  pub res : List ℤ
  pub next : List ℤ
  pub prev : List ℤ

abbrev pub squeeze : Bool → ℕ → ℕ → ℕ → List ℤ → List ℤ → List ℤ → List ℤ → Squeeze
squeeze horizontal lines averages residuals avg res next prev =
    record {
      horizontal = horizontal;
      lines = lines;
      averages = averages;
      residuals = residuals;
      avg = avg;
      res = res;
      next = next;
      prev = prev;
    }

-- "an average and residual of fitting sizes .. outer lines or none"
pub record Fitting (s : Squeeze) : Type 0 where
  pub low : s.residuals ≤ s.averages
  pub high : s.averages ≤ s.residuals + 1
  pub avg_length : length s.avg ≡ s.lines * s.averages
  pub res_length : length s.res ≡ s.lines * s.residuals
  pub next_length : (length s.next ≡ 0) ⊎ (length s.next ≡ s.lines)
  pub prev_length : (length s.prev ≡ 0) ⊎ (length s.prev ≡ s.lines)

-- "The next average line and previous output line have the crossing length, or length 0 for absent": its sample for line k
abbrev pub outer : List ℤ → ℕ → List ℤ
outer xs k = take 1 (drop k xs)

-- line k of a squeeze
unfoldable pub line_of : Squeeze → ℕ → Line
line_of s k =
    record {
      avg = λ i. get_or s.avg (place s.horizontal s.lines s.averages k i) (pos 0);
      res = λ i. get_or s.res (place s.horizontal s.lines s.residuals k i) (pos 0);
      averages = s.averages;
      residuals = s.residuals;
      next = outer s.next k;
      prev = outer s.prev k;
    }

-- the samples along the squeeze, and what lies at j of its output
abbrev pub size : Squeeze → ℕ
size s = s.averages + s.residuals

unfoldable pub output_at : Squeeze → ℕ → ℤ
output_at s j =
    sample (line_of s (line_at s.horizontal s.lines (size s) j)) (position_at s.horizontal s.lines (size s) j)

-- f k, f (k + 1), ..: n of them
abbrev pub table : (ℕ → ℤ) → ℕ → ℕ → List ℤ
table f k zero = []
table f k (suc n) = f k ∷ table f (suc k) n

-- the output slice
unfoldable pub uncut : Squeeze → List ℤ
uncut s = table (output_at s) 0 (s.lines * size s)
