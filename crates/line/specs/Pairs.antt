-- Pairs as the loops make them, in all lines of a squeeze at once (document 01, "Tiles"). An ordinary pair is one whose next average is the next
-- of the averages; neither an outer line nor a tail is named there (`Ordinary`). The last pair and the tail are told apart from them (`Ended`), and a
-- line is the two put together (proofs/Pairs.antt, `put_together`). Definitions only.
use Rattle.std.specs.Prelude.{◌≡◌, Bool, List, ℕ, zero, suc, ◌+◌, ◌<◌, ℤ, pos, length, get_or}
use Rattle.pair.specs.Pair.{first, second}
use Rattle.line.specs.Line.{next_average}
use Rattle.line.specs.Uncut.{Squeeze, place, line_of}
use Rattle.line.specs.Forward.{line_in}

-- so many lines, their averages and residuals, and the slices that hold them
pub record Lines : Type 0 where
  pub horizontal : Bool
  pub lines : ℕ
  pub averages : ℕ
  pub residuals : ℕ
  pub avg : List ℤ
  pub res : List ℤ

abbrev pub lines_of : Bool → ℕ → ℕ → ℕ → List ℤ → List ℤ → Lines
lines_of horizontal lines averages residuals avg res =
    record { horizontal = horizontal; lines = lines; averages = averages; residuals = residuals; avg = avg; res = res }

-- a squeeze without its outer lines
abbrev pub inner : Squeeze → Lines
inner s = lines_of s.horizontal s.lines s.averages s.residuals s.avg s.res

-- average i and residual i of line k
abbrev pub avg_at : Lines → ℕ → ℕ → ℤ
avg_at t k i = line_in t.horizontal t.lines t.averages t.avg k i

abbrev pub res_at : Lines → ℕ → ℕ → ℤ
res_at t k i = line_in t.horizontal t.lines t.residuals t.res k i

-- where position j of line k lies in the output
abbrev pub at : Lines → ℕ → ℕ → ℕ
at t k j = place t.horizontal t.lines (t.averages + t.residuals) k j

-- the output before the pair that stands n pairs after pair a, of which all are ordinary, with `prior` before pair a
abbrev pub output_before : (ℕ → ℤ) → (ℕ → ℤ) → ℤ → ℕ → ℕ → ℤ
output_before avg res prior a zero = prior
output_before avg res prior a (suc n) = second (avg (a + n)) (res (a + n)) (avg (a + n + 1)) (output_before avg res prior a n)

-- the ordinary pairs from a on, so many, of every line: pairs a up to, not including, b = a + count, with the averages a to b in sight. `prior` are
-- the outputs before pair a, `after` those before pair b. Nothing else is changed.
pub record Ordinary (t : Lines) (prior after : ℕ → ℤ) (old new : List ℤ) (a count : ℕ) : Type 0 where
  pub long : length new ≡ length old
  pub firsts : (k n : ℕ) → k < t.lines → n < count
      → get_or new (at t k (a + n + (a + n))) (pos 0)
      ≡ first (avg_at t k (a + n)) (res_at t k (a + n)) (avg_at t k (a + n + 1)) (output_before (avg_at t k) (res_at t k) (prior k) a n)
  pub seconds : (k n : ℕ) → k < t.lines → n < count
      → get_or new (at t k (a + n + (a + n) + 1)) (pos 0)
      ≡ second (avg_at t k (a + n)) (res_at t k (a + n)) (avg_at t k (a + n + 1)) (output_before (avg_at t k) (res_at t k) (prior k) a n)
  pub handed : (k : ℕ) → k < t.lines → after k ≡ output_before (avg_at t k) (res_at t k) (prior k) a count
  pub kept : (q : ℕ)
      → ((k n : ℕ) → k < t.lines → n < count → (q ≡ at t k (a + n + (a + n)) → ⊥) × (q ≡ at t k (a + n + (a + n) + 1) → ⊥))
      → get_or new q (pos 0) ≡ get_or old q (pos 0)

-- the end of lines that have a pair: the last pair, i, whose next average is the tail's, the neighbour line's or its own (`next_average` of
-- specs/Line.antt), made with the outputs before it that are given, and the tail, where there is one. What stands before them is kept.
pub record Ended (s : Squeeze) (prior : ℕ → ℤ) (old new : List ℤ) (i : ℕ) : Type 0 where
  pub last : i + 1 ≡ s.residuals
  pub long : length new ≡ length old
  pub firsts : (k : ℕ) → k < s.lines
      → get_or new (at (inner s) k (i + i)) (pos 0) ≡ first (avg_at (inner s) k i) (res_at (inner s) k i) (next_average (line_of s k) i) (prior k)
  pub seconds : (k : ℕ) → k < s.lines
      → get_or new (at (inner s) k (i + i + 1)) (pos 0) ≡ second (avg_at (inner s) k i) (res_at (inner s) k i) (next_average (line_of s k) i) (prior k)
  pub tails : (k : ℕ) → k < s.lines → s.residuals < s.averages → get_or new (at (inner s) k (i + i + 2)) (pos 0) ≡ avg_at (inner s) k s.residuals
  pub kept : (k j : ℕ) → k < s.lines → j < i + i → get_or new (at (inner s) k j) (pos 0) ≡ get_or old (at (inner s) k j) (pos 0)
