-- Whether a squeeze leaves the plain range (document 02, A.3): "Lines, tiles, steps and whole runs say it for all pairs under them and for the averages that a
-- step copies", back and forward. What no pair reads does not count. Definitions only.
use Rattle.std.specs.Prelude.{Bool, ◌&&◌, ◌||◌, List, ℕ, ◌+◌, leb, ltb, ℤ}
use Rattle.range.specs.Range.{outside, some_outside, some}
use Rattle.pair.specs.Marks.{pair_marked, written_marked}
use Rattle.line.specs.Line.{Line, next_average, before}
use Rattle.line.specs.Uncut.{Squeeze, line_of}
use Rattle.line.specs.Forward.{average_count, residual_count, average_at, next_at, prev_at, line_in}
use Rattle.line.specs.Into.{fits}

-- ---- back
-- pair i of a line, and the average that is copied: a tail, or the one of a line without a residual
unfoldable pub pair_at_marked : Line → ℕ → Bool
pair_at_marked l i = pair_marked (l.avg i) (l.res i) (next_average l i) (before l i)

unfoldable pub copied_marked : Line → Bool
copied_marked l = ltb l.residuals l.averages && outside (l.avg l.residuals)

unfoldable pub line_marked : Line → Bool
line_marked l = some (pair_at_marked l) l.residuals || copied_marked l

-- some line of a squeeze
unfoldable pub squeeze_marked : Squeeze → Bool
squeeze_marked s = some (λ k. line_marked (line_of s k)) s.lines

-- into a slice: nothing is read where the sizes do not fit
unfoldable pub marked_into : Squeeze → List ℤ → Bool
marked_into s out = fits s.lines s.averages s.residuals s.avg s.res s.next s.prev out && squeeze_marked s

-- what pairs read of the outer lines: the one before, and the one after where no tail stands in its place. By this, the residuals and the output the
-- functions tell the mark; proofs/Marks.antt says why.
unfoldable pub outers_outside : Squeeze → Bool
outers_outside s = ltb 0 s.residuals && (some_outside s.prev || (leb s.averages s.residuals && some_outside s.next))

-- ---- forward: the writer's pairs of a line x of `size` samples, and the tail
unfoldable pub written_at_marked : (ℕ → ℤ) → ℕ → ℕ → Bool
written_at_marked x size i = written_marked (x (i + i)) (x (i + i + 1)) (next_at x size i) (prev_at x size i)

unfoldable pub written_line_marked : (ℕ → ℤ) → ℕ → Bool
written_line_marked x size =
    some (written_at_marked x size) (residual_count size)
    || (ltb (residual_count size) (average_count size) && outside (average_at x size (residual_count size)))

-- some line of a channel
unfoldable pub lines_marked : Bool → ℕ → ℕ → List ℤ → Bool
lines_marked horizontal lines size xs = some (λ k. written_line_marked (line_in horizontal lines size xs k) size) lines
