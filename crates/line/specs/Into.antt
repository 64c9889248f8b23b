-- The uncut squeeze into a slice, whatever the sizes are: where they do not fit, the slice stays as it was. Definitions only.
use Rattle.std.specs.Prelude.{Bool, cond, ◌&&◌, ◌||◌, List, ℕ, ◌+◌, ◌*◌, eqb, leb, ℤ, length}
use Rattle.line.specs.Uncut.{Squeeze, uncut}

-- an outer line of so many samples, or none
unfoldable pub outer_fits : ℕ → List ℤ → Bool
outer_fits lines xs = eqb (length xs) 0 || eqb (length xs) lines

-- `Fitting` of specs/Uncut.antt as a test, and the output's length with it: so many lines of m averages and n residuals
unfoldable pub fits : ℕ → ℕ → ℕ → List ℤ → List ℤ → List ℤ → List ℤ → List ℤ → Bool
fits lines m n avg res next prev out =
    (leb n m && leb m (n + 1))
    && ((eqb (length avg) (lines * m) && eqb (length res) (lines * n))
    && ((outer_fits lines next && outer_fits lines prev) && eqb (length out) (lines * (m + n))))

unfoldable pub uncut_into : Squeeze → List ℤ → List ℤ
uncut_into s out =
    cond (fits s.lines s.averages s.residuals s.avg s.res s.next s.prev out) (uncut s) out
