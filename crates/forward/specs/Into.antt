-- The averages and the residuals of a channel put into a slice, the averages first: those of document 01 (`averages_of` and `residuals_of` of crate
-- line) where the slices have the lengths that the sides ask for, else nothing. Definitions only.
use Rattle.std.specs.Prelude.{Bool, cond, ◌&&◌, List, ◌++◌, ℕ, ◌*◌, eqb, leb, ℤ, length}
use Rattle.numbers.specs.Numbers.{max_side}
use Rattle.line.specs.Forward.{averages_of, residuals_of}
use Rattle.line.specs.Marks.{lines_marked}

-- no side above the limit, so that the lengths can be told
unfoldable pub slices_fit : ℕ → ℕ → List ℤ → List ℤ → Bool
slices_fit lines size xs out =
    (leb lines max_side && leb size max_side) && (eqb (length xs) (lines * size) && eqb (length out) (lines * size))

-- the output slice afterwards
unfoldable pub squeezed_into : Bool → ℕ → ℕ → List ℤ → List ℤ → List ℤ
squeezed_into horizontal lines size xs out =
    cond (slices_fit lines size xs out) (averages_of horizontal lines size xs ++ residuals_of horizontal lines size xs) out

-- whether a pair or a tail of the channel leaves the plain range: nothing is read where the slices do not fit
unfoldable pub marked_into : Bool → ℕ → ℕ → List ℤ → List ℤ → Bool
marked_into horizontal lines size xs out = slices_fit lines size xs out && lines_marked horizontal lines size xs
