-- The plain range of samples (document 02, A.3): "outside -268,435,456 to 268,435,455", as a test of one sample and of some sample of a slice.
-- Definitions only.
use Rattle.std.specs.Prelude.{Bool, false, ◌||◌, Result, Ok, Err, List, [], ◌∷◌, ℕ, zero, suc, ℤ, pos, negsuc}
use Rattle.std.specs.Int.Signed.{lt_z}

-- -268,435,456 and 268,435,455
abbrev pub lowest : ℤ
lowest = negsuc 268_435_455

abbrev pub highest : ℤ
highest = pos 268_435_455

unfoldable pub outside : ℤ → Bool
outside z = lt_z z lowest || lt_z highest z

-- some sample of a slice
abbrev pub some_outside : List ℤ → Bool
some_outside [] = false
some_outside (x ∷ xs) = outside x || some_outside xs

-- some of f 0 to f (n - 1)
abbrev pub some : (ℕ → Bool) → ℕ → Bool
some f zero = false
some f (suc n) = some f n || f n

-- what a call that may be refused tells: a refused one has no mark
abbrev pub mark_of : {E : Type 0} → Result Bool E → Bool
mark_of (Ok mark) = mark
mark_of (Err refusal) = false
