-- Cases that stand one after the other in a slice. Definitions only.
use Rattle.std.specs.Prelude.{ℕ, zero, suc, ◌/◌, List, [], ◌∷◌, length, take, drop}

-- the first k cases of `size` bytes
abbrev pub first_cases : ℕ → ℕ → List ℕ → List (List ℕ)
first_cases zero size bytes = []
first_cases (suc k) size bytes = take size bytes ∷ first_cases k size (drop size bytes)

-- the whole ones
abbrev pub cases_of : ℕ → List ℕ → List (List ℕ)
cases_of size bytes = first_cases (length bytes / size) size bytes
