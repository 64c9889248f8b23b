-- Lists as tables of a function of the index, for flat arrays. Definitions only.
use Rattle.std.specs.Prelude.{Bool, true, ◌&&◌, List, [], ◌∷◌, ℕ, zero, suc, get_or}

-- f k, f (k + 1), ..: n of them
abbrev pub table {ℓ} : {A : Type ℓ} → (ℕ → A) → ℕ → ℕ → List A
table f k zero = []
table f k (suc n) = f k ∷ table f (suc k) n

-- "arrays with a count, unused entries 0": xs and zeros after it, `size` entries in all
abbrev pub padded : ℕ → List ℕ → List ℕ
padded size xs = table (λ k. get_or xs k 0) 0 size

abbrev pub map {ℓ κ} : {A : Type ℓ} {B : Type κ} → (A → B) → List A → List B
map f [] = []
map f (x ∷ xs) = f x ∷ map f xs

-- whether p is true of every element
abbrev pub all {ℓ} : {A : Type ℓ} → (A → Bool) → List A → Bool
all p [] = true
all p (x ∷ xs) = p x && all p xs
