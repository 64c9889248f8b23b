-- Tables of a function of the index (`table` of specs/Uncut.antt): length, elements, two tables end to end, and a list that is one.
-- Assumes nothing.
use mathlib.Core.Path.{◌≡◌, refl, sym, ap, ◌∙◌}
use mathlib.Core.List.{List, ◌∷◌, ◌++◌}
use Prim.Native.Nat.{ℕ, zero, suc, ◌+◌, ◌<◌}
use native.Mathlib.Omega.{arith}
use lib.IntN.{ℤ, pos}
use lib.ListN.{length, get_or}
use lib.Seq.{ext_get_or}
use Rattle.line.specs.Uncut.{table}

pub table_length : (f : ℕ → ℤ) (k n : ℕ) → length (table f k n) ≡ n
table_length f k zero = refl
table_length f k (suc n) = ap suc (table_length f (suc k) n)

pub table_at : (f : ℕ → ℤ) (k n i : ℕ) → i < n → get_or (table f k n) i (pos 0) ≡ f (k + i)
table_at f k zero i h = absurd (omega arith)
table_at f k (suc n) zero h = let e : k + 0 ≡ k = omega arith in rw e
table_at f k (suc n) (suc i) h = let e : k + suc i ≡ suc k + i = omega arith in rw e (table_at f (suc k) n i (omega arith))

pub table_append : (f : ℕ → ℤ) (k m n : ℕ) → table f k (m + n) ≡ table f k m ++ table f (k + m) n
table_append f k zero n = let e : k + 0 ≡ k = omega arith in let z : 0 + n ≡ n = omega arith in rw (e, z)
table_append f k (suc m) n =
    let e : suc m + n ≡ suc (m + n) = omega arith in
    let d : k + suc m ≡ suc k + m = omega arith in
    rw (e, d) (ap (λ (l : List ℤ). f k ∷ l) (table_append f (suc k) m n))

-- a list is a table if its elements are
pub is_table : (f : ℕ → ℤ) (k n : ℕ) (xs : List ℤ) → length xs ≡ n → ((i : ℕ) → i < n → get_or xs i (pos 0) ≡ f (k + i)) → xs ≡ table f k n
is_table f k n xs e h =
    ext_get_or (pos 0) xs (table f k n) (e ∙ sym (table_length f k n))
    (λ i l. let l' : i < n = omega arith in h i l' ∙ sym (table_at f k n i l'))

-- two tables of one length whose functions agree
pub table_cong : (f g : ℕ → ℤ) (k l n : ℕ) → ((i : ℕ) → i < n → f (k + i) ≡ g (l + i)) → table f k n ≡ table g l n
table_cong f g k l n h = is_table g l n (table f k n) (table_length f k n) (λ i p. table_at f k n i p ∙ h i p)
