-- Tables of a function of the index: their length, their entries, what is left of one from an index on, and a part of one.
-- Assumes nothing.
use mathlib.Core.Path.{◌≡◌, refl, ap, ◌∙◌}
use mathlib.Core.Bool.{Bool, true, false, ◌&&◌}
use mathlib.Core.List.{List, [], ◌∷◌, ◌++◌}
use Prim.Native.Nat.{ℕ, zero, suc, ◌+◌, ◌-◌, ◌<◌, ◌≤◌, min}
use native.Mathlib.Omega.{arith}
use native.Mathlib.Numerals.{add-one}
use lib.ListN.{length, get_or, take, drop}
use Rattle.std.specs.List.{list_all, range_with_len}
use Rattle.list.specs.Tables.{table, map, all}

module _ {ℓ} {A : Type ℓ} (f : ℕ → A) where
  pub table_length : (k n : ℕ) → length (table f k n) ≡ n
  table_length k zero = refl
  table_length k (suc n) = ap suc (table_length (suc k) n)

  pub table_at : (k n i : ℕ) (d : A) → i < n → get_or (table f k n) i d ≡ f (k + i)
  table_at k zero i d h = absurd (omega arith)
  table_at k (suc n) zero d h = let e : k + 0 ≡ k = omega arith in rw e
  table_at k (suc n) (suc i) d h = let e : k + suc i ≡ suc k + i = omega arith in rw e (table_at (suc k) n i d (omega arith))

  pub table_snoc : (k n : ℕ) → table f k (n + 1) ≡ table f k n ++ f (k + n) ∷ []
  table_snoc k zero = let e : k + 0 ≡ k = omega arith in rw e
  table_snoc k (suc n) =
      let e : k + suc n ≡ suc k + n = omega arith in
      let z : suc n + 1 ≡ suc (n + 1) = omega arith in
      rw (z, e) (ap (λ (l : List A). f k ∷ l) (table_snoc (suc k) n))

  -- what a loop over k has left before it ends at n
  pub table_rest : (k n : ℕ) → k < n → table f k (n - k) ≡ f k ∷ table f (k + 1) (n - (k + 1))
  table_rest k n h = let e : n - k ≡ suc (n - suc k) = omega arith in rw (add-one, e)

  pub table_none : (k n : ℕ) → n ≤ k → table f k (n - k) ≡ []
  table_none k n h = let e : n - k ≡ 0 = omega arith in rw e

  -- a part of a table, as far as the table goes
  pub table_first : (k n m : ℕ) → take m (table f k n) ≡ table f k (min m n)
  table_first k n zero = let e : min 0 n ≡ 0 = omega arith in rw e
  table_first k zero (suc m) = let e : min (suc m) 0 ≡ 0 = omega arith in rw e
  table_first k (suc n) (suc m) = let e : min (suc m) (suc n) ≡ suc (min m n) = omega arith in rw e (ap (λ (l : List A). f k ∷ l) (table_first (suc k) n m))

  pub table_within : (k n b m : ℕ) → take m (drop b (table f k n)) ≡ table f (k + b) (min m (n - b))
  table_within k n zero m = let e : k + 0 ≡ k = omega arith in let z : n - 0 ≡ n = omega arith in rw (e, z) (table_first k n m)
  table_within k zero (suc b) zero = let e : min 0 (0 - suc b) ≡ 0 = omega arith in rw e
  table_within k zero (suc b) (suc m) = let e : min (suc m) (0 - suc b) ≡ 0 = omega arith in rw e
  table_within k (suc n) (suc b) m = let e : k + suc b ≡ suc k + b = omega arith in let z : suc n - suc b ≡ n - b = omega arith in rw (e, z) (table_within (suc k) n b m)

  pub table_part : (k n b m : ℕ) → b + m ≤ n → take m (drop b (table f k n)) ≡ table f (k + b) m
  table_part k n b m h = let e : min m (n - b) ≡ m = omega arith in table_within k n b m ∙ ap (table f (k + b)) e

-- what agrees in every entry
pub table_same {ℓ} : {A : Type ℓ} (f g : ℕ → A) (k n : ℕ) → ((j : ℕ) → k ≤ j → j < k + n → f j ≡ g j) → table f k n ≡ table g k n
table_same f g k zero h = refl
table_same f g k (suc n) h = rw (h k (omega arith) (omega arith), table_same f g (suc k) n (λ j m l. h j (omega arith) (omega arith)))

-- a table under a function
pub map_table {ℓ κ} : {A : Type ℓ} {B : Type κ} (g : A → B) (f : ℕ → A) (k n : ℕ) → map g (table f k n) ≡ table (λ j. g (f j)) k n
map_table g f k zero = refl
map_table g f k (suc n) = ap (λ l. g (f k) ∷ l) (map_table g f (suc k) n)

-- a test of every entry from k on, where v and the test's answer b were found at k
module _ {ℓ} {A : Type ℓ} (f : ℕ → A) (p : A → Bool) (k n : ℕ) (v : A) (b : Bool) (h : k < n) (ev : v ≡ f k) (eb : b ≡ p v) where
  pub all_stop : b ≡ false → false ≡ all p (table f k (n - k))
  all_stop t = rw (table_rest f k n h, ← ev, ← eb, t)

  pub all_next : b ≡ true → all p (table f (k + 1) (n - (k + 1))) ≡ all p (table f k (n - k))
  all_next t = rw (table_rest f k n h, ← ev, ← eb, t)

-- a test of every index, by the library's words
pub all_ranged {ℓ} : {A : Type ℓ} (f : ℕ → A) (p : A → Bool) (k n : ℕ) → list_all (λ j. p (f j)) (range_with_len k n) ≡ all p (table f k n)
all_ranged f p k zero = refl
all_ranged f p k (suc n) = rw (add-one) (ap (λ (b : Bool). p (f k) && b) (all_ranged f p (suc k) n))
