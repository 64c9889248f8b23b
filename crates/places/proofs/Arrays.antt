-- The places that an array holds (`places_in`), by index, and the tables and starts that they are made of. Assumes nothing.
use mathlib.Core.Path.{◌≡◌, refl, ap, ◌∙◌}
use mathlib.Core.List.{List, [], ◌∷◌, ◌++◌}
use Prim.Native.Nat.{ℕ, zero, suc, ◌+◌, ◌<◌}
use native.Mathlib.Omega.{arith}
use lib.ListN.{length}
use Rattle.list.specs.Tables.{table}
use Rattle.list.proofs.Tables.{table_length, table_at}
use Rattle.places.specs.declared.Places.{Places}
use Rattle.places.specs.Places.{behind, starts_from, place_at, places_in, place_of}

-- ---- tables, one after the other
pub table_join {ℓ} : {A : Type ℓ} (f : ℕ → A) (a k m : ℕ) → table f a (k + m) ≡ table f a k ++ table f (a + k) m
table_join f a zero m = let e : 0 + m ≡ m = omega arith in let z : a + 0 ≡ a = omega arith in rw (e, z)
table_join f a (suc k) m =
    let e : suc k + m ≡ suc (k + m) = omega arith in
    let z : a + suc k ≡ suc a + k = omega arith in
    rw (e, z) (ap (λ l. f a ∷ l) (table_join f (suc a) k m))

-- ---- starts
pub starts_length : (at : ℕ) (ns : List ℕ) → length (starts_from at ns) ≡ length ns
starts_length at [] = refl
starts_length at (n ∷ ns) = ap suc (starts_length (behind at n) ns)

-- ---- places
pub places_length : (p : Places) → length (places_in p) ≡ p.count
unfolding places_in
places_length p = table_length (place_at p) 0 p.count

pub places_at : (p : Places) (k : ℕ) → k < p.count → place_of (places_in p) k ≡ place_at p k
unfolding places_in
places_at p k h =
    let z : 0 + k ≡ k = omega arith in
    table_at (place_at p) 0 p.count k _ h ∙ ap (place_at p) z
