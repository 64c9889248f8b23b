-- Tables of a function of the index put together: one more entry, sums and joined parts. Assumes nothing.
use mathlib.Core.Path.{◌≡◌, ◌∙◌}
use mathlib.Core.List.{List, [], ◌∷◌, ◌++◌, append-nil}
use Prim.Native.Nat.{ℕ, ◌+◌, ◌-◌, ◌<◌, ◌≤◌}
use native.Mathlib.Omega.{arith}
use lib.IntN.{ℤ}
use Rattle.list.specs.Tables.{table}
use Rattle.list.proofs.Tables.{table_rest}
use Rattle.places.specs.Places.{sum}
use Rattle.places.proofs.Arrays.{table_join}
use Rattle.runs.specs.Parts.{joined}
use Rattle.runs.proofs.Shapes.{joined_append}

-- ---- sums
sum_append : (ms ns : List ℕ) → sum (ms ++ ns) ≡ sum ms + sum ns
sum_append [] ns = omega arith
sum_append (m ∷ ms) ns = omega (arith, sum_append ms ns)

pub sum_more : (f : ℕ → ℕ) (k : ℕ) → sum (table f 0 (k + 1)) ≡ sum (table f 0 k) + f k
sum_more f k =
    let z : 0 + k ≡ k = omega arith in
    rw (table_join f 0 k 1, z) (omega (arith, sum_append (table f 0 k) (f k ∷ [])))

pub sum_reach : (f : ℕ → ℕ) (k n : ℕ) → k < n → sum (table f 0 k) + f k ≤ sum (table f 0 n)
sum_reach f k n h =
    let z : 0 + k ≡ k = omega arith in
    let e : n ≡ k + (n - k) = omega arith in
    rw e (rw (table_join f 0 k (n - k), z, table_rest f k n h)
    (omega (arith, sum_append (table f 0 k) (f k ∷ table f (k + 1) (n - (k + 1))))))

-- ---- joined parts
pub joined_more : (f : ℕ → List ℤ) (k : ℕ) → joined (table f 0 (k + 1)) ≡ joined (table f 0 k) ++ f k
joined_more f k =
    let z : 0 + k ≡ k = omega arith in
    rw (table_join f 0 k 1, z) (joined_append (table f 0 k) (f k ∷ []) ∙ rw (append-nil (f k)))
