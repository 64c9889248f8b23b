-- Laws of `some` (specs/Range.antt): it is false exactly where the test is false at each place, so that two of them are equal if they are false
-- together. And of `or`, by which such tests are put together. Assumes nothing.
use mathlib.Core.Path.{◌≡◌, refl, sym}
use mathlib.Core.Bool.{Bool, true, false, ◌||◌}
use mathlib.Core.Logic.{◌⊎◌, inl, inr}
use Prim.Native.Nat.{ℕ, zero, suc, ◌<◌, ◌≤◌}
use native.Mathlib.Omega.{arith}
use Rattle.std.proofs.lemmas.Bool.{cases_lt}
use Rattle.range.specs.Range.{some}

-- ---- or
pub left_false : (a b : Bool) → (a || b) ≡ false → a ≡ false
left_false true b e = e
left_false false b e = refl

pub right_false : (a b : Bool) → (a || b) ≡ false → b ≡ false
right_false true b e = let z : ◌≡◌ {A = ℕ} 0 1 = cc in absurd (omega arith)
right_false false b e = e

pub both_false : (a b : Bool) → a ≡ false → b ≡ false → (a || b) ≡ false
both_false a b ea eb = rw (ea, eb)

-- two tests that are false together
pub same : (a b : Bool) → (a ≡ false → b ≡ false) → (b ≡ false → a ≡ false) → a ≡ b
same true true f g = refl
same true false f g = g refl
same false true f g = sym (f refl)
same false false f g = refl

-- ---- some of the first n
pub none : (f : ℕ → Bool) (n : ℕ) → ((i : ℕ) → i < n → f i ≡ false) → some f n ≡ false
none f zero h = refl
none f (suc n) h = both_false (some f n) (f n) (none f n (λ i l. h i (omega arith))) (h n (omega arith))

pub each : (f : ℕ → Bool) (n : ℕ) → some f n ≡ false → (i : ℕ) → i < n → f i ≡ false
each f zero e i l = absurd (omega arith)
each f (suc n) e i l = by (each f n (left_false (some f n) (f n) e)) (cases_lt i n)
  where
    by : ((j : ℕ) → j < n → f j ≡ false) → (i < n) ⊎ (n ≤ i) → f i ≡ false
    by h (inl p) = h i p
    by h (inr p) = let q : i ≡ n = omega arith in rw q (right_false (some f n) (f n) e)

pub some_cong : (f g : ℕ → Bool) (n : ℕ) → ((i : ℕ) → i < n → f i ≡ g i) → some f n ≡ some g n
some_cong f g zero h = refl
some_cong f g (suc n) h = rw (some_cong f g n (λ i l. h i (omega arith)), h n (omega arith))
