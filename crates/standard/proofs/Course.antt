-- The courses that a, b and c can take, and how large the tendency is on a fall or a rise, in naturals: `size p q`, where a and b lie p apart
-- and b and c lie q apart. Document 01's tendency (Wrapping.antt) and the standard's (Unbounded.antt) are both shown to be plus or minus
-- that size. Assumes nothing.
use mathlib.Core.Path.{◌≡◌, refl}
use mathlib.Core.Bool.{Bool, true, false, cond}
use Prim.Native.Nat.{ℕ, zero, suc, ◌+◌, ◌*◌, ◌/◌, ◌%◌, ◌^◌, ◌<◌, ◌≤◌}
use native.Mathlib.Omega.{arith}
use borrow.Author.Tests.{ltb-true}
use lib.Dec.{ltb}
use lib.IntN.{ℤ, pos, negsuc, neg_ℤ, ◌-ℤ◌}
use Rattle.arith32.proofs.Whole.{above, below, equal, negation_law, difference_law}

-- a is b + n
abbrev pub Over : ℤ → ℤ → ℕ → Type 0
Over a b n = above a + below b ≡ above b + below a + n

-- three equal numbers are a fall
pub data Course (a b c : ℤ) : Type 0 where
  falls : (p q : ℕ) → Over a b p → Over b c q → Course a b c
  rises : (p q : ℕ) → Over b a p → Over c b q → 0 < p + q → Course a b c
  peaks : (p q : ℕ) → Over b a (suc p) → Over b c (suc q) → Course a b c
  dips : (p q : ℕ) → Over a b (suc p) → Over c b (suc q) → Course a b c

pub course : (a b c : ℤ) → Course a b c
unfolding above below
course a b c = by_signs (a -ℤ b) (b -ℤ c) (difference_law a b) (difference_law b c)
  where
    by_signs : (x y : ℤ) → above x + (below a + above b) ≡ above a + below b + below x
        → above y + (below b + above c) ≡ above b + below c + below y → Course a b c
    by_signs (pos p) (pos q) h k = falls p q (omega arith) (omega arith)
    by_signs (pos zero) (negsuc q) h k = rises 0 (suc q) (omega arith) (omega arith) (omega arith)
    by_signs (pos (suc p)) (negsuc q) h k = dips p q (omega arith) (omega arith)
    by_signs (negsuc p) (pos zero) h k = rises (suc p) 0 (omega arith) (omega arith) (omega arith)
    by_signs (negsuc p) (pos (suc q)) h k = peaks p q (omega arith) (omega arith)
    by_signs (negsuc p) (negsuc q) h k = rises (suc p) (suc q) (omega arith) (omega arith) (omega arith)

-- ---- the differences
abbrev pub minus : ℕ → ℤ
minus n = neg_ℤ (pos n)

pub minus_law : (n : ℕ) → (above (minus n) ≡ 0) × (below (minus n) ≡ n)
unfolding above below
minus_law n = negation_law (pos n)

pub fall : (a b : ℤ) (n : ℕ) → Over a b n → a -ℤ b ≡ pos n
unfolding above below
fall a b n h = equal (a -ℤ b) (pos n) (omega (arith, difference_law a b))

pub rise : (a b : ℤ) (n : ℕ) → Over b a n → a -ℤ b ≡ minus n
rise a b n h = equal (a -ℤ b) (minus n) (omega (arith, difference_law a b, minus_law n))

-- ---- the size, with a and c p + q apart: (3 (p + q) + p + 6) / 12, clamped to what p allows and then to what q allows
unfoldable pub slope_size : ℕ → ℕ → ℕ
slope_size p q = (p * 4 + q * 3 + 6) / 12

unfoldable pub size_before : ℕ → ℕ → ℕ
size_before p v = cond (ltb (p * 2 + v % 2) v) (p * 2 + 1) v

unfoldable pub size_after : ℕ → ℕ → ℕ
size_after q v = cond (ltb (q * 2) (v + v % 2)) (q * 2) v

unfoldable pub size : ℕ → ℕ → ℕ
size p q = size_after q (size_before p (slope_size p q))

-- a clamp over ℤ, of plus or minus naturals, is one over ℕ
pub clamp_of : (f : ℕ → ℤ) (t : Bool) (m v : ℕ) → cond t (f m) (f v) ≡ f (cond t m v)
clamp_of f true m v = refl
clamp_of f false m v = refl

-- ---- a clamp only lowers, so the size is bounded
lowered : (t : Bool) (m v : ℕ) → (t ≡ true → m ≤ v) → cond t m v ≤ v
lowered true m v h = h refl
lowered false m v h = omega arith

pub before_low : (p v : ℕ) → size_before p v ≤ v
unfolding size_before
before_low p v = lowered (ltb (p * 2 + v % 2) v) (p * 2 + 1) v (λ e. omega (arith, ltb-true (p * 2 + v % 2) v e))

after_low : (q v : ℕ) → size_after q v ≤ v
unfolding size_after
after_low q v = lowered (ltb (q * 2) (v + v % 2)) (q * 2) v (λ e. omega (arith, ltb-true (q * 2) (v + v % 2) e))

pub slope_small : (p q : ℕ) → p < 2 ^ 29 → q < 2 ^ 29 → slope_size p q < 2 ^ 29
unfolding slope_size
slope_small p q h k = omega arith

pub size_small : (p q : ℕ) → p < 2 ^ 29 → q < 2 ^ 29 → size p q < 2 ^ 29
unfolding size
size_small p q h k =
    omega (arith, slope_small p q h k, before_low p (slope_size p q), after_low q (size_before p (slope_size p q)))
