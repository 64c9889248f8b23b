-- Linear arithmetic over ℤ for `omega`, which reads natural numbers only: a whole number z goes as two naturals, `above z` and `below z`,
-- how far it lies above and below zero. One of the two is 0 and z is their difference.
-- Each operation, test and range has one linear law. List the laws of the terms at hand: omega (arith, sum-law a b, less a b h, range32 a fa).
-- Assumes nothing.
use mathlib.Core.Path.{◌≡◌, refl, sym, ap, ◌∙◌}
use mathlib.Core.Bool.{Bool, true, false, not, cond}
use mathlib.Core.Logic.{◌⊎◌, inl, inr}
use Prim.Native.Nat.{ℕ, zero, suc, ◌+◌, ◌-◌, ◌*◌, ◌/◌, ◌<◌, ◌≤◌}
use native.Mathlib.Omega.{arith}
use native.Mathlib.Nat.{div-add-mod', mod-lt, zero-div, suc-mul}
use borrow.Author.Tests.{ltb-true, ltb-false, lt-ltb, le-ltb, le-leb, lt-leb}
use lib.Dec.{T, ltb, ltb→lt, nltb→le, leb→le}
use lib.IntN.{ℤ, pos, negsuc, neg_ℤ, sub_ℕ, ◌+ℤ◌, ◌-ℤ◌, ◌*ℤ◌}
use lib.Signed.{◌≤ℤ◌, mag, le_z, lt_z, shr_z, quot_z, mag_shr, le_z_yes}
use mir.Syntax.{Width, w32, w64}
use mir.Val.{SFits, to_z, of_z}
use mir.Facts.{sfits_widen}
use mir.ValLaws.{sfits_le, to_z-of_z}

unfoldable pub above : ℤ → ℕ
above (pos n) = n
above (negsuc n) = 0

unfoldable pub below : ℤ → ℕ
below (pos n) = 0
below (negsuc n) = suc n

-- ---- a numeral, and equality
pub natural : (n : ℕ) → (above (pos n) ≡ n) × (below (pos n) ≡ 0)
unfolding above below
natural n = (refl, refl)

pub negative : (n : ℕ) → (above (negsuc n) ≡ 0) × (below (negsuc n) ≡ n + 1)
unfolding above below
negative n = (refl, omega arith)

pub one_is_zero : (z : ℤ) → (above z ≡ 0) ⊎ (below z ≡ 0)
unfolding above below
one_is_zero (pos n) = inr refl
one_is_zero (negsuc n) = inl refl

pub equal : (a b : ℤ) → above a + below b ≡ above b + below a → a ≡ b
unfolding above below
equal (pos a) (pos b) e = ap pos (omega arith)
equal (pos a) (negsuc b) e = absurd (omega arith)
equal (negsuc a) (pos b) e = absurd (omega arith)
equal (negsuc a) (negsuc b) e = ap negsuc (omega arith)

-- ---- sums and differences
by_test : (a b : ℕ) (t : Bool) → (T t → a < b) → (T (not t) → b ≤ a)
    → above (cond t (negsuc (b - suc a)) (pos (a - b))) + b ≡ a + below (cond t (negsuc (b - suc a)) (pos (a - b)))
unfolding above below
by_test a b true y n = let h : a < b = y tt in omega arith
by_test a b false y n = let h : b ≤ a = n tt in omega arith

natural_difference : (a b : ℕ) → above (sub_ℕ a b) + b ≡ a + below (sub_ℕ a b)
natural_difference a b = by_test a b (ltb a b) (ltb→lt a b) (nltb→le a b)

pub sum_law : (a b : ℤ) → above (a +ℤ b) + (below a + below b) ≡ (above a + above b) + below (a +ℤ b)
unfolding above below
sum_law (pos a) (pos b) = omega arith
sum_law (pos a) (negsuc b) = omega (arith, natural_difference a (suc b))
sum_law (negsuc a) (pos b) = omega (arith, natural_difference b (suc a))
sum_law (negsuc a) (negsuc b) = omega arith

pub negation_law : (a : ℤ) → (above (neg_ℤ a) ≡ below a) × (below (neg_ℤ a) ≡ above a)
unfolding above below
negation_law (pos zero) = (refl, refl)
negation_law (pos (suc n)) = (refl, refl)
negation_law (negsuc n) = (refl, refl)

pub difference_law : (a b : ℤ) → above (a -ℤ b) + (below a + above b) ≡ (above a + below b) + below (a -ℤ b)
difference_law a b = omega (arith, sum_law a (neg_ℤ b), negation_law b)

-- ---- a product by a natural number, a quotient toward zero by one, and a shift right with sign by one's power
pub product_law : (a : ℤ) (k : ℕ) → (above (a *ℤ pos k) ≡ above a * k) × (below (a *ℤ pos k) ≡ below a * k)
unfolding above below
product_law (pos a) k = (refl, omega arith)
product_law (negsuc a) k = ((negation_law (pos (suc a * k))).0 ∙ omega arith, (negation_law (pos (suc a * k))).1)

pub quotient_law : (a : ℤ) (k : ℕ) → (above (quot_z a (pos k)) ≡ above a / k) × (below (quot_z a (pos k)) ≡ below a / k)
unfolding above below
quotient_law (pos a) k = (refl, sym (zero-div k))
quotient_law (negsuc a) k = ((negation_law (pos (suc a / k))).0 ∙ sym (zero-div k), (negation_law (pos (suc a / k))).1)

-- the shift s of z by m is rounded down: m * s ≤ z < m * s + m
pub shift_law : (z : ℤ) (m : ℕ) → 0 < m
    → (above (shr_z z m) * m + below z ≤ above z + below (shr_z z m) * m) × (above z + below (shr_z z m) * m < above (shr_z z m) * m + below z + m)
unfolding above below
shift_law (pos a) m h = let e = div-add-mod' a m in let l = mod-lt a h in (omega arith, omega arith)
shift_law (negsuc a) m h = let e = div-add-mod' a m in let l = mod-lt a h in let k = suc-mul (a / m) m in (omega arith, omega arith)

-- ---- the test a < b, read as a fact and answered by one
pub less : (a b : ℤ) → lt_z a b ≡ true → above a + below b < above b + below a
unfolding above below
less (pos a) (pos b) e = omega (arith, ltb-true a b e)
less (pos a) (negsuc b) e = let z : ◌≡◌ {A = ℕ} 0 1 = cc in absurd (omega arith)
less (negsuc a) (pos b) e = omega arith
less (negsuc a) (negsuc b) e = omega (arith, ltb-true b a e)

pub not_less : (a b : ℤ) → lt_z a b ≡ false → above b + below a ≤ above a + below b
unfolding above below
not_less (pos a) (pos b) e = omega (arith, ltb-false a b e)
not_less (pos a) (negsuc b) e = omega arith
not_less (negsuc a) (pos b) e = let z : ◌≡◌ {A = ℕ} 0 1 = cc in absurd (omega arith)
not_less (negsuc a) (negsuc b) e = omega (arith, ltb-false b a e)

pub is_less : (a b : ℤ) → above a + below b < above b + below a → lt_z a b ≡ true
unfolding above below
is_less (pos a) (pos b) h = lt-ltb a b (omega arith)
is_less (pos a) (negsuc b) h = absurd (omega arith)
is_less (negsuc a) (pos b) h = refl
is_less (negsuc a) (negsuc b) h = lt-ltb b a (omega arith)

pub is_not_less : (a b : ℤ) → above b + below a ≤ above a + below b → lt_z a b ≡ false
unfolding above below
is_not_less (pos a) (pos b) h = le-ltb a b (omega arith)
is_not_less (pos a) (negsuc b) h = refl
is_not_less (negsuc a) (pos b) h = absurd (omega arith)
is_not_less (negsuc a) (negsuc b) h = le-ltb b a (omega arith)

pub below_zero : (z : ℤ) → lt_z z (pos 0) ≡ true → (above z ≡ 0) × (0 < below z)
unfolding above below
below_zero (pos n) e = absurd (omega (arith, ltb-true n 0 e))
below_zero (negsuc n) e = (refl, omega arith)

pub not_below_zero : (z : ℤ) → lt_z z (pos 0) ≡ false → below z ≡ 0
unfolding above below
not_below_zero (pos n) e = refl
not_below_zero (negsuc n) e = let z : ◌≡◌ {A = ℕ} 0 1 = cc in absurd (omega arith)

-- ---- a ≤ b, read as a fact, and the test answered by one
pub at_most : (a b : ℤ) → a ≤ℤ b → above a + below b ≤ above b + below a
unfolding above below
at_most (pos a) (pos b) h = omega (arith, leb→le a b h.le)
at_most (pos a) (negsuc b) h = absurd h.le
at_most (negsuc a) (pos b) h = omega arith
at_most (negsuc a) (negsuc b) h = omega (arith, leb→le b a h.le)

pub is_at_most : (a b : ℤ) → above a + below b ≤ above b + below a → le_z a b ≡ true
unfolding above below
is_at_most (pos a) (pos b) h = le-leb a b (omega arith)
is_at_most (pos a) (negsuc b) h = absurd (omega arith)
is_at_most (negsuc a) (pos b) h = refl
is_at_most (negsuc a) (negsuc b) h = le-leb b a (omega arith)

pub is_not_at_most : (a b : ℤ) → above b + below a < above a + below b → le_z a b ≡ false
unfolding above below
is_not_at_most (pos a) (pos b) h = lt-leb a b (omega arith)
is_not_at_most (pos a) (negsuc b) h = refl
is_not_at_most (negsuc a) (pos b) h = absurd (omega arith)
is_not_at_most (negsuc a) (negsuc b) h = lt-leb b a (omega arith)

pub ordered : (a b : ℤ) → above a + below b ≤ above b + below a → a ≤ℤ b
ordered a b h = le_z_yes (rw (is_at_most a b h) tt)

-- two tests < agree where b - a is d - c
pub same_test : (a b c d : ℤ) → above b + below a + (above c + below d) ≡ above a + below b + (above d + below c) → lt_z a b ≡ lt_z c d
same_test a b c d h = go (lt_z c d) refl
  where
    go : (t : Bool) → lt_z c d ≡ t → lt_z a b ≡ t
    go true e = is_less a b (omega (arith, less c d e))
    go false e = is_not_less a b (omega (arith, not_less c d e))

-- ---- ranges of machine integers
pub range32 : (z : ℤ) → SFits w32 z → (above z < 2147483648) × (below z ≤ 2147483648)
unfolding above below
range32 (pos n) f = let h : n < 2147483648 = f.sfits in (omega arith, omega arith)
range32 (negsuc n) f = let h : n < 2147483648 = f.sfits in (omega arith, omega arith)

pub in_range32 : (z : ℤ) → above z < 2147483648 + below z → below z ≤ 2147483648 + above z → SFits w32 z
unfolding above below
in_range32 (pos n) h k = record { sfits = omega arith }
in_range32 (negsuc n) h k = record { sfits = omega arith }

pub in_range64 : (z : ℤ) → above z < 9223372036854775808 + below z → below z ≤ 9223372036854775808 + above z → SFits w64 z
unfolding above below
in_range64 (pos n) h k = record { sfits = omega arith }
in_range64 (negsuc n) h k = record { sfits = omega arith }

pub shift_fits : {w : Width} (z : ℤ) (m : ℕ) → SFits w z → SFits w (shr_z z m)
shift_fits z m f = sfits_le (mag_shr z m) f

-- what the machine reads back of a call's result z, whose range is the call's `.ok`
pub back32 : (z : ℤ) → mag z < 2147483648 → to_z w32 (of_z w32 z) ≡ z
back32 z h = to_z-of_z w32 z (record { sfits = h })

-- and of a sample that is cast to an i64
pub widened : (z : ℤ) → SFits w32 z → to_z w64 (of_z w64 (to_z w32 (of_z w32 z))) ≡ z
widened z f = ap (λ (y : ℤ). to_z w64 (of_z w64 y)) (to_z-of_z w32 z f) ∙ to_z-of_z w64 z (sfits_widen tt f)
