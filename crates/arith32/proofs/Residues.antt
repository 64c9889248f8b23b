-- Laws of sums that wrap, all by way of the residue, which omega reads: the residue of a sum is the sum of the residues modulo 2^32,
-- and a sample is known by its residue. Assumes nothing.
use mathlib.Core.Path.{◌≡◌, refl, sym, ap, ◌∙◌}
use mathlib.Core.Bool.{Bool, true, false, not, cond}
use Prim.Native.Nat.{ℕ, zero, suc, ◌+◌, ◌-◌, ◌%◌, ◌<◌, ◌≤◌}
use native.Mathlib.Omega.{arith}
use lib.Dec.{T, ltb, ltb→lt, nltb→le}
use lib.IntN.{ℤ, pos, negsuc, neg_ℤ, sub_ℕ, ◌+ℤ◌, ◌-ℤ◌}
use mir.Syntax.{w32}
use mir.Val.{Fits, to_z, of_z}
use mir.ValLaws.{to_z-of_z, of_z-to_z, to_z-Fits}
use Rattle.arith32.specs.Arith.{Sample, modulus, residue, wrap, ◌⊕◌, ◌⊖◌}

pub residue_below : (z : ℤ) → residue z < modulus
unfolding residue
residue_below (pos n) = omega arith
residue_below (negsuc n) = omega arith

residue_fits : (z : ℤ) → Fits w32 (residue z)
residue_fits z = record { fits = residue_below z }

pub wrap_sample : (z : ℤ) → Sample (wrap z)
unfolding wrap
wrap_sample z = to_z-Fits w32 (residue z) (residue_fits z)

-- the residue of a sample is its bits
pub residue_bits : (z : ℤ) → Sample z → residue z ≡ of_z w32 z
unfolding residue
residue_bits (pos n) f = let h : n < 2147483648 = f.sfits in omega arith
residue_bits (negsuc n) f = let h : n < 2147483648 = f.sfits in omega arith

-- a sample wraps to itself
pub wrap_id : (z : ℤ) → Sample z → wrap z ≡ z
unfolding wrap
wrap_id z f = ap (to_z w32) (residue_bits z f) ∙ to_z-of_z w32 z f

pub residue_wrap : (z : ℤ) → residue (wrap z) ≡ residue z
unfolding wrap
residue_wrap z = residue_bits (wrap z) (wrap_sample z) ∙ of_z-to_z w32 (residue z) (residue_fits z)

-- two samples with one residue are one sample
pub residue_inj : (a b : ℤ) → Sample a → Sample b → residue a ≡ residue b → a ≡ b
unfolding wrap
residue_inj a b fa fb e = sym (wrap_id a fa) ∙ ap (to_z w32) e ∙ wrap_id b fb

-- ---- sums and differences
by_test : (a b : ℕ) (t : Bool) → (T t → a < b) → (T (not t) → b ≤ a)
    → residue (cond t (negsuc (b - suc a)) (pos (a - b))) ≡ (a + (modulus - b % modulus)) % modulus
unfolding residue
by_test a b true y n = let h : a < b = y tt in omega arith
by_test a b false y n = let h : b ≤ a = n tt in omega arith

residue_subℕ : (a b : ℕ) → residue (sub_ℕ a b) ≡ (a + (modulus - b % modulus)) % modulus
residue_subℕ a b = by_test a b (ltb a b) (ltb→lt a b) (nltb→le a b)

pub residue_sum : (a b : ℤ) → residue (a +ℤ b) ≡ (residue a + residue b) % modulus
unfolding residue
residue_sum (pos a) (pos b) = omega arith
residue_sum (pos a) (negsuc b) = omega (arith, residue_subℕ a (suc b))
residue_sum (negsuc a) (pos b) = omega (arith, residue_subℕ b (suc a))
residue_sum (negsuc a) (negsuc b) = omega arith

residue_negation : (b : ℤ) → residue (neg_ℤ b) ≡ (modulus - residue b) % modulus
unfolding residue
residue_negation (pos zero) = refl
residue_negation (pos (suc n)) = omega arith
residue_negation (negsuc n) = omega arith

pub residue_difference : (a b : ℤ) → residue (a -ℤ b) ≡ (residue a + (modulus - residue b)) % modulus
residue_difference a b = omega (arith, residue_sum a (neg_ℤ b), residue_negation b, residue_below b)

pub residue-⊕ : (a b : ℤ) → residue (a ⊕ b) ≡ (residue a + residue b) % modulus
residue-⊕ a b = residue_wrap (a +ℤ b) ∙ residue_sum a b

pub residue-⊖ : (a b : ℤ) → residue (a ⊖ b) ≡ (residue a + (modulus - residue b)) % modulus
residue-⊖ a b = residue_wrap (a -ℤ b) ∙ residue_difference a b

-- ---- what is added can be taken away again
pub minus_plus : (x y : ℤ) → Sample x → (x ⊖ y) ⊕ y ≡ x
minus_plus x y f =
    residue_inj ((x ⊖ y) ⊕ y) x (wrap_sample _) f
    (omega (arith, residue-⊕ (x ⊖ y) y, residue-⊖ x y, residue_below x, residue_below y))

pub plus_minus : (x y : ℤ) → Sample x → (x ⊕ y) ⊖ y ≡ x
plus_minus x y f =
    residue_inj ((x ⊕ y) ⊖ y) x (wrap_sample _) f
    (omega (arith, residue-⊖ (x ⊕ y) y, residue-⊕ x y, residue_below x, residue_below y))

pub minus_minus : (x y : ℤ) → Sample y → x ⊖ (x ⊖ y) ≡ y
minus_minus x y f =
    residue_inj (x ⊖ (x ⊖ y)) y (wrap_sample _) f
    (omega (arith, residue-⊖ x (x ⊖ y), residue-⊖ x y, residue_below x, residue_below y))
