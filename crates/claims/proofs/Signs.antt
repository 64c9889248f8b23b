-- The tests of two signs, as branches make them, and the strict test of the definition: the contract of `opposite` in crate tendency says the same of the
-- code, which asks without them. Rests on the whole numbers of arith32. Assumes nothing.
use mathlib.Core.Path.{◌≡◌, refl, sym}
use mathlib.Core.Bool.{Bool, true, false, not, ◌&&◌, ◌||◌, beq, or-false, or-true, and-false}
use Prim.Native.Nat.{zero, suc, ◌-◌, ◌<◌}
use native.Mathlib.Omega.{arith}
use borrow.Author.Tests.{lt-ltb, ne_eqb}
use lib.Dec.{ltb, eqb}
use lib.IntN.{ℤ, pos, negsuc}
use lib.Signed.{lt_z}
use mir.Syntax.{w32}
use mir.Val.{of_z}
use Rattle.arith32.proofs.Whole.{above, below, less, is_not_less}
use Rattle.arith32.specs.Arith.{Sample}
use Rattle.tendency.specs.Tendency.{opposite}

-- a number below zero is not above it
pub not_above : (x : ℤ) → lt_z x (pos 0) ≡ true → lt_z (pos 0) x ≡ false
unfolding above below
not_above x h = is_not_less (pos 0) x (omega (arith, less x (pos 0) h))

-- a sample whose bits are not 0 lies below zero or above it
not_zero : (x : ℤ) → Sample x → not (eqb (of_z w32 x) 0) ≡ lt_z x (pos 0) || lt_z (pos 0) x
not_zero (pos zero) f = refl
not_zero (pos (suc n)) f = rw (ne_eqb (suc n) 0 (λ (e : suc n ≡ 0). omega arith), lt-ltb 0 (suc n) (omega arith), or-true (ltb (suc n) 0))
not_zero (negsuc n) f =
    let h : n < 2147483648 = f.sfits in
    rw (ne_eqb (4294967296 - suc n) 0 (λ (e : 4294967296 - suc n ≡ 0). omega arith))

pub by_signs : (a b c d : Bool) → (a ≡ true → b ≡ false) → (c ≡ true → d ≡ false)
    → not (beq a c) && ((a || b) && (c || d)) ≡ (a && d) || (b && c)
by_signs true b true d p q = rw (p refl, q refl)
by_signs true b false d p q = rw (p refl) (sym (or-false d))
by_signs false b true d p q = refl
by_signs false b false d p q = sym (and-false b)

-- the signs differ and neither sample is zero: the signs are strictly opposite
pub unlike : (x y : ℤ) → Sample x → Sample y
    → not (beq (lt_z x (pos 0)) (lt_z y (pos 0))) && (not (eqb (of_z w32 x) 0) && not (eqb (of_z w32 y) 0)) ≡ opposite x y
unfolding opposite
unlike x y f g =
    rw (not_zero x f, not_zero y g)
    (by_signs (lt_z x (pos 0)) (lt_z (pos 0) x) (lt_z y (pos 0)) (lt_z (pos 0) y) (not_above x) (not_above y))
