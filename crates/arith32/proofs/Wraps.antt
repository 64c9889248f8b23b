-- std's methods on samples: `wrapping_add`, `wrapping_sub`, `wrapping_abs` and `cast_signed` leave what this crate's definitions wrap to.
-- Assumes nothing.
use mathlib.Core.Path.{◌≡◌, sym, ap, ◌∙◌}
use Prim.Native.Nat.{ℕ, suc, ◌+◌, ◌-◌, ◌%◌, ◌<◌}
use native.Mathlib.Omega.{arith}
use borrow.Author.Tests.{le-ltb}
use lib.IntN.{ℤ, pos, negsuc, nat_abs}
use mir.Syntax.{w32}
use mir.Val.{to_z, of_z}
use mir.Facts.{to_z_pos}
use Rattle.arith32.specs.Arith.{Sample, modulus, residue, wrap, ◌⊕◌, ◌⊖◌, wrapped_abs}
use Rattle.arith32.proofs.Residues.{residue_bits, residue_sum, residue_difference}

pub wrapped_sum : (a b : ℤ) → Sample a → Sample b → to_z w32 ((of_z w32 a + of_z w32 b) % modulus) ≡ a ⊕ b
unfolding wrap
wrapped_sum a b f g =
    ap (to_z w32) (rw (← residue_bits a f, ← residue_bits b g) (sym (residue_sum a b)))

pub wrapped_difference : (a b : ℤ) → Sample a → Sample b → to_z w32 ((of_z w32 a + (modulus - of_z w32 b)) % modulus) ≡ a ⊖ b
unfolding wrap
wrapped_difference a b f g =
    ap (to_z w32) (rw (← residue_bits a f, ← residue_bits b g) (sym (residue_difference a b)))

pub wrapped_bits : (n : ℕ) → n < modulus → to_z w32 n ≡ wrap (pos n)
unfolding wrap residue
wrapped_bits n h = let e : n % modulus ≡ n = omega arith in ap (to_z w32) (sym e)

pub wrapped_magnitude : (z : ℤ) → Sample z → to_z w32 (nat_abs z) ≡ wrapped_abs z
unfolding wrapped_abs
wrapped_magnitude (pos n) f = rw (le-ltb n 0 (omega arith)) (to_z_pos w32 f.sfits)
wrapped_magnitude (negsuc n) f =
    let h : n < 2147483648 = f.sfits in
    let e : suc n ≡ 0 + suc n = omega arith in
    wrapped_bits (suc n) (omega arith) ∙ ap (λ (k : ℕ). wrap (pos k)) e
