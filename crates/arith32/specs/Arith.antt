-- The arithmetic of 32-bit samples (document 01, "The pair"): "All sums wrap at 32 bits." Definitions only.
use Rattle.std.specs.Prelude.{cond, ℕ, ◌-◌, ◌%◌, ◌^◌, ℤ, pos, negsuc, ◌+ℤ◌, ◌-ℤ◌, ◌*ℤ◌}
use Rattle.std.specs.Int.Signed.{lt_z, quot_z, shr_z}
use Rattle.std.specs.Int.{w32}
use Rattle.std.proofs.Common.{SFits, to_z}

-- a sample: a whole number from -2^31 to 2^31 - 1, as an i32 holds it
abbrev pub Sample : ℤ → Type 0
Sample z = SFits w32 z

-- 2^32
abbrev pub modulus : ℕ
modulus = 4294967296

-- z modulo 2^32, from 0 to 2^32 - 1
unfoldable pub residue : ℤ → ℕ
residue (pos n) = n % modulus
residue (negsuc n) = (modulus - 1) - n % modulus

-- the sample with that residue: `to_z w32` reads 32 bits as a signed number
unfoldable pub wrap : ℤ → ℤ
wrap z = to_z w32 (residue z)

-- sums and differences that wrap
infixl 6 ◌⊕◌ ◌⊖◌
abbrev pub ◌⊕◌ : ℤ → ℤ → ℤ
a ⊕ b = wrap (a +ℤ b)

abbrev pub ◌⊖◌ : ℤ → ℤ → ℤ
a ⊖ b = wrap (a -ℤ b)

-- the wrapped absolute value: "-2^31 stays"
unfoldable pub wrapped_abs : ℤ → ℤ
wrapped_abs z = cond (lt_z z (pos 0)) (pos 0 ⊖ z) z

-- z "shifted right n with sign"
abbrev pub shift_right : ℤ → ℕ → ℤ
shift_right z n = shr_z z (2 ^ n)

-- "p times 55555556 hex, upper 32 bits of the signed product"
abbrev pub third : ℤ → ℤ
third p = shift_right (p *ℤ pos 0x5555_5556) 32

-- "half of d is taken toward zero"
abbrev pub half : ℤ → ℤ
half d = quot_z d (pos 2)

-- the lowest bit of z in two's complement
unfoldable pub lowest_bit : ℤ → ℤ
lowest_bit z = pos (residue z % 2)
