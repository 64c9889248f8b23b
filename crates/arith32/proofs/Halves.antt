-- The machine's half: d plus its sign bit fits and, shifted right with sign, is half of d toward zero. Assumes nothing.
use mathlib.Core.Path.{◌≡◌}
use mathlib.Core.Bool.{Bool, true, false}
use native.Mathlib.Omega.{arith}
use lib.Dec.{lit<}
use lib.IntN.{ℤ, pos, ◌+ℤ◌}
use lib.Signed.{lt_z, shr_z}
use mir.Syntax.{w32}
use mir.Val.{to_z, bool_byte}
use Rattle.arith32.specs.Arith.{Sample, half}
use Rattle.arith32.proofs.Whole.{above, below, sum_law, quotient_law, shift_law, below_zero, not_below_zero, range32, in_range32, equal}

-- d plus the bit b
abbrev pub plus_bit : ℤ → Bool → ℤ
plus_bit d b = d +ℤ to_z w32 (bool_byte b)

pub sum_sample : (d : ℤ) (b : Bool) → lt_z d (pos 0) ≡ b → Sample d → Sample (plus_bit d b)
unfolding above below
sum_sample d true h f =
    let s = sum_law d (pos 1) in
    let l = below_zero d h in
    let r = range32 d f in
    in_range32 (d +ℤ pos 1) (omega arith) (omega arith)
sum_sample d false h f =
    let s = sum_law d (pos 0) in
    let r = range32 d f in
    in_range32 (d +ℤ pos 0) (omega arith) (omega arith)

pub shifted_half : (d : ℤ) (b : Bool) → lt_z d (pos 0) ≡ b → shr_z (plus_bit d b) 2 ≡ half d
unfolding above below
shifted_half d true h =
    equal (shr_z (d +ℤ pos 1) 2) (half d)
    (omega (arith, sum_law d (pos 1), below_zero d h, shift_law (d +ℤ pos 1) 2 (lit< tt), quotient_law d 2))
shifted_half d false h =
    equal (shr_z (d +ℤ pos 0) 2) (half d)
    (omega (arith, sum_law d (pos 0), not_below_zero d h, shift_law (d +ℤ pos 0) 2 (lit< tt), quotient_law d 2))
