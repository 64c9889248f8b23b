-- The test of `clamp_before`: the bit that the definition adds to 2p can be taken from v instead, since neither sum wraps.
-- Rests on the whole numbers and the residues of arith32. Assumes nothing.
use mathlib.Core.Path.{◌≡◌}
use mathlib.Core.Bool.{cond}
use Prim.Native.Nat.{◌+◌, ◌%◌}
use native.Mathlib.Omega.{arith}
use lib.IntN.{ℤ, pos, negsuc, ◌+ℤ◌, ◌-ℤ◌}
use lib.Signed.{lt_z}
use Rattle.arith32.proofs.Whole.{above, below, natural, one_is_zero, sum_law, difference_law, range32, in_range32, same_test}
use Rattle.arith32.proofs.Residues.{wrap_sample, wrap_id, residue-⊕}
use Rattle.tendency.specs.Tendency.{clamp_before}
use Rattle.arith32.specs.Arith.{Sample, residue, ◌⊕◌, ◌⊖◌, lowest_bit}

-- a number is odd where its residue is
parity : (z : ℤ) → residue z % 2 ≡ (above z + below z) % 2
unfolding above below residue
parity (pos n) = omega arith
parity (negsuc n) = omega arith

-- an even sample plus a bit does not wrap
even_plus : (t v : ℤ) → Sample t → residue t % 2 ≡ 0 → t ⊕ lowest_bit v ≡ t +ℤ lowest_bit v
unfolding lowest_bit
even_plus t v f e =
    let b = pos (residue v % 2) in
    let n = natural (residue v % 2) in
    let s = sum_law t b in
    let r = range32 t f in
    let q = parity t in
    let o = one_is_zero t in
    wrap_id (t +ℤ b) (in_range32 (t +ℤ b) (omega arith) (omega arith))

-- nor does a sample less its own lowest bit
minus_bit : (v : ℤ) → Sample v → v ⊖ lowest_bit v ≡ v -ℤ lowest_bit v
unfolding lowest_bit
minus_bit v f =
    let b = pos (residue v % 2) in
    let n = natural (residue v % 2) in
    let d = difference_law v b in
    let r = range32 v f in
    let q = parity v in
    let o = one_is_zero v in
    wrap_id (v -ℤ b) (in_range32 (v -ℤ b) (omega arith) (omega arith))

pub same_clamp : (p v : ℤ) → Sample v → lt_z (p ⊕ p ⊕ lowest_bit v) v ≡ lt_z (p ⊕ p) (v ⊖ lowest_bit v)
same_clamp p v f =
    rw (even_plus (p ⊕ p) v (wrap_sample _) (omega (arith, residue-⊕ p p)), minus_bit v f)
    (same_test (p ⊕ p +ℤ lowest_bit v) v (p ⊕ p) (v -ℤ lowest_bit v)
    (omega (arith, sum_law (p ⊕ p) (lowest_bit v), difference_law v (lowest_bit v))))

-- so the machine's test decides the clamp
pub clamp_before_is : (p v : ℤ) → Sample v → clamp_before p v ≡ cond (lt_z (p ⊕ p) (v ⊖ lowest_bit v)) (p ⊕ p ⊕ pos 1) v
unfolding clamp_before
clamp_before_is p v f = rw (same_clamp p v f)
