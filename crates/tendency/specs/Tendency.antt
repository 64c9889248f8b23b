-- The tendency of a (previous output), b (average) and c (next average), in the words and the order of document 01, "The pair".
-- All sums wrap at 32 bits, and comparisons are signed. Definitions only.
use Rattle.std.specs.Prelude.{Bool, ◌&&◌, ◌||◌, cond, ℤ, pos}
use Rattle.std.specs.Int.Signed.{lt_z}
use Rattle.arith32.specs.Arith.{◌⊕◌, ◌⊖◌, wrapped_abs, third, shift_right, lowest_bit}

-- "a-b and b-c have strictly opposite signs"
unfoldable pub opposite : ℤ → ℤ → Bool
opposite x y = (lt_z x (pos 0) && lt_z (pos 0) y) || (lt_z (pos 0) x && lt_z y (pos 0))

-- "t = p times 55555556 hex, upper 32 bits of the signed product; v = (2 + r + t) shifted right 2 with sign"
unfoldable pub slope : ℤ → ℤ → ℤ
slope p r = shift_right (pos 2 ⊕ r ⊕ third p) 2

-- "if v > 2p + (v's lowest bit), v = 2p + 1"
unfoldable pub clamp_before : ℤ → ℤ → ℤ
clamp_before p v = cond (lt_z (p ⊕ p ⊕ lowest_bit v) v) (p ⊕ p ⊕ pos 1) v

-- "if v + (v's lowest bit) > 2q, v = 2q"
unfoldable pub clamp_after : ℤ → ℤ → ℤ
clamp_after q v = cond (lt_z (q ⊕ q) (v ⊕ lowest_bit v)) (q ⊕ q) v

-- "negated if a-c is negative"
unfoldable pub negated_if : ℤ → ℤ → ℤ
negated_if z v = cond (lt_z z (pos 0)) (pos 0 ⊖ v) v

-- "Else": of x = a-b, y = b-c and z = a-c, whose wrapped absolute values are p, q and r
unfoldable pub monotone : ℤ → ℤ → ℤ → ℤ
monotone x y z =
    negated_if z (clamp_after (wrapped_abs y) (clamp_before (wrapped_abs x) (slope (wrapped_abs x) (wrapped_abs z))))

-- "0 if a-b and b-c have strictly opposite signs after wrapping. Else .."
unfoldable pub tendency : ℤ → ℤ → ℤ → ℤ
tendency a b c = cond (opposite (a ⊖ b) (b ⊖ c)) (pos 0) (monotone (a ⊖ b) (b ⊖ c) (a ⊖ c))
