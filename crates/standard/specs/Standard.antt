-- ISO/IEC 18181-1, Modular Squeeze: the tendency and the inverse step along a line, over whole numbers without a bound.
-- Written from the standard's formulas alone; nothing here is defined by document 01's 32-bit arithmetic. Definitions only.
use Rattle.std.specs.Prelude.{cond, ◌&&◌, ℕ, zero, suc, ◌+◌, ◌/◌, ◌%◌, eqb, ltb, ℤ, pos, nat_abs, ◌+ℤ◌, ◌-ℤ◌, ◌*ℤ◌}
use Rattle.std.specs.Int.Signed.{le_z, lt_z, quot_z}

-- "Idiv divides and rounds toward zero"
infixl 20 ◌Idiv◌
abbrev pub ◌Idiv◌ : ℤ → ℤ → ℤ
x Idiv y = quot_z x y

-- "X & 1", the lowest bit of a number in two's complement
unfoldable pub lowest_bit : ℤ → ℤ
lowest_bit x = pos (nat_abs x % 2)

-- A ≥ B ≥ C: "X = (4A - 3C - B + 6) Idiv 12; if X - (X & 1) > 2(A - B) then X = 2(A - B) + 1; then if X + (X & 1) > 2(B - C) then X = 2(B - C)"
unfoldable pub falling_slope : ℤ → ℤ → ℤ → ℤ
falling_slope a b c = ((((a *ℤ pos 4) -ℤ (c *ℤ pos 3)) -ℤ b) +ℤ pos 6) Idiv pos 12

unfoldable pub falling_before : ℤ → ℤ → ℤ → ℤ
falling_before a b x = cond (lt_z ((a -ℤ b) *ℤ pos 2) (x -ℤ lowest_bit x)) (((a -ℤ b) *ℤ pos 2) +ℤ pos 1) x

unfoldable pub falling_after : ℤ → ℤ → ℤ → ℤ
falling_after b c x = cond (lt_z ((b -ℤ c) *ℤ pos 2) (x +ℤ lowest_bit x)) ((b -ℤ c) *ℤ pos 2) x

unfoldable pub falling : ℤ → ℤ → ℤ → ℤ
falling a b c = falling_after b c (falling_before a b (falling_slope a b c))

-- A ≤ B ≤ C: "X = (4A - 3C - B - 6) Idiv 12; if X + (X & 1) < 2(A - B) then X = 2(A - B) - 1; then if X - (X & 1) < 2(B - C) then X = 2(B - C)"
unfoldable pub rising_slope : ℤ → ℤ → ℤ → ℤ
rising_slope a b c = ((((a *ℤ pos 4) -ℤ (c *ℤ pos 3)) -ℤ b) -ℤ pos 6) Idiv pos 12

unfoldable pub rising_before : ℤ → ℤ → ℤ → ℤ
rising_before a b x = cond (lt_z (x +ℤ lowest_bit x) ((a -ℤ b) *ℤ pos 2)) (((a -ℤ b) *ℤ pos 2) -ℤ pos 1) x

unfoldable pub rising_after : ℤ → ℤ → ℤ → ℤ
rising_after b c x = cond (lt_z (x -ℤ lowest_bit x) ((b -ℤ c) *ℤ pos 2)) ((b -ℤ c) *ℤ pos 2) x

unfoldable pub rising : ℤ → ℤ → ℤ → ℤ
rising a b c = rising_after b c (rising_before a b (rising_slope a b c))

-- the tendency of A (the sample before), B (the average) and C (the next average); "else X = 0"
unfoldable pub tendency : ℤ → ℤ → ℤ → ℤ
tendency a b c =
    cond (le_z b a && le_z c b) (falling a b c) (cond (le_z a b && le_z b c) (rising a b c) (pos 0))

-- "diff = r[i] + tendency(before, a[i], next); out[2i] = a[i] + diff Idiv 2; out[2i + 1] = out[2i] - diff"
unfoldable pub difference : ℤ → ℤ → ℤ → ℤ → ℤ
difference avg res next before = res +ℤ tendency before avg next

unfoldable pub first : ℤ → ℤ → ℤ → ℤ → ℤ
first avg res next before = avg +ℤ (difference avg res next before Idiv pos 2)

unfoldable pub second : ℤ → ℤ → ℤ → ℤ → ℤ
second avg res next before = first avg res next before -ℤ difference avg res next before

-- "Inverse step along a line with averages a[0..m) and residuals r[0..n)": "next = a[i + 1] if i + 1 < m, else a[i]"
unfoldable pub next : (ℕ → ℤ) → ℕ → ℕ → ℤ
next a m i = cond (ltb (i + 1) m) (a (i + 1)) (a i)

-- "before = out[2i - 1] if i > 0, else a[0]"
unfoldable pub before : (ℕ → ℤ) → (ℕ → ℤ) → ℕ → ℕ → ℤ
before a r m zero = a 0
before a r m (suc i) = second (a i) (r i) (next a m i) (before a r m i)

-- "out[0..m + n)", whose last is a[n] if m = n + 1
unfoldable pub out : (ℕ → ℤ) → (ℕ → ℤ) → ℕ → ℕ → ℕ → ℤ
out a r m n j =
    cond (ltb (j / 2) n)
    (cond (eqb (j % 2) 0)
    (first (a (j / 2)) (r (j / 2)) (next a m (j / 2)) (before a r m (j / 2)))
    (second (a (j / 2)) (r (j / 2)) (next a m (j / 2)) (before a r m (j / 2))))
    (a (j / 2))
