-- The standard's tendency along each course: the size on a fall, minus the size on a rise, else 0. A rise is taken like a fall, since minus
-- goes past all that the formulas do. Assumes nothing.
use mathlib.Core.Path.{◌≡◌, refl}
use Prim.Native.Nat.{ℕ, zero, suc, ◌+◌, ◌*◌, ◌/◌, ◌%◌, ◌<◌}
use native.Mathlib.Omega.{arith}
use native.Mathlib.Nat.{zero-mul, zero-div}
use lib.Dec.{ltb}
use lib.IntN.{ℤ, pos, ◌+ℤ◌, ◌-ℤ◌, ◌*ℤ◌}
use lib.Signed.{lt_z, quot_z}
use Rattle.arith32.proofs.Whole.{above, below, equal, sum_law, difference_law, product_law, same_test, is_at_most, is_not_at_most}
use Rattle.standard.specs.Standard as Std
use Rattle.standard.proofs.Course.{Over, minus, minus_law, fall, rise, slope_size, size_before, size_after, size, clamp_of}

-- 4a - 3c - b, by the differences
by_differences : (a b c : ℤ) → a *ℤ pos 4 -ℤ c *ℤ pos 3 -ℤ b ≡ (a -ℤ b) *ℤ pos 4 +ℤ (b -ℤ c) *ℤ pos 3
by_differences a b c =
    let 4a = a *ℤ pos 4 in
    let 3c = c *ℤ pos 3 in
    let 4x = (a -ℤ b) *ℤ pos 4 in
    let 3y = (b -ℤ c) *ℤ pos 3 in
    equal (4a -ℤ 3c -ℤ b) (4x +ℤ 3y)
    (omega (
      arith,
      product_law a 4,
      product_law c 3,
      difference_law 4a 3c,
      difference_law (4a -ℤ 3c) b,
      difference_law a b,
      difference_law b c,
      product_law (a -ℤ b) 4,
      product_law (b -ℤ c) 3,
      sum_law 4x 3y,
    ))

-- ---- a fall
fall_slope : (a b c : ℤ) (p q : ℕ) → Over a b p → Over b c q → Std.falling_slope a b c ≡ pos (slope_size p q)
unfolding Std.falling_slope slope_size
fall_slope a b c p q h k = rw (by_differences a b c, fall a b p h, fall b c q k)

test_before : (p v : ℕ) → lt_z (pos (p * 2)) (pos v -ℤ pos (v % 2)) ≡ ltb (p * 2 + v % 2) v
unfolding above below
test_before p v =
    same_test (pos (p * 2)) (pos v -ℤ pos (v % 2)) (pos (p * 2 + v % 2)) (pos v)
    (omega (arith, difference_law (pos v) (pos (v % 2))))

fall_before : (a b : ℤ) (p v : ℕ) → Over a b p → Std.falling_before a b (pos v) ≡ pos (size_before p v)
unfolding Std.falling_before Std.lowest_bit size_before
fall_before a b p v h = rw (fall a b p h, test_before p v) (clamp_of pos (ltb (p * 2 + v % 2) v) (p * 2 + 1) v)

fall_after : (b c : ℤ) (q v : ℕ) → Over b c q → Std.falling_after b c (pos v) ≡ pos (size_after q v)
unfolding Std.falling_after Std.lowest_bit size_after
fall_after b c q v h = rw (fall b c q h) (clamp_of pos (ltb (q * 2) (v + v % 2)) (q * 2) v)

falling_size : (a b c : ℤ) (p q : ℕ) → Over a b p → Over b c q → Std.falling a b c ≡ pos (size p q)
unfolding Std.falling size
falling_size a b c p q h k =
    rw (fall_slope a b c p q h k, fall_before a b p (slope_size p q) h, fall_after b c q (size_before p (slope_size p q)) k)

-- ---- minus goes past a sum, a product, a quotient, the lowest bit and a test
minus_sum : (m n : ℕ) → minus m +ℤ minus n ≡ minus (m + n)
minus_sum m n =
    equal (minus m +ℤ minus n) (minus (m + n)) (omega (arith, sum_law (minus m) (minus n), minus_law m, minus_law n, minus_law (m + n)))

minus_product : (n k : ℕ) → minus n *ℤ pos k ≡ minus (n * k)
minus_product zero k = rw (zero-mul k)
minus_product (suc n) k = refl

minus_quotient : (n k : ℕ) → quot_z (minus n) (pos k) ≡ minus (n / k)
minus_quotient zero k = rw (zero-div k)
minus_quotient (suc n) k = refl

minus_bit : (v : ℕ) → Std.lowest_bit (minus v) ≡ pos (v % 2)
unfolding Std.lowest_bit
minus_bit zero = refl
minus_bit (suc v) = refl

minus_test : (m n : ℕ) → lt_z (minus m) (minus n) ≡ ltb n m
unfolding above below
minus_test m n = same_test (minus m) (minus n) (pos n) (pos m) (omega (arith, minus_law m, minus_law n))

minus_test_before : (p v : ℕ) → lt_z (minus v +ℤ pos (v % 2)) (minus (p * 2)) ≡ ltb (p * 2 + v % 2) v
unfolding above below
minus_test_before p v =
    same_test (minus v +ℤ pos (v % 2)) (minus (p * 2)) (pos (p * 2 + v % 2)) (pos v)
    (omega (arith, sum_law (minus v) (pos (v % 2)), minus_law v, minus_law (p * 2)))

-- ---- a rise
rise_slope : (a b c : ℤ) (p q : ℕ) → Over b a p → Over c b q → Std.rising_slope a b c ≡ minus (slope_size p q)
unfolding Std.rising_slope slope_size
rise_slope a b c p q h k =
    rw (
      by_differences a b c,
      rise a b p h,
      rise b c q k,
      minus_product p 4,
      minus_product q 3,
      minus_sum (p * 4) (q * 3),
      minus_sum (p * 4 + q * 3) 6,
    )
    (minus_quotient (p * 4 + q * 3 + 6) 12)

rise_before : (a b : ℤ) (p v : ℕ) → Over b a p → Std.rising_before a b (minus v) ≡ minus (size_before p v)
unfolding Std.rising_before size_before
rise_before a b p v h =
    rw (rise a b p h, minus_bit v, minus_product p 2, minus_test_before p v, minus_sum (p * 2) 1)
    (clamp_of minus (ltb (p * 2 + v % 2) v) (p * 2 + 1) v)

rise_after : (b c : ℤ) (q v : ℕ) → Over c b q → Std.rising_after b c (minus v) ≡ minus (size_after q v)
unfolding Std.rising_after size_after
rise_after b c q v h =
    rw (rise b c q h, minus_bit v, minus_product q 2, minus_sum v (v % 2), minus_test (v + v % 2) (q * 2))
    (clamp_of minus (ltb (q * 2) (v + v % 2)) (q * 2) v)

rising_size : (a b c : ℤ) (p q : ℕ) → Over b a p → Over c b q → Std.rising a b c ≡ minus (size p q)
unfolding Std.rising size
rising_size a b c p q h k =
    rw (rise_slope a b c p q h k, rise_before a b p (slope_size p q) h, rise_after b c q (size_before p (slope_size p q)) k)

-- ---- the tendency, course by course
module _ (a b c : ℤ) where
  pub standard_falls : (p q : ℕ) → Over a b p → Over b c q → Std.tendency a b c ≡ pos (size p q)
  unfolding Std.tendency
  standard_falls p q h k = rw (is_at_most b a (omega arith), is_at_most c b (omega arith)) (falling_size a b c p q h k)

  pub standard_rises : (p q : ℕ) → Over b a p → Over c b q → 0 < p + q → Std.tendency a b c ≡ minus (size p q)
  unfolding Std.tendency
  standard_rises zero q h k l =
      rw (is_at_most b a (omega arith), is_not_at_most c b (omega arith), is_at_most a b (omega arith), is_at_most b c (omega arith))
      (rising_size a b c zero q h k)
  standard_rises (suc p) q h k l =
      rw (is_not_at_most b a (omega arith), is_at_most a b (omega arith), is_at_most b c (omega arith))
      (rising_size a b c (suc p) q h k)

  pub standard_peaks : (p q : ℕ) → Over b a (suc p) → Over b c (suc q) → Std.tendency a b c ≡ pos 0
  unfolding Std.tendency
  standard_peaks p q h k =
      rw (is_not_at_most b a (omega arith), is_at_most a b (omega arith), is_not_at_most b c (omega arith))

  pub standard_dips : (p q : ℕ) → Over a b (suc p) → Over c b (suc q) → Std.tendency a b c ≡ pos 0
  unfolding Std.tendency
  standard_dips p q h k =
      rw (is_at_most b a (omega arith), is_not_at_most c b (omega arith), is_not_at_most a b (omega arith))
