-- The writer's average on the domain of demand 2: it is that over whole numbers without a bound, twice it differs from the sum of the two
-- samples by one at most, and so it lies in the domain again. Assumes nothing.
use mathlib.Core.Path.{◌≡◌}
use Prim.Native.Nat.{◌+◌, ◌*◌, ◌≤◌}
use native.Mathlib.Omega.{arith}
use lib.IntN.{ℤ, pos, ◌+ℤ◌, ◌-ℤ◌, ◌*ℤ◌}
use lib.Signed.{◌≤ℤ◌, quot_z}
use Rattle.arith32.proofs.Whole.{above, below, natural, sum_law, difference_law, product_law, quotient_law, ordered}
use Rattle.pair.specs.Pair.{average}
use Rattle.standard.specs.Domain.{InDomain}
use Rattle.standard.proofs.Range.{kept, domain_range, in_domain}

-- over whole numbers without a bound
abbrev average_of : ℤ → ℤ → ℤ
average_of x y = x -ℤ quot_z (x -ℤ y) (pos 2)

-- twice it is at most x + y + 1, and x + y at most twice it and 1
average_law : (x y : ℤ)
    → (above (average_of x y) * 2 + (below x + below y) ≤ above x + above y + below (average_of x y) * 2 + 1)
    × (above x + above y + below (average_of x y) * 2 ≤ above (average_of x y) * 2 + (below x + below y) + 1)
average_law x y =
    let d = x -ℤ y in
    omega (arith, difference_law x (quot_z d (pos 2)), quotient_law d 2, difference_law x y)

module _ (x y : ℤ) (hx : InDomain x) (hy : InDomain y) where
  pub average_standard : average x y ≡ x -ℤ quot_z (x -ℤ y) (pos 2)
  unfolding average
  average_standard =
      let rx = domain_range x hx in
      let ry = domain_range y hy in
      rw (kept (x -ℤ y) (omega (arith, difference_law x y))) (kept (average_of x y) (omega (arith, average_law x y)))

  pub twice_average_high : (average x y *ℤ pos 2) ≤ℤ (x +ℤ y +ℤ pos 1)
  twice_average_high =
      let m = average_of x y in
      rw average_standard
      (ordered (m *ℤ pos 2) (x +ℤ y +ℤ pos 1)
      (omega (arith, average_law x y, product_law m 2, sum_law x y, sum_law (x +ℤ y) (pos 1), natural 1)))

  pub twice_average_low : (x +ℤ y) ≤ℤ (average x y *ℤ pos 2 +ℤ pos 1)
  twice_average_low =
      let m = average_of x y in
      rw average_standard
      (ordered (x +ℤ y) (m *ℤ pos 2 +ℤ pos 1)
      (omega (arith, average_law x y, product_law m 2, sum_law x y, sum_law (m *ℤ pos 2) (pos 1), natural 1)))

  pub average_domain : InDomain (average x y)
  average_domain =
      let l = average_law x y in
      let rx = domain_range x hx in
      let ry = domain_range y hy in
      rw average_standard (in_domain (average_of x y) (omega arith) (omega arith))
