-- What it says that the pair is a bijection modulo 2^32, between one next average and one previous output. Neither neighbour is
-- restricted, so a line may put in neighbours that it has itself rebuilt. Statements only; proofs/Inverse.antt proves them.
use Rattle.std.specs.Prelude.{◌≡◌, ℤ}
use Rattle.arith32.specs.Arith.{Sample}
use Rattle.pair.specs.Pair.{first, second, average, residual}

pub record Bijection (next prev : ℤ) : Type 0 where
  -- what is made is a sample
  pub sample_first : (a r : ℤ) → Sample (first a r next prev)
  pub sample_second : (a r : ℤ) → Sample (second a r next prev)
  pub sample_average : (x y : ℤ) → Sample (average x y)
  pub sample_residual : (x y : ℤ) → Sample (residual x y next prev)
  -- back after forward
  pub first_back : (x y : ℤ) → Sample x → first (average x y) (residual x y next prev) next prev ≡ x
  pub second_back : (x y : ℤ) → Sample x → Sample y → second (average x y) (residual x y next prev) next prev ≡ y
  -- forward after back
  pub average_back : (a r : ℤ) → Sample a → average (first a r next prev) (second a r next prev) ≡ a
  pub residual_back : (a r : ℤ) → Sample a → Sample r → residual (first a r next prev) (second a r next prev) next prev ≡ r
  -- no other average and residual give the same two samples
  pub only : (a r a' r' : ℤ) → Sample a → Sample r → Sample a' → Sample r'
      → first a r next prev ≡ first a' r' next prev → second a r next prev ≡ second a' r' next prev
      → (a ≡ a') × (r ≡ r')
