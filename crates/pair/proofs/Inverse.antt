-- The pair is a bijection modulo 2^32 (specs/Bijection.antt). The idea: for fixed neighbours the tendency depends on the average alone, and
-- both ways meet at the same average; what one way adds to it the other takes away, whatever `half` and the tendency are. Assumes nothing.
use mathlib.Core.Path.{◌≡◌, sym, ◌∙◌}
use lib.IntN.{ℤ}
use Rattle.arith32.specs.Arith.{Sample, ◌⊖◌, half}
use Rattle.arith32.proofs.Residues.{minus_plus, plus_minus, minus_minus, wrap_sample}
use Rattle.tendency.specs.Tendency.{tendency}
use Rattle.pair.specs.Pair.{difference, first_of, second_of, first, second, average, residual_of, residual}
use Rattle.pair.specs.Bijection.{Bijection}

-- ---- average and difference, and the two samples
first_of_back : (x y : ℤ) → Sample x → first_of (average x y) (x ⊖ y) ≡ x
unfolding first_of average
first_of_back x y f = minus_plus x (half (x ⊖ y)) f

second_of_back : (x y : ℤ) → Sample x → Sample y → second_of (average x y) (x ⊖ y) ≡ y
unfolding second_of
second_of_back x y f g = rw (first_of_back x y f) (minus_minus x y g)

difference_back : (a d : ℤ) → Sample d → first_of a d ⊖ second_of a d ≡ d
unfolding second_of
difference_back a d g = minus_minus (first_of a d) d g

half_taken : (a d : ℤ) → Sample a → first_of a d ⊖ half d ≡ a
unfolding first_of
half_taken a d f = plus_minus a (half d) f

average_of_back : (a d : ℤ) → Sample a → Sample d → average (first_of a d) (second_of a d) ≡ a
unfolding average
average_of_back a d f g = rw (difference_back a d g) (half_taken a d f)

-- ---- with the neighbours
module _ (next prev : ℤ) where
  difference_sample : (a r : ℤ) → Sample (difference a r next prev)
  unfolding difference
  difference_sample a r = wrap_sample _

  -- the residual that the writer leaves is the difference again, at the same average
  difference_is : (x y : ℤ) → Sample (x ⊖ y) → difference (average x y) (residual x y next prev) next prev ≡ x ⊖ y
  unfolding difference residual residual_of
  difference_is x y f = minus_plus (x ⊖ y) (tendency prev (average x y) next) f

  first_sample : (a r : ℤ) → Sample (first a r next prev)
  unfolding first first_of
  first_sample a r = wrap_sample _

  second_sample : (a r : ℤ) → Sample (second a r next prev)
  unfolding second second_of
  second_sample a r = wrap_sample _

  average_sample : (x y : ℤ) → Sample (average x y)
  unfolding average
  average_sample x y = wrap_sample _

  residual_sample : (x y : ℤ) → Sample (residual x y next prev)
  unfolding residual residual_of
  residual_sample x y = wrap_sample _

  first_again : (x y : ℤ) → Sample x → first (average x y) (residual x y next prev) next prev ≡ x
  unfolding first
  first_again x y f = rw (difference_is x y (wrap_sample _)) (first_of_back x y f)

  second_again : (x y : ℤ) → Sample x → Sample y → second (average x y) (residual x y next prev) next prev ≡ y
  unfolding second
  second_again x y f g = rw (difference_is x y (wrap_sample _)) (second_of_back x y f g)

  average_again : (a r : ℤ) → Sample a → average (first a r next prev) (second a r next prev) ≡ a
  unfolding first second
  average_again a r f = average_of_back a (difference a r next prev) f (difference_sample a r)

  difference_again : (a r : ℤ) → first a r next prev ⊖ second a r next prev ≡ difference a r next prev
  unfolding first second
  difference_again a r = difference_back a (difference a r next prev) (difference_sample a r)

  tendency_taken : (a r : ℤ) → Sample r → difference a r next prev ⊖ tendency prev a next ≡ r
  unfolding difference
  tendency_taken a r g = plus_minus r (tendency prev a next) g

  residual_again : (a r : ℤ) → Sample a → Sample r → residual (first a r next prev) (second a r next prev) next prev ≡ r
  unfolding residual residual_of
  residual_again a r f g = rw (average_again a r f, difference_again a r) (tendency_taken a r g)

  one_only : (a r a' r' : ℤ) → Sample a → Sample r → Sample a' → Sample r'
      → first a r next prev ≡ first a' r' next prev → second a r next prev ≡ second a' r' next prev
      → (a ≡ a') × (r ≡ r')
  one_only a r a' r' fa fr fa' fr' e₁ e₂ = (
    sym (average_again a r fa) ∙ rw (e₁, e₂) (average_again a' r' fa'),
    sym (residual_again a r fa fr) ∙ rw (e₁, e₂) (residual_again a' r' fa' fr'),
  )

pub bijection : (next prev : ℤ) → Bijection next prev
bijection next prev =
    record {
      sample_first = first_sample next prev;
      sample_second = second_sample next prev;
      sample_average = average_sample next prev;
      sample_residual = residual_sample next prev;
      first_back = first_again next prev;
      second_back = second_again next prev;
      average_back = average_again next prev;
      residual_back = residual_again next prev;
      only = one_only next prev;
    }
