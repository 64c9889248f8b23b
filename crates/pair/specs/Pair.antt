-- The pair, in the words and the order of document 01, "The pair": two samples from an average, a residual, the next average and the
-- previous output, and the way back that the writer takes. All sums wrap at 32 bits. Definitions only.
use Rattle.std.specs.Prelude.{ℤ}
use Rattle.arith32.specs.Arith.{◌⊕◌, ◌⊖◌, half}
use Rattle.tendency.specs.Tendency.{tendency}

-- "The difference d is residual plus tendency"
unfoldable pub difference : ℤ → ℤ → ℤ → ℤ → ℤ
difference avg res next prev = res ⊕ tendency prev avg next

-- "half of d is taken toward zero; first = average + half, second = first - d"
unfoldable pub first_of : ℤ → ℤ → ℤ
first_of avg d = avg ⊕ half d

unfoldable pub second_of : ℤ → ℤ → ℤ
second_of avg d = first_of avg d ⊖ d

-- the two samples of an average and a residual, between a next average and a previous output
unfoldable pub first : ℤ → ℤ → ℤ → ℤ → ℤ
first avg res next prev = first_of avg (difference avg res next prev)

unfoldable pub second : ℤ → ℤ → ℤ → ℤ → ℤ
second avg res next prev = second_of avg (difference avg res next prev)

-- "The writer's average is first minus that half of first - second."
unfoldable pub average : ℤ → ℤ → ℤ
average x y = x ⊖ half (x ⊖ y)

-- "each residual is first - second minus the tendency met there in rebuilding": of a difference, and of the two samples
unfoldable pub residual_of : ℤ → ℤ → ℤ → ℤ → ℤ
residual_of d avg next prev = d ⊖ tendency prev avg next

unfoldable pub residual : ℤ → ℤ → ℤ → ℤ → ℤ
residual x y next prev = residual_of (x ⊖ y) (average x y) next prev
