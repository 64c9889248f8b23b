-- Whether a pair leaves the plain range (document 02, A.3): "whether any of its inputs or its two outputs lies outside -268,435,456 to 268,435,455". Its six
-- samples are the average, the residual, the next average, the previous output and the two samples, whichever way they are made. Definitions only.
use Rattle.std.specs.Prelude.{Bool, ◌||◌, ℤ}
use Rattle.range.specs.Range.{outside}
use Rattle.pair.specs.Pair.{first, second, average, residual}

unfoldable pub any_outside : ℤ → ℤ → ℤ → ℤ → ℤ → ℤ → Bool
any_outside avg res next prev x y =
    outside avg || (outside res || (outside next || (outside prev || (outside x || outside y))))

-- of the pair that makes two samples
unfoldable pub pair_marked : ℤ → ℤ → ℤ → ℤ → Bool
pair_marked avg res next prev = any_outside avg res next prev (first avg res next prev) (second avg res next prev)

-- of the writer's pair, which makes average and residual
unfoldable pub written_marked : ℤ → ℤ → ℤ → ℤ → Bool
written_marked x y next prev = any_outside (average x y) (residual x y next prev) next prev x y
