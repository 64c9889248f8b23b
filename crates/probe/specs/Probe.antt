-- What a lent slice holds after each of the probe's calls. Definitions only.
use Rattle.std.specs.Prelude.{cond, List, [], ◌∷◌, ◌++◌, ℕ, ◌+◌, eqb, leb, ℤ, pos, length, take, drop, replicate}
use Rattle.pair.specs.Pair.{first, second, average, residual}
use Rattle.block.specs.Block.{lanes}

-- two samples put into a slice that holds two, else nothing
unfoldable pub both : ℤ → ℤ → List ℤ → List ℤ
both x y out = cond (eqb (length out) 2) (x ∷ y ∷ []) out

unfoldable pub unsqueezed : ℤ → ℤ → ℤ → ℤ → List ℤ → List ℤ
unsqueezed avg res next prev out = both (first avg res next prev) (second avg res next prev) out

unfoldable pub squeezed : ℤ → ℤ → ℤ → ℤ → List ℤ → List ℤ
squeezed x y next prev out = both (average x y) (residual x y next prev) out

-- the eight samples of a slice from `at` on, or zeros where it has fewer
unfoldable pub block_at : List ℤ → ℕ → List ℤ
block_at s at = cond (leb (at + 8) (length s)) (take 8 (drop at s)) (replicate 8 (pos 0))

-- a slice with a block over its eight samples from `at` on, or as it is where it has fewer
unfoldable pub with_block : List ℤ → ℕ → List ℤ → List ℤ
with_block s at b = cond (leb (at + 8) (length s)) (take at s ++ b ++ drop (at + 8) s) s

-- the block of the first eight samples of each input, the firsts at 0 and the seconds at 8
unfoldable pub blocks : List ℤ → List ℤ → List ℤ → List ℤ → List ℤ → List ℤ
blocks avg res next prev out =
    with_block
    (with_block out 0 (lanes first (block_at avg 0) (block_at res 0) (block_at next 0) (block_at prev 0)))
    8
    (lanes second (block_at avg 0) (block_at res 0) (block_at next 0) (block_at prev 0))
