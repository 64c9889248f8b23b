-- The mark of a block (document 02, A.3), which comes beside its answer: some lane's pair has a sample outside the plain range. Definitions only.
use Rattle.std.specs.Prelude.{Bool, List, ℤ, pos, get_or}
use Rattle.range.specs.Range.{some}
use Rattle.pair.specs.Marks.{pair_marked}

unfoldable pub block_marked : List ℤ → List ℤ → List ℤ → List ℤ → Bool
block_marked avg res next prev =
    some (λ k. pair_marked (get_or avg k (pos 0)) (get_or res k (pos 0)) (get_or next k (pos 0)) (get_or prev k (pos 0))) 8
