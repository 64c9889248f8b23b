-- The domain of demand 2 (document 01, "The pair"): samples from -268,435,456 to 268,435,455. Definitions only.
use Rattle.std.specs.Prelude.{ℤ, ◌≤ℤ◌}
use Rattle.range.specs.Range.{lowest, highest}

pub record InDomain (z : ℤ) : Type 0 where
  pub low : lowest ≤ℤ z
  pub high : z ≤ℤ highest
