-- What the parts of a step do to the array of places, entry by entry: room is made for the residuals, then each channel of the range is split. An
-- entry is given by its index: p before, q afterwards. Definitions only.
use Rattle.std.specs.Prelude.{◌≡◌, Bool, ℕ, ◌+◌, ◌<◌, ◌≤◌}
use Rattle.places.specs.declared.Place.{Place}
use Rattle.places.specs.Places.{average_place, residual_place}

-- the entries from `at` on gone `number` further; what lies in between is not told
pub record Spread (count at number : ℕ) (p q : ℕ → Place) : Type 0 where
  pub front : (k : ℕ) → k < at → q k ≡ p k
  pub moved : (k : ℕ) → at ≤ k → k < count → q (k + number) ≡ p k
  pub back : (k : ℕ) → count + number ≤ k → q k ≡ p k

-- the whole range split, the residuals from `at` on
pub record Split (horizontal : Bool) (begin at number : ℕ) (p q : ℕ → Place) : Type 0 where
  pub front : (k : ℕ) → k < begin → q k ≡ p k
  pub average : (i : ℕ) → i < number → q (begin + i) ≡ average_place horizontal (p (begin + i))
  pub between : (k : ℕ) → begin + number ≤ k → k < at → q k ≡ p k
  pub residual : (i : ℕ) → i < number → q (at + i) ≡ residual_place horizontal (p (begin + i))
  pub back : (k : ℕ) → at + number ≤ k → q k ≡ p k
