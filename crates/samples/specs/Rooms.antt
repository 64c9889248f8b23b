-- What a room for samples holds. Definitions only.
use Rattle.std.specs.Prelude.{◌≡◌, Bool, true, List, ℕ, ◌+◌, ◌%◌, ◌<◌, ◌≤◌, ℤ, pos, length, get_or, slice_range}

-- sample k is f k, for every k from `from` on up to `to`
abbrev pub Holds : (ℕ → ℤ) → List ℤ → ℕ → ℕ → Type 0
Holds f s from to = (k : ℕ) → from ≤ k → k < to → get_or s k (pos 0) ≡ f k

-- what stands at an index of a room where nothing was written: no sample is like its neighbours
unfoldable pub mark : ℕ → ℤ
mark k = pos (1_515_870_000 + k % 1021)

-- samples before and after those that a room lends, at least
abbrev pub guard : ℕ
guard = 16

-- a room has the guards, f's first n samples between them, and its marks before and after these
pub record Guarded (f : ℕ → ℤ) (n : ℕ) (room : List ℤ) : Type 0 where
  pub reaches : guard + n + guard ≤ length room
  pub before : Holds mark room 0 guard
  pub between : Holds f (slice_range room guard (guard + n)) 0 n
  pub after : Holds mark room (guard + n) (length room)

-- an answer is true exactly when P is
pub record Exactly (answer : Bool) (P : Type 0) : Type 0 where
  pub says : answer ≡ true → P
  pub said : P → answer ≡ true
