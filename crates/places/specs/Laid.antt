-- What places keep while steps are taken: homes inside a slice and apart from each other, and the sides of a list's channels. Parts of a slice, and
-- a slice with a part written. Definitions only.
use Rattle.std.specs.Prelude.{◌≡◌, List, ◌++◌, ◌⊎◌, ℕ, ◌+◌, ◌<◌, ◌≤◌, ℤ, length, take, drop}
use Rattle.channel.specs.declared.Channel.{Channel}
use Rattle.list.specs.Questions.{channel_of}
use Rattle.places.specs.declared.Place.{Place}
use Rattle.places.specs.Places.{area, place_of}

-- one part lies before the other
abbrev pub Apart : ℕ → ℕ → ℕ → ℕ → Type 0
Apart at n from m = (at + n ≤ from) ⊎ (from + m ≤ at)

pub record Laid (n : ℕ) (ps : List Place) : Type 0 where
  pub inside : (k : ℕ) → k < length ps → (place_of ps k).home + area (place_of ps k) ≤ n
  pub apart : (i j : ℕ) → i < j → j < length ps → Apart (place_of ps i).home (area (place_of ps i)) (place_of ps j).home (area (place_of ps j))

-- the places of a list's channels
pub record Sided (cs : List Channel) (ps : List Place) : Type 0 where
  pub long : length ps ≡ length cs
  pub wide : (k : ℕ) → k < length ps → (place_of ps k).width ≡ (channel_of cs k).width
  pub high : (k : ℕ) → k < length ps → (place_of ps k).height ≡ (channel_of cs k).height

-- ---- slices
-- n samples from `at` on
unfoldable pub part : ℕ → ℕ → List ℤ → List ℤ
part at n xs = take n (drop at xs)

-- ys over the samples from `at` on
unfoldable pub written : ℕ → List ℤ → List ℤ → List ℤ
written at ys xs = take at xs ++ (ys ++ drop (at + length ys) xs)
