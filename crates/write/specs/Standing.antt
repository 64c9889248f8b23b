-- Where the samples of a list's channels stand while the writer takes its steps: each channel at its place (crate places), in the picture, in the odd
-- slice or in the even one; what the functions for one channel, a step and all steps ask and leave; and the marks that they tell (document 02, A.3).
-- Definitions only.
use Rattle.std.specs.Prelude.{◌≡◌, Bool, true, List, ◌++◌, ℕ, ◌+◌, ◌<◌, ◌≤◌, ℤ, length}
use Rattle.numbers.specs.Numbers.{max_samples}
use Rattle.channel.specs.declared.Channel.{Channel}
use Rattle.channel.specs.Channel.{sides_fit}
use Rattle.range.specs.Range.{some}
use Rattle.list.specs.declared.ChannelList.{ChannelList}
use Rattle.list.specs.Tables.{map}
use Rattle.list.specs.Lists.{max_channels, channels}
use Rattle.places.specs.declared.Slot.{Slot}
use Rattle.places.specs.declared.Slot.TheVariants.{Unmade, Odd, Even}
use Rattle.places.specs.declared.Place.{Place}
use Rattle.places.specs.Places.{bare, area, turned, sum}
use Rattle.places.specs.Laid.{Apart, Laid, part}
use Rattle.plan.specs.declared.Steps.{Steps}
use Rattle.plan.specs.Steps.{steps}
use Rattle.runs.specs.Parts.{joined}
use Rattle.runs.specs.Runs.{channel_averages, channel_residuals, squeezed}
use Rattle.runs.specs.Marks.{channel_written_marked}

-- the odd and the even slice are as long as the picture
pub record Alike (picture odds evens : List ℤ) : Type 0 where
  pub odds_length : length odds ≡ length picture
  pub evens_length : length evens ≡ length picture

-- ---- the samples at a place
-- the slice that a slot tells, and what it holds at the place
abbrev pub slice_of : List ℤ → List ℤ → List ℤ → Slot → List ℤ
slice_of picture odds evens Unmade = picture
slice_of picture odds evens Odd = odds
slice_of picture odds evens Even = evens

unfoldable pub lying : List ℤ → List ℤ → List ℤ → Place → List ℤ
lying picture odds evens p = part p.home (area p) (slice_of picture odds evens p.slot)

abbrev pub held : List ℤ → List ℤ → List ℤ → List Place → List (List ℤ)
held picture odds evens ps = map (lying picture odds evens) ps

-- ---- a step
-- a channel's averages, then its residuals, and their place: its home in the other slice
unfoldable pub halves : Bool → Channel → List ℤ → List ℤ
halves horizontal c xs = channel_averages horizontal c xs ++ channel_residuals horizontal c xs

abbrev pub other : Place → Place
other p = record { width = p.width; height = p.height; home = p.home; slot = turned p.slot }

-- the odd and the even slice before and after the channel at p was squeezed: what lies apart from it stays
pub record Turned (horizontal : Bool) (p : Place) (picture odds evens odds' evens' : List ℤ) : Type 0 where
  pub own : lying picture odds' evens' (other p) ≡ halves horizontal (bare p) (lying picture odds evens p)
  pub kept : (q : Place) → q.home + area q ≤ length picture → Apart q.home (area q) p.home (area p)
      → lying picture odds' evens' q ≡ lying picture odds evens q

-- the places of a range: inside n samples, and apart from each other
pub record Ranged (n : ℕ) (at : ℕ → Place) (from to : ℕ) : Type 0 where
  pub inside : (k : ℕ) → from ≤ k → k < to → (at k).home + area (at k) ≤ n
  pub apart : (i j : ℕ) → from ≤ i → i < j → j < to → Apart (at i).home (area (at i)) (at j).home (area (at j))

-- none of them has a side above the limit
abbrev pub Fitting : (ℕ → Place) → ℕ → ℕ → Type 0
Fitting at from to = (k : ℕ) → from ≤ k → k < to → sides_fit (bare (at k)) ≡ true

-- the two slices before and after the channels of the range were squeezed
pub record Squeezed (horizontal : Bool) (at : ℕ → Place) (from to : ℕ) (picture odds evens odds' evens' : List ℤ) : Type 0 where
  pub own : (k : ℕ) → from ≤ k → k < to
      → lying picture odds' evens' (other (at k)) ≡ halves horizontal (bare (at k)) (lying picture odds evens (at k))
  pub kept : (q : Place) → q.home + area q ≤ length picture
      → ((k : ℕ) → from ≤ k → k < to → Apart q.home (area q) (at k).home (area (at k)))
      → lying picture odds' evens' q ≡ lying picture odds evens q

-- whether a pair or a tail of the channel at a place leaves the plain range, squeezed from where it stands
unfoldable pub place_marked : Bool → Place → List ℤ → List ℤ → List ℤ → Bool
place_marked horizontal p picture odds evens = channel_written_marked horizontal (bare p) (lying picture odds evens p)

-- some channel of so many from a place on
abbrev pub places_marked : Bool → (ℕ → Place) → ℕ → ℕ → List ℤ → List ℤ → List ℤ → Bool
places_marked horizontal at from number picture odds evens = some (λ i. place_marked horizontal (at (from + i)) picture odds evens) number

-- ---- all steps
-- the places of so many channels lie apart in a slice of n samples, and fill it
pub record Full (count : ℕ) (ps : List Place) (n : ℕ) : Type 0 where
  pub few : count ≤ max_channels
  pub small : n ≤ max_samples
  pub laid : Laid n ps
  pub filled : sum (map area ps) ≡ n

-- the places and the slices after the steps
pub record Reached (l : ChannelList) (s : Steps) (count : ℕ) (ps : List Place) (picture odds evens : List ℤ) : Type 0 where
  pub full : Full count ps (length picture)
  pub so : joined (held picture odds evens ps) ≡ squeezed (steps s) (channels l) picture
