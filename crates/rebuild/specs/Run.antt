-- What the parts of a plan run ask of their callers and give them: a channel, a step's range, a step, a run of steps. Definitions only.
use Rattle.std.specs.Prelude.{◌≡◌, Bool, true, false, cond, List, [], ◌∷◌, ◌⊎◌, ℕ, ◌+◌, ◌-◌, ◌<◌, ◌≤◌, min, ℤ, length, get_or, take}
use Rattle.numbers.specs.Numbers.{max_samples}
use Rattle.range.specs.Range.{some}
use Rattle.channel.specs.declared.Channel.{Channel}
use Rattle.channel.specs.Channel.{sides_fit, samples}
use Rattle.list.specs.declared.Step.{Step}
use Rattle.list.specs.declared.ChannelList.{ChannelList}
use Rattle.list.specs.Tables.{table, map}
use Rattle.list.specs.Lists.{max_channels, max_steps, channels, total}
use Rattle.list.specs.Accepted.{Accepted}
use Rattle.plan.specs.declared.Steps.{Steps}
use Rattle.plan.specs.Steps.{step_at, steps}
use Rattle.plan.specs.Plans.{judge_steps, stepped_all}
use Rattle.places.specs.declared.Place.{Place}
use Rattle.places.specs.declared.Places.{Places}
use Rattle.places.specs.Places.{bare, area, is_odd, sum, starts_from, average_place, residual_place, step_places, residuals_at, root, step_fits, place_of, place_at, areas_in, places_from}
use Rattle.places.specs.Laid.{Laid, part, written}
use Rattle.tile.specs.declared.Sides.{Sides}
use Rattle.runs.specs.Parts.{parts}
use Rattle.runs.specs.Runs.{channel_back, rebuilt}
use Rattle.runs.specs.Marks.{channel_marked, run_marked}
use Rattle.rebuild.specs.declared.Source.{Source}
use Rattle.rebuild.specs.declared.Source.TheVariants.{Pyramid, Home}
use Rattle.rebuild.specs.declared.Sources.{Sources}

-- the sides of a place as those of a tile
abbrev pub sides_of : Place → Sides
sides_of p = record { width = p.width; height = p.height }

-- a channel's average, residual and output, each with its samples; no side is above the limit
pub record ChannelFits (horizontal : Bool) (p : Place) (avg res out : List ℤ) : Type 0 where
  pub avg_long : length avg ≡ area (average_place horizontal p)
  pub res_long : length res ≡ area (residual_place horizontal p)
  pub out_long : length out ≡ area p
  pub few : area p ≤ max_samples
  pub sides : sides_fit (bare p) ≡ true

-- ---- two slices of homes: the work slice for what an odd number of steps have made, the picture for the rest
abbrev pub slice_of : Bool → List ℤ → List ℤ → List ℤ
slice_of isOdd picture work = cond isOdd work picture

abbrev pub other : Bool → List ℤ → List ℤ → List ℤ
other isOdd picture work = cond isOdd picture work

-- ys stand at `home` of the one slice afterwards, and nothing else has changed
pub record Wrote (isOdd : Bool) (home : ℕ) (ys picture work picture' work' : List ℤ) : Type 0 where
  pub there : slice_of isOdd picture' work' ≡ written home ys (slice_of isOdd picture work)
  pub else : other isOdd picture' work' ≡ other isOdd picture work

-- ---- one channel, from where its average and its residual lie: in the pyramid, or in the other slice if a step has made them
abbrev pub start_of : Source → ℕ
start_of (Pyramid start) = start
start_of (Home home) = home

abbrev pub made_of : Source → Bool
made_of (Pyramid start) = false
made_of (Home home) = true

abbrev pub lying_in : Source → ℕ → List ℤ → List ℤ → List ℤ
lying_in source n pyramid beside = part (start_of source) n (cond (made_of source) beside pyramid)

abbrev pub channel_from : Bool → Place → Source → Source → List ℤ → List ℤ → List ℤ
channel_from horizontal p avg res pyramid beside =
    channel_back horizontal (bare p) (lying_in avg (area (average_place horizontal p)) pyramid beside) (lying_in res (area (residual_place horizontal p)) pyramid beside)

-- and its mark
abbrev pub channel_from_marked : Bool → Place → Source → Source → List ℤ → List ℤ → Bool
channel_from_marked horizontal p avg res pyramid beside =
    channel_marked horizontal (bare p) (lying_in avg (area (average_place horizontal p)) pyramid beside) (lying_in res (area (residual_place horizontal p)) pyramid beside)

pub record PutFits (horizontal : Bool) (p : Place) (avg res : Source) (pyramid beside out : List ℤ) : Type 0 where
  pub average_in : start_of avg + area (average_place horizontal p) ≤ length pyramid
  pub residual_in : start_of res + area (residual_place horizontal p) ≤ length pyramid
  pub home_in_lem : p.home + area p ≤ length pyramid
  pub few : length pyramid ≤ max_samples
  pub sides : sides_fit (bare p) ≡ true
  pub beside_long : length beside ≡ length pyramid
  pub out_long : length out ≡ length pyramid

-- ---- a step's range: qs are the places of the list before the step
abbrev pub source_at : Sources → ℕ → Source
source_at sources j = get_or sources.entries j (Pyramid 0)

abbrev pub start_at : Sources → ℕ → ℕ
start_at sources j = start_of (source_at sources j)

abbrev pub made_at : Sources → ℕ → Bool
made_at sources j = made_of (source_at sources j)

pub record RangeFits (s : Step) (qs : List Place) (sources : Sources) (pyramid picture work : List ℤ) : Type 0 where
  pub inside : s.begin + s.number ≤ length qs
  pub room : length qs + s.number ≤ max_channels
  pub laid : Laid (length pyramid) qs
  pub few : length pyramid ≤ max_samples
  pub sides : (k : ℕ) → k < length qs → sides_fit (bare (place_of qs k)) ≡ true
  pub starts_in : (j : ℕ) → j < length qs + s.number → start_at sources j + area (place_of (step_places s qs) j) ≤ length pyramid
  pub at_home_lem : (j : ℕ) → j < length qs + s.number → made_at sources j ≡ true → start_at sources j ≡ (place_of (step_places s qs) j).home
  pub picture_long : length picture ≡ length pyramid
  pub work_long : length work ≡ length pyramid

-- entry j of the list after the step
abbrev pub held : Step → List Place → Sources → List ℤ → List ℤ → List ℤ → ℕ → List ℤ
held s qs sources pyramid picture work j =
    lying_in (source_at sources j) (area (place_of (step_places s qs) j)) pyramid (slice_of (is_odd (place_of (step_places s qs) j).slot) picture work)

-- a place's home in its slice
abbrev pub at_home : Place → List ℤ → List ℤ → List ℤ
at_home p picture work = part p.home (area p) (slice_of (is_odd p.slot) picture work)

-- each channel of the range stands at its home, and what comes from no channel of the range as it did
pub record Ranged (s : Step) (qs : List Place) (sources : Sources) (pyramid picture work picture' work' : List ℤ) : Type 0 where
  pub range_made : (i : ℕ) → i < s.number
      → at_home (place_of qs (s.begin + i)) picture' work'
      ≡ channel_back s.horizontal (bare (place_of qs (s.begin + i))) (held s qs sources pyramid picture work (s.begin + i)) (held s qs sources pyramid picture work (residuals_at (length qs) s + i))
  pub others_kept : (j : ℕ) → j < length qs + s.number → ((i : ℕ) → i < s.number → root (length qs) s j ≡ s.begin + i → ⊥)
      → at_home (place_of (step_places s qs) j) picture' work' ≡ at_home (place_of (step_places s qs) j) picture work

-- the mark of channel i of the range, and that of some channel of it
abbrev pub held_marked : Step → List Place → Sources → List ℤ → List ℤ → List ℤ → ℕ → Bool
held_marked s qs sources pyramid picture work i =
    channel_marked s.horizontal (bare (place_of qs (s.begin + i))) (held s qs sources pyramid picture work (s.begin + i)) (held s qs sources pyramid picture work (residuals_at (length qs) s + i))

abbrev pub range_held_marked : Step → List Place → Sources → List ℤ → List ℤ → List ℤ → Bool
range_held_marked s qs sources pyramid picture work = some (held_marked s qs sources pyramid picture work) s.number

-- ---- the channels of a list one after the other in the pyramid
abbrev pub Lying : Places → Sources → Type 0
Lying p sources = (j : ℕ) → j < min p.count max_channels → source_at sources j ≡ Pyramid (get_or (starts_from 0 (areas_in p)) j 0)

-- ---- a step: its range now stands at its homes, and its residuals are no entries any more
pub record Marked (begin end : ℕ) (p : Places) (sources sources' : Sources) : Type 0 where
  pub within : (j : ℕ) → begin ≤ j → j < end → source_at sources' j ≡ Home (place_at p j).home
  pub else : (j : ℕ) → (j < begin) ⊎ (end ≤ j) → source_at sources' j ≡ source_at sources j

pub record Closed (at count number : ℕ) (sources sources' : Sources) : Type 0 where
  pub before : (j : ℕ) → j < at → source_at sources' j ≡ source_at sources j
  pub behind : (j : ℕ) → at ≤ j → j < count → source_at sources' j ≡ source_at sources (j + number)

-- all of it, by way of what the marks leave; the homes of p are those before the step
pub record TakenBack (s : Step) (qs : List Place) (sources : Sources) (pyramid picture work : List ℤ) (sources' : Sources) (picture' work' : List ℤ) : Type 0 where
  pub marks : Sources
  pub p : Places
  pub homes_are : (j : ℕ) → j < length qs → place_at p j ≡ place_of qs j
  pub ranged : Ranged s qs sources pyramid picture work picture' work'
  pub marked : Marked s.begin (s.begin + s.number) p sources marks
  pub closed : Closed (residuals_at (length qs) s) (length qs) s.number marks sources'

-- ---- steps
-- the places that steps leave
abbrev pub places_all : List Step → List Place → List Place
places_all [] ps = ps
places_all (s ∷ ss) ps = places_all ss (step_places s ps)

-- how many steps a plan means, the first m of them, the list and the places that they leave, the samples of that list, and the mark of the steps behind
-- them
abbrev pub step_count : Steps → ℕ
step_count s = min s.count max_steps

abbrev pub first_steps : Steps → ℕ → List Step
first_steps s m = table (step_at s) 0 m

abbrev pub list_at : ChannelList → Steps → ℕ → List Channel
list_at l s m = stepped_all (first_steps s m) (channels l)

abbrev pub places_at : ChannelList → Steps → ℕ → List Place
places_at l s m = places_all (first_steps s m) (places_from 0 (channels l))

abbrev pub samples_at : ChannelList → Steps → ℕ → List ℤ → List ℤ
samples_at l s m pyramid = rebuilt (table (step_at s) m (step_count s - m)) (list_at l s m) pyramid

abbrev pub marked_at : ChannelList → Steps → ℕ → List ℤ → Bool
marked_at l s m pyramid = run_marked (table (step_at s) m (step_count s - m)) (list_at l s m) pyramid

-- each of the first n steps fits the places that those before it leave
abbrev pub StepsFit : ℕ → Steps → List Place → Type 0
StepsFit n s ps = (m : ℕ) → m < n → step_fits (length (places_all (first_steps s m) ps)) (step_at s m) ≡ true

-- accepted steps on an accepted list, and a pyramid with its samples
pub record RunFits (l : ChannelList) (s : Steps) (pyramid : List ℤ) : Type 0 where
  pub accepted : Accepted (channels l)
  pub taken : judge_steps (steps s) (channels l) ≡ 0
  pub pyramid_long : length pyramid ≡ total (channels l)

-- with m steps left to take back, each channel of the list that they leave has its samples where it lies
pub record Back (l : ChannelList) (s : Steps) (m : ℕ) (sources : Sources) (pyramid picture work : List ℤ) : Type 0 where
  pub inside : m ≤ step_count s
  pub starts_in : (j : ℕ) → j < length (places_at l s m) → start_at sources j + area (place_of (places_at l s m) j) ≤ length pyramid
  pub at_home_lem : (j : ℕ) → j < length (places_at l s m) → made_at sources j ≡ true → start_at sources j ≡ (place_of (places_at l s m) j).home
  pub here : (j : ℕ) → j < length (places_at l s m)
      → lying_in (source_at sources j) (area (place_of (places_at l s m) j)) pyramid (slice_of (is_odd (place_of (places_at l s m) j).slot) picture work)
      ≡ get_or (parts (list_at l s m) (samples_at l s m pyramid)) j []
  pub samples_long : length (samples_at l s m pyramid) ≡ length pyramid
  pub picture_long : length picture ≡ length pyramid
  pub work_long : length work ≡ length pyramid

-- ---- the end: what no step has made goes to its home in the picture
-- where channel k of a list starts in its pyramid, and in the picture
abbrev pub place_in : List Channel → ℕ → ℕ
place_in cs k = sum (take k (map samples cs))

abbrev pub given_at : List Place → Sources → List ℤ → List ℤ → ℕ → List ℤ
given_at ps sources pyramid picture k = part (start_at sources k) (area (place_of ps k)) (cond (made_at sources k) picture pyramid)

pub record SettleFits (ps : List Place) (sources : Sources) (pyramid picture : List ℤ) : Type 0 where
  pub laid : Laid (length pyramid) ps
  pub starts_in : (k : ℕ) → k < length ps → start_at sources k + area (place_of ps k) ≤ length pyramid
  pub at_home_lem : (k : ℕ) → k < length ps → made_at sources k ≡ true → start_at sources k ≡ (place_of ps k).home
  pub picture_long : length picture ≡ length pyramid

-- the first n of them
abbrev pub Settled : ℕ → List Place → Sources → List ℤ → List ℤ → List ℤ → Type 0
Settled n ps sources pyramid picture picture' =
    (k : ℕ) → k < n → part (place_of ps k).home (area (place_of ps k)) picture' ≡ given_at ps sources pyramid picture k
