-- Where the samples of a list's channels lie while the steps of a plan are taken: a channel has its home, a part of a slice as long as the picture,
-- and a step divides the home between average and residual. The places are kept in an array, filled up to a count. Definitions only.
use Rattle.std.specs.Prelude.{Bool, true, false, cond, ◌&&◌, List, [], ◌∷◌, ℕ, ◌+◌, ◌-◌, ◌*◌, min, eqb, leb, ltb, get_or}
use Rattle.numbers.specs.Numbers.{max_samples}
use Rattle.channel.specs.declared.Channel.{Channel}
use Rattle.channel.specs.Channel.{samples}
use Rattle.list.specs.declared.Step.{Step}
use Rattle.list.specs.Tables.{table}
use Rattle.list.specs.Lists.{max_channels, halved, rest, moved}
use Rattle.places.specs.declared.Slot.{Slot}
use Rattle.places.specs.declared.Slot.TheVariants.{Unmade, Odd, Even}
use Rattle.places.specs.declared.Place.{Place}
use Rattle.places.specs.declared.Places.{Places}

-- its sides as a channel, which are all that a squeeze knows of one
abbrev pub bare : Place → Channel
bare p = record { width = p.width; height = p.height; hshift = 0; vshift = 0 }

abbrev pub area : Place → ℕ
area p = p.width * p.height

-- ---- slots: what no step has made, what an odd number of steps have, what an even number have
abbrev pub unmade : Slot
unmade = Unmade

abbrev pub odd : Slot
odd = Odd

abbrev pub even : Slot
even = Even

abbrev pub is_unmade : Slot → Bool
is_unmade Unmade = true
is_unmade Odd = false
is_unmade Even = false

abbrev pub is_odd : Slot → Bool
is_odd Unmade = false
is_odd Odd = true
is_odd Even = false

-- the slot of what a step makes of a channel
unfoldable pub turned : Slot → Slot
turned slot = cond (is_odd slot) even odd

-- slots by their numbers, as any array may hold them: what is neither 0 nor 1 is turned as 2 is
abbrev pub slot_of : ℕ → Slot
slot_of n = cond (eqb n 0) unmade (cond (eqb n 1) odd even)

abbrev pub turned_number : ℕ → ℕ
turned_number n = cond (eqb n 1) 2 1

-- ---- homes
-- n behind a home, inside the longest slice
unfoldable pub behind : ℕ → ℕ → ℕ
behind home n = min max_samples (home + n)

-- parts of so many samples one after the other
abbrev pub starts_from : ℕ → List ℕ → List ℕ
starts_from at [] = []
starts_from at (n ∷ ns) = at ∷ starts_from (behind at n) ns

-- how many samples they have together
abbrev pub sum : List ℕ → ℕ
sum [] = 0
sum (n ∷ ns) = n + sum ns

-- ---- a step: the average keeps the start of its channel's home, the residual has the rest of it
abbrev pub average_place : Bool → Place → Place
average_place horizontal p =
    record {
      width = cond horizontal (halved p.width) p.width;
      height = cond horizontal p.height (halved p.height);
      home = p.home;
      slot = turned p.slot;
    }

abbrev pub residual_place : Bool → Place → Place
residual_place horizontal p =
    record {
      width = cond horizontal (rest p.width) p.width;
      height = cond horizontal p.height (rest p.height);
      home = behind p.home (area (average_place horizontal p));
      slot = turned p.slot;
    }

-- the order of the list that a step leaves (`stepped` of crate list)
unfoldable pub step_places : Step → List Place → List Place
step_places s ps = moved (average_place s.horizontal) (residual_place s.horizontal) s ps

-- where the residuals start, and the channel that entry k of the list after the step comes from
abbrev pub residuals_at : ℕ → Step → ℕ
residuals_at count s = cond s.inplace (s.begin + s.number) count

unfoldable pub root : ℕ → Step → ℕ → ℕ
root count s k =
    cond (ltb k (residuals_at count s)) k
    (cond (ltb k (residuals_at count s + s.number)) (s.begin + (k - residuals_at count s)) (k - s.number))

-- ---- the array
-- no channel's place
abbrev pub none : Place
none = record { width = 0; height = 0; home = 0; slot = unmade }

-- the entry k of a list of places; past it none
abbrev pub place_of : List Place → ℕ → Place
place_of ps k = get_or ps k none

abbrev pub place_at : Places → ℕ → Place
place_at p k = place_of p.places k

unfoldable pub places_in : Places → List Place
places_in p = table (place_at p) 0 p.count

unfoldable pub areas_in : Places → List ℕ
areas_in p = table (λ k. area (place_at p k)) 0 (min p.count max_channels)

-- the places of channels one after the other, before any step
abbrev pub places_from : ℕ → List Channel → List Place
places_from at [] = []
places_from at (c ∷ cs) = record { width = c.width; height = c.height; home = at; slot = unmade } ∷ places_from (behind at (samples c)) cs

-- a step fits where its range lies inside and there is room for its residuals; else nothing changes
unfoldable pub step_fits : ℕ → Step → Bool
step_fits count s = leb (s.begin + s.number) count && leb (count + s.number) max_channels

unfoldable pub count_after : ℕ → Step → ℕ
count_after count s = cond (step_fits count s) (count + s.number) count

unfoldable pub places_after : Step → Places → List Place
places_after s p = cond (step_fits p.count s) (step_places s (places_in p)) (places_in p)
