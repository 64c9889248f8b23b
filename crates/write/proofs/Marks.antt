-- The marks of a channel, of a step and of the steps (`place_marked` and `places_marked` of specs/Standing.antt): what is told of the places is what is
-- told of the channels that they hold (specs/Marks.antt of crate runs). Assumes nothing.
use mathlib.Core.Path.{◌≡◌, sym, ◌∙◌}
use mathlib.Core.Bool.{Bool, true, false, ◌||◌, ◌&&◌}
use mathlib.Core.List.{List, []}
use Prim.Native.Nat.{ℕ, ◌+◌, ◌<◌, ◌≤◌}
use native.Mathlib.Omega.{arith}
use lib.IntN.{ℤ}
use lib.ListN.{length, get_or, take, drop}
use Rattle.std.proofs.Math.Bool.{and-false, or-false, and-or_distrib_left}
use Rattle.channel.specs.declared.Channel.{Channel}
use Rattle.range.proofs.Some.{some_cong}
use Rattle.list.specs.declared.Step.{Step}
use Rattle.list.specs.Lists.{range}
use Rattle.list.specs.Questions.{channel_of}
use Rattle.list.proofs.Maps.{map_length, map_at}
use Rattle.list.proofs.Entries.{length_range}
use Rattle.places.specs.declared.Slot.{Slot}
use Rattle.places.specs.declared.Place.{Place}
use Rattle.places.specs.Places.{area, bare, none, place_of}
use Rattle.places.specs.Laid.{Sided, part}
use Rattle.runs.specs.Marks.{channel_written_marked, step_written_marked}
use Rattle.runs.proofs.Each.{each_some}
use Rattle.write.specs.Standing.{slice_of, lying, held, place_marked, places_marked}
use Rattle.write.proofs.Stepping.{part_at}

-- ---- a channel, in the slice that its slot tells
pub place_told : (marks told h : Bool) (p : Place) (picture odds evens : List ℤ) (s : Slot) → p.slot ≡ s
    → told ≡ (marks && channel_written_marked h (bare p) (part p.home (area p) (slice_of picture odds evens s))) → told ≡ (marks && place_marked h p picture odds evens)
unfolding place_marked lying
place_told marks told h p picture odds evens s e t = rw e t

-- it goes by the sides alone
marked_sides : (h : Bool) (c d : Channel) (xs : List ℤ) → c.width ≡ d.width → c.height ≡ d.height → channel_written_marked h c xs ≡ channel_written_marked h d xs
unfolding channel_written_marked
marked_sides h c d xs a b = rw (a, b)

-- ---- a step
module _ (s : Step) (cs : List Channel) (ps : List Place) (inside : s.begin + s.number ≤ length ps) (sided : Sided cs ps) (picture odds evens : List ℤ) where
  abbrev qs : List (List ℤ)
  qs = held picture odds evens ps

  -- channel i of the range
  one : (i : ℕ) → i < s.number
      → channel_written_marked s.horizontal (channel_of (range s cs) i) (get_or (take s.number (drop s.begin qs)) i [])
      ≡ place_marked s.horizontal (place_of ps (s.begin + i)) picture odds evens
  unfolding place_marked
  one i h =
      let k = s.begin + i in
      let p = place_of ps k in
      let c = channel_of cs k in
      rw (part_at s.begin s.number i cs _ h, part_at s.begin s.number i qs [] h, map_at (lying picture odds evens) ps k none [] (omega arith))
      (marked_sides s.horizontal c (bare p) (lying picture odds evens p) (sym (sided.wide k (omega arith))) (sym (sided.high k (omega arith))))

  pub step_told : places_marked s.horizontal (place_of ps) s.begin s.number picture odds evens ≡ step_written_marked s cs qs
  unfolding step_written_marked
  step_told =
      let l = sided.long in
      let m = map_length (lying picture odds evens) ps in
      let a : length (range s cs) ≡ s.number = length_range s cs (omega arith) in
      let b : length (take s.number (drop s.begin qs)) ≡ s.number = length_range s qs (omega arith) in
      let e = each_some (channel_written_marked s.horizontal) (range s cs) (take s.number (drop s.begin qs)) (b ∙ sym a) in
      sym (rw a at e ∙ some_cong _ (λ i. place_marked s.horizontal (place_of ps (s.begin + i)) picture odds evens) s.number one)

-- ---- the steps: what is told so far or is left to tell
-- a step more, which tells a
pub steps_more : (marks told turn a b whole : Bool) → turn ≡ (marks && a) → (told || (marks && (a || b))) ≡ whole → ((told || turn) || (marks && b)) ≡ whole
steps_more marks true turn a b whole t e = e
steps_more marks false turn a b whole t e = rw (t, ← and-or_distrib_left marks a b) e

-- nothing is left
pub steps_all : (marks told whole : Bool) → (told || (marks && false)) ≡ whole → told ≡ whole
steps_all marks told whole e = rw (and-false marks, or-false told) at e
