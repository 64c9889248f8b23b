-- Questions 7 to 11 of a step on a list, from what the code finds in the list's arrays. Assumes nothing.
use mathlib.Core.Path.{◌≡◌, sym, ap, ◌∙◌}
use mathlib.Core.Bool.{Bool, true, false, ◌&&◌, ◌||◌, not}
use Prim.Native.Nat.{ℕ, ◌+◌, ◌-◌, ◌<◌, ◌≤◌, min}
use native.Mathlib.Omega.{arith}
use borrow.Author.Tests.{le-leb, lt-leb}
use lib.Dec.{leb}
use lib.ListN.{length}
use Rattle.channel.specs.declared.Channel.{Channel}
use Rattle.channel.specs.Channel.{is_meta}
use Rattle.list.specs.declared.ChannelList.{ChannelList}
use Rattle.list.specs.declared.Step.{Step}
use Rattle.list.specs.Tables.{table, all}
use Rattle.list.specs.Lists.{max_channels, channel_at, channels, range}
use Rattle.list.specs.Questions.{range_allowed, alike, kinds_alike, place_allowed, shifts_kept, room_left}
use Rattle.list.proofs.Channels.{range_inside, channels_length, channels_at, channels_range}

module _ (s : Step) (l : ChannelList) where
  pub range_found : (r : Bool) → r ≡ (leb 1 s.number && leb (s.begin + s.number) (min l.count max_channels)) → r ≡ range_allowed s (channels l)
  unfolding range_allowed
  range_found r e = e ∙ ap (λ (n : ℕ). leb 1 s.number && leb (s.begin + s.number) n) (sym (channels_length l))

  -- a range inside the list
  module _ (yes : range_allowed s (channels l) ≡ true) where
    inside : (1 ≤ s.number) × (s.begin + s.number ≤ length (channels l))
    inside = range_inside s (channels l) yes

    pub some : 1 ≤ s.number
    some = inside.0

    pub kinds_found : (r : Bool) → r ≡ alike (is_meta (channel_at l s.begin)) (is_meta (channel_at l (s.begin + s.number - 1))) → r ≡ kinds_alike s (channels l)
    unfolding kinds_alike
    kinds_found r e =
        let i = inside in
        e ∙ rw (← (channels_at l s.begin (omega arith)), ← (channels_at l (s.begin + s.number - 1) (omega arith)))

    pub place_found : (r : Bool) → r ≡ (not (is_meta (channel_at l s.begin)) || s.inplace) → r ≡ place_allowed s (channels l)
    unfolding place_allowed
    place_found r e = let i = inside in e ∙ rw (← (channels_at l s.begin (omega arith)))

    range_is : range s (channels l) ≡ table (channel_at l) s.begin s.number
    range_is =
        let z : s.begin + s.number - s.begin ≡ s.number = omega arith in
        channels_range l s inside.1 ∙ ap (table (channel_at l) s.begin) z

    pub all_found : (p : Channel → Bool) (r : Bool) → r ≡ all p (table (channel_at l) s.begin s.number) → r ≡ all p (range s (channels l))
    all_found p r e = e ∙ sym (ap (all p) range_is)

    -- question 11, from how many channels there will be and whether the shifts are kept
    module _ (n : ℕ) (en : n ≡ min l.count max_channels) where
      pub room_none : max_channels < n + s.number → room_left s (channels l) ≡ false
      unfolding room_left
      room_none h = rw (lt-leb (length (channels l) + s.number) max_channels (omega (arith, channels_length l)))

      pub room_found : n + s.number ≤ max_channels → (r : Bool) → r ≡ all (shifts_kept s.horizontal) (range s (channels l)) → r ≡ room_left s (channels l)
      unfolding room_left
      room_found h r e = e ∙ sym (rw (le-leb (length (channels l) + s.number) max_channels (omega (arith, channels_length l))))

-- what answers the questions of a step
pub ruleset questions = (range_found, some, kinds_found, place_found, all_found, room_none, room_found)
