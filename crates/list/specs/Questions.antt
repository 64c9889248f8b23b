-- The questions that document 01 puts to a list (3 to 5) and to a step on it (7 to 11), in its order: the first "no" is the refusal, and 0 says
-- that there is none. Definitions only.
use Rattle.std.specs.Prelude.{Bool, true, cond, ◌&&◌, ◌||◌, not, List, [], ◌∷◌, ℕ, ◌+◌, ◌-◌, min, eqb, leb, ltb, length, get_or, Result, Ok, Err}
use Rattle.numbers.specs.declared.Refusal.{Refusal}
use Rattle.numbers.specs.Numbers.{number_of, max_samples, refused_count, refused_form, refused_samples, refused_range, refused_kinds, refused_place, refused_empty, refused_room}
use Rattle.channel.specs.declared.Channel.{Channel}
use Rattle.channel.specs.Channel.{max_shift, is_meta, is_allowed}
use Rattle.list.specs.declared.ChannelList.{ChannelList}
use Rattle.list.specs.declared.Step.{Step}
use Rattle.list.specs.Tables.{all}
use Rattle.list.specs.Lists.{max_channels, channels, range, raised, total, next_list}

-- a question: its answer, the refusal's number where it is "no", and what is asked next
abbrev pub ask : Bool → ℕ → ℕ → ℕ
ask answer number next = cond answer next number

-- ---- the list
-- 3. "Are there 1 to 256 channels"
unfoldable pub count_allowed : ℕ → Bool
count_allowed count = leb 1 count && leb count max_channels

-- a list without a meta channel
abbrev pub no_meta : List Channel → Bool
no_meta cs = all (λ c. not (is_meta c)) cs

-- 4. "meta channels first"
abbrev pub meta_first : List Channel → Bool
meta_first [] = true
meta_first (c ∷ cs) = cond (is_meta c) (meta_first cs) (no_meta cs)

-- 4. "Are shifts 0 to 30 or both 255, meta channels first", and no side above the limit (A.8)
unfoldable pub channels_allowed : List Channel → Bool
channels_allowed cs = all is_allowed cs && meta_first cs

-- 5. "Do all samples of the list .. number at most 16,777,216?"
unfoldable pub total_allowed : List Channel → Bool
total_allowed cs = leb (total cs) max_samples

-- the samples of a list, counted up to one past the limit
unfoldable pub counted_total : List Channel → ℕ
counted_total cs = min (total cs) (max_samples + 1)

unfoldable pub judge_list : ChannelList → ℕ
judge_list l =
    ask (count_allowed l.count) refused_count
    (ask (channels_allowed (channels l)) refused_form
    (ask (total_allowed (channels l)) refused_samples 0))

-- ---- a step
-- the channel at k; past the list a channel of zeros
abbrev pub no_channel : Channel
no_channel = record { width = 0; height = 0; hshift = 0; vshift = 0 }

abbrev pub channel_of : List Channel → ℕ → Channel
channel_of cs k = get_or cs k no_channel

-- 7. "Is the number at least 1 and first + number at most the channel count?"
unfoldable pub range_allowed : Step → List Channel → Bool
range_allowed s cs = leb 1 s.number && leb (s.begin + s.number) (length cs)

-- 8. "Are the first and last of the range both meta or both not?"
abbrev pub alike : Bool → Bool → Bool
alike first last = cond first last (not last)

unfoldable pub kinds_alike : Step → List Channel → Bool
kinds_alike s cs = alike (is_meta (channel_of cs s.begin)) (is_meta (channel_of cs (s.begin + s.number - 1)))

-- 9. "If meta, is the step in place?"
unfoldable pub place_allowed : Step → List Channel → Bool
place_allowed s cs = not (is_meta (channel_of cs s.begin)) || s.inplace

-- 10. "Has every channel of the range both sides above 0?"
unfoldable pub has_sides : Channel → Bool
has_sides c = ltb 0 c.width && ltb 0 c.height

-- 11. "Will there be at most 256 channels and no shift above 30?": a meta channel stays, and any other has both shifts at most 30 afterwards
unfoldable pub shifts_kept : Bool → Channel → Bool
shifts_kept horizontal c = is_meta c || (leb (raised horizontal c).hshift max_shift && leb (raised horizontal c).vshift max_shift)

unfoldable pub room_left : Step → List Channel → Bool
room_left s cs = leb (length cs + s.number) max_channels && all (shifts_kept s.horizontal) (range s cs)

unfoldable pub judge_step : Step → List Channel → ℕ
judge_step s cs =
    ask (range_allowed s cs) refused_range
    (ask (kinds_alike s cs) refused_kinds
    (ask (place_allowed s cs) refused_place
    (ask (all has_sides (range s cs)) refused_empty
    (ask (room_left s cs) refused_room 0))))

-- ---- "A step taken by a list gives the next list": questions 3 to 5 of the list, then 7 to 11; a refusal leaves the list as it came
unfoldable pub step_answer : Step → ChannelList → ℕ
step_answer s l = ask (eqb (judge_list l) 0) (judge_list l) (judge_step s (channels l))

-- the answer 0 with the next list, or a refusal's number with the list as it was
pub record Stepped : Type 0 where
  pub answer : ℕ
  pub list : ChannelList

-- the same of what a function gives that takes a step on the list l
abbrev pub stepped_of : ChannelList → Result ChannelList Refusal → Stepped
stepped_of l (Ok next) = record { answer = 0; list = next }
stepped_of l (Err refusal) = record { answer = number_of refusal; list = l }

unfoldable pub taken : Step → ChannelList → Stepped
taken s l =
    cond (eqb (step_answer s l) 0)
    (record { answer = 0; list = next_list s l })
    (record { answer = step_answer s l; list = l })

-- questions 7 to 11 alone
unfoldable pub taken_on : Step → ChannelList → Stepped
taken_on s l =
    cond (eqb (judge_step s (channels l)) 0)
    (record { answer = 0; list = next_list s l })
    (record { answer = judge_step s (channels l); list = l })
