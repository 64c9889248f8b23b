-- Records before strips: document 01's "Record" and questions 1 to 4, word for word as they stood, with sides of two bytes, tags 1 and 2 alone, and a
-- question 4 that asks no side. What did not change is taken from crates record, list and plan, and what strips did not change from
-- specs/Unversioned.antt. Definitions only.
use Rattle.std.specs.Prelude.{Bool, cond, ◌&&◌, ◌||◌, not, List, [], ◌∷◌, ◌++◌, ℕ, zero, suc, ◌+◌, eqb, leb, ltb, length, drop}
use Rattle.numbers.specs.Numbers.{refused_outside, refused_field, refused_count, refused_form, refused_samples}
use Rattle.channel.specs.declared.Channel.{Channel}
use Rattle.channel.specs.Channel.{is_meta, shifts_allowed}
use Rattle.list.specs.declared.ChannelList.{ChannelList}
use Rattle.list.specs.declared.Step.{Step}
use Rattle.list.specs.Tables.{all}
use Rattle.list.specs.Lists as Lists
use Rattle.list.specs.Lists.{max_channels, max_steps, channels}
use Rattle.list.specs.Questions.{ask, count_allowed, meta_first, total_allowed}
use Rattle.plan.specs.declared.Steps.{Steps}
use Rattle.plan.specs.Steps as S
use Rattle.plan.specs.Steps.{steps, all_flags, flags_allowed}
use Rattle.record.specs.Bytes.{channel_tag, channel_length, channel_size, step_tag, step_length, step_size, head_length, joined, short_field, step_fields}
use Rattle.record.specs.Reading.{tag_of, length_of, short_channel, field_step, judge_step_field}
use Rattle.before.specs.Unversioned.{Form, Read, asked, finished, judge_meant}

-- ---- one field
unfoldable pub field_inside : List ℕ → Bool
field_inside bytes = leb head_length (length bytes) && leb (head_length + length_of bytes) (length bytes)

unfoldable pub is_channel : List ℕ → ℕ → Bool
is_channel bytes steps = eqb (tag_of bytes) channel_tag && (eqb (length_of bytes) channel_length && eqb steps 0)

unfoldable pub is_step : List ℕ → Bool
is_step bytes = eqb (tag_of bytes) step_tag && eqb (length_of bytes) step_length

unfoldable pub channel_allowed : Channel → Bool → Bool
channel_allowed c metas = shifts_allowed c && (not (is_meta c) || metas)

unfoldable pub judge_channel_field : List ℕ → ℕ → Bool → ℕ
judge_channel_field bytes channels metas =
    ask (ltb channels max_channels) refused_count
    (ask (channel_allowed (short_channel bytes) metas) refused_form 0)

unfoldable pub judge_field : List ℕ → ℕ → Bool → ℕ → ℕ
judge_field bytes channels metas steps =
    ask (field_inside bytes) refused_outside
    (ask (is_channel bytes steps || is_step bytes) refused_field
    (cond (is_step bytes) (judge_step_field bytes steps) (judge_channel_field bytes channels metas)))

-- ---- the fields
abbrev pub answer_of : List ℕ → List Channel → List Step → ℕ
answer_of bytes cs ss = judge_field bytes (length cs) (all is_meta cs) (length ss)

abbrev pub read_fields : ℕ → List ℕ → List Channel → List Step → Form
read_fields zero bytes cs ss = finished cs ss
read_fields (suc turns) bytes cs ss =
    cond (eqb (length bytes) 0) (finished cs ss)
    (asked (eqb (answer_of bytes cs ss) 0) (answer_of bytes cs ss)
    (cond (is_step bytes)
    (read_fields turns (drop step_size bytes) cs (ss ++ (field_step bytes ∷ [])))
    (read_fields turns (drop channel_size bytes) (cs ++ (short_channel bytes ∷ [])) ss)))

unfoldable pub form_of : List ℕ → Form
form_of bytes = read_fields (length bytes) bytes [] []

-- ---- the list and the plan: question 4 asks shifts and "meta channels first"
unfoldable pub channels_allowed : List Channel → Bool
channels_allowed cs = all shifts_allowed cs && meta_first cs

unfoldable pub judge_form : ChannelList → Steps → ℕ
judge_form l s =
    ask (count_allowed l.count && leb s.count max_steps) refused_count
    (ask (channels_allowed (channels l) && all flags_allowed (all_flags s)) refused_form
    (ask (total_allowed (channels l)) refused_samples 0))

unfoldable pub judge_plan : ChannelList → Steps → ℕ
judge_plan l s = ask (eqb (judge_form l s) 0) (judge_form l s) (judge_meant (steps s) (channels l))

-- ---- the reader
unfoldable pub read_answer : List ℕ → ℕ
read_answer bytes =
    ask (eqb (form_of bytes).answer 0) (form_of bytes).answer
    (judge_plan (Lists.packed (form_of bytes).channels) (S.packed (form_of bytes).steps))

unfoldable pub read_of : List ℕ → Read
read_of bytes =
    cond (eqb (read_answer bytes) 0)
    (record { answer = 0; list = Lists.packed (form_of bytes).channels; steps = S.packed (form_of bytes).steps })
    (record { answer = read_answer bytes; list = Lists.packed []; steps = S.packed [] })

-- ---- the bytes of a list and its steps
unfoldable pub record_of : List Channel → List Step → List ℕ
record_of cs ss = joined short_field cs ++ step_fields ss
