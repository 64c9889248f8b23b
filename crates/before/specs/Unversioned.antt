-- Records before versions (document 02, A.11): the default plan, questions 3 to 11, the record's reader, its bytes and its listing word for word as they
-- stood when no plan had a version. What did not change is taken from crates list, plan, record and listing. Definitions only.
use Rattle.std.specs.Prelude.{Bool, cond, true, false, ◌&&◌, List, [], ◌∷◌, ◌++◌, ℕ, zero, suc, ◌+◌, eqb, leb, ltb, length, drop}
use Rattle.numbers.specs.Numbers.{refused_count, refused_form, refused_samples, refused_default}
use Rattle.channel.specs.declared.Channel.{Channel}
use Rattle.list.specs.declared.ChannelList.{ChannelList}
use Rattle.list.specs.declared.Step.{Step}
use Rattle.list.specs.Tables.{all}
use Rattle.list.specs.Lists as Lists
use Rattle.list.specs.Lists.{max_steps, channels}
use Rattle.list.specs.Questions.{ask, count_allowed, channels_allowed, total_allowed}
use Rattle.plan.specs.declared.Steps.{Steps}
use Rattle.plan.specs.Steps as S
use Rattle.plan.specs.Steps.{steps, all_flags, flags_allowed}
use Rattle.plan.specs.Default.{meta_count, other_count, first_other, second_other, when, step, all_channels}
use Rattle.plan.specs.Coarse.{coarse_count}
use Rattle.plan.specs.Plans.{judge_steps, stepped_all, meant_allowed}
use Rattle.record.specs.Bytes.{channel_fields, step_fields}
use Rattle.record.specs.Reading.{field_size, field_channel, field_step, is_step, answer_of}
use Rattle.listing.specs.Text.{steps_word, channels_word, coarse_word, refused_word, numbered, step_lines, channel_lines}

-- ---- the default plan
abbrev pub stopping_side : ℕ
stopping_side = 8

unfoldable pub chroma : ℕ → ℕ → ℕ → ℕ → Channel → List Step
chroma m n w h second =
    cond (ltb 2 n && (eqb second.width w && eqb second.height h))
    (when (ltb 1 w) (step true false (m + 1) 2) ++ when (ltb 1 h) (step false false (m + 1) 2))
    []

unfoldable pub default_steps : List Channel → List Step
default_steps cs =
    chroma (meta_count cs) (other_count cs) (first_other cs).width (first_other cs).height (second_other cs)
    ++ all_channels stopping_side (meta_count cs) (other_count cs) (first_other cs).width (first_other cs).height

-- ---- the questions
unfoldable pub meant : List Step → List Channel → List Step
meant [] cs = default_steps cs
meant (s ∷ ss) cs = s ∷ ss

unfoldable pub judge_form : ChannelList → Steps → ℕ
judge_form l s =
    ask (count_allowed l.count && leb s.count max_steps) refused_count
    (ask (channels_allowed (channels l) && all flags_allowed (all_flags s)) refused_form
    (ask (total_allowed (channels l)) refused_samples 0))

unfoldable pub judge_meant : List Step → List Channel → ℕ
judge_meant ss cs = ask (meant_allowed ss cs) refused_default (judge_steps (meant ss cs) cs)

unfoldable pub judge_plan : ChannelList → Steps → ℕ
judge_plan l s = ask (eqb (judge_form l s) 0) (judge_form l s) (judge_meant (steps s) (channels l))

-- ---- the reader
pub record Form : Type 0 where
  pub answer : ℕ
  pub channels : List Channel
  pub steps : List Step

abbrev pub refused : ℕ → Form
refused number = record { answer = number; channels = []; steps = [] }

abbrev pub asked : Bool → ℕ → Form → Form
asked answer number next = cond answer next (refused number)

abbrev pub finished : List Channel → List Step → Form
finished cs ss = asked (leb 1 (length cs)) refused_count (record { answer = 0; channels = cs; steps = ss })

abbrev pub read_fields : ℕ → List ℕ → List Channel → List Step → Form
read_fields zero bytes cs ss = finished cs ss
read_fields (suc turns) bytes cs ss =
    cond (eqb (length bytes) 0) (finished cs ss)
    (asked (eqb (answer_of bytes cs ss) 0) (answer_of bytes cs ss)
    (cond (is_step bytes)
    (read_fields turns (drop (field_size bytes) bytes) cs (ss ++ (field_step bytes ∷ [])))
    (read_fields turns (drop (field_size bytes) bytes) (cs ++ (field_channel bytes ∷ [])) ss)))

unfoldable pub form_of : List ℕ → Form
form_of bytes = read_fields (length bytes) bytes [] []

unfoldable pub read_answer : List ℕ → ℕ
read_answer bytes =
    ask (eqb (form_of bytes).answer 0) (form_of bytes).answer
    (judge_plan (Lists.packed (form_of bytes).channels) (S.packed (form_of bytes).steps))

pub record Read : Type 0 where
  pub answer : ℕ
  pub list : ChannelList
  pub steps : Steps

unfoldable pub read_of : List ℕ → Read
read_of bytes =
    cond (eqb (read_answer bytes) 0)
    (record { answer = 0; list = Lists.packed (form_of bytes).channels; steps = S.packed (form_of bytes).steps })
    (record { answer = read_answer bytes; list = Lists.packed []; steps = S.packed [] })

-- ---- the bytes of a list and its steps
unfoldable pub record_of : List Channel → List Step → List ℕ
record_of cs ss = channel_fields cs ++ step_fields ss

-- ---- the listing
unfoldable pub plan_text : List Step → List Channel → List ℕ
plan_text ss cs =
    numbered steps_word (length ss)
    ++ (step_lines ss
    ++ (numbered channels_word (length cs)
    ++ (channel_lines cs ++ numbered coarse_word (coarse_count stopping_side cs))))

abbrev pub record_text : List Step → List Channel → List ℕ
record_text ss cs = plan_text (meant ss cs) (stepped_all (meant ss cs) cs)

unfoldable pub listing : List ℕ → List ℕ
listing bytes =
    cond (eqb (read_answer bytes) 0)
    (record_text (form_of bytes).steps (form_of bytes).channels)
    (numbered refused_word (read_answer bytes))
