-- A record's answer is one of the refusals' numbers, none of which is above question 14's. Assumes nothing.
use mathlib.Core.Path.{◌≡◌, refl}
use mathlib.Core.Bool.{Bool, true, ◌&&◌, ◌||◌}
use mathlib.Core.List.{List, [], ◌∷◌}
use Prim.Native.Nat.{ℕ, ◌≤◌}
use native.Mathlib.Omega.{arith}
use lib.Dec.{eqb, leb, ltb}
use lib.ListN.{length}
use borrow.Author.Tests.{leb-true}
use Rattle.numbers.specs.Numbers.{refused_outside, refused_field, refused_count, refused_form, refused_samples, refused_range, refused_kinds, refused_place, refused_empty, refused_room, refused_default, refused_length}
use Rattle.channel.specs.declared.Channel.{Channel}
use Rattle.channel.specs.Channel.{is_meta}
use Rattle.list.specs.declared.ChannelList.{ChannelList}
use Rattle.list.specs.declared.Step.{Step}
use Rattle.list.specs.Tables.{all}
use Rattle.list.specs.Lists as Lists
use Rattle.list.specs.Lists.{max_channels, max_steps, channels, range, stepped}
use Rattle.list.specs.Questions as Questions
use Rattle.list.specs.Questions.{ask, count_allowed, channels_allowed, total_allowed, range_allowed, kinds_alike, place_allowed, has_sides, room_left, judge_step}
use Rattle.list.proofs.Asking.{cond_has}
use Rattle.plan.specs.declared.Steps.{Steps}
use Rattle.plan.specs.Version.{house_version, is_version}
use Rattle.plan.specs.Steps as S
use Rattle.plan.specs.Steps.{steps, all_flags, flags_allowed}
use Rattle.plan.specs.Plans as Plans
use Rattle.plan.specs.Plans.{meant, meant_allowed, judge_form, judge_steps, judge_plan}
use Rattle.record.specs.Bytes.{version_tag, version_length, head_length}
use Rattle.record.specs.Reading as Reading
use Rattle.record.specs.Reading.{Form, byte_at, has_head, judge_version_field, flags_at, field_channel, field_inside, is_channel, is_step, channel_allowed, tag_allowed, judge_channel_field, judge_step_field, judge_field, form_of}
use Rattle.record.specs.Records as Records
use Rattle.record.proofs.Forms.{form_has}
use Rattle.record.specs.Records.{read_answer}

abbrev Few : ℕ → Type 0
Few answer = answer ≤ refused_length

none_few : Few 0
none_few = omega arith

-- a question whose refusal is one of the numbers
few_number : (t : Bool) (number next : ℕ) → leb number refused_length ≡ true → Few next → Few (ask t number next)
few_number t number next a b = cond_has Few t next number b (leb-true number refused_length a)

-- ---- the plan
step_few : (s : Step) (cs : List Channel) → Few (judge_step s cs)
unfolding Questions.judge_step
step_few s cs =
    few_number (range_allowed s cs) refused_range _ refl
    (few_number (kinds_alike s cs) refused_kinds _ refl
    (few_number (place_allowed s cs) refused_place _ refl
    (few_number (all has_sides (range s cs)) refused_empty _ refl (few_number (room_left s cs) refused_room _ refl none_few))))

steps_few : (ss : List Step) (cs : List Channel) → Few (judge_steps ss cs)
steps_few [] cs = none_few
steps_few (s ∷ ss) cs = cond_has Few (eqb (judge_step s cs) 0) _ (judge_step s cs) (steps_few ss (stepped s cs)) (step_few s cs)

form_few : (version : ℕ) (l : ChannelList) (s : Steps) → Few (judge_form version l s)
unfolding Plans.judge_form
form_few version l s =
    few_number (count_allowed l.count && leb s.count max_steps) refused_count _ refl
    (few_number (channels_allowed (channels l) && (all flags_allowed (all_flags s) && is_version version)) refused_form _ refl
    (few_number (total_allowed (channels l)) refused_samples _ refl none_few))

plan_few : (version : ℕ) (l : ChannelList) (s : Steps) → Few (judge_plan version l s)
unfolding Plans.judge_plan Plans.judge_meant
plan_few version l s =
    cond_has Few (eqb (judge_form version l s) 0) _ (judge_form version l s)
    (few_number (meant_allowed (steps s) (channels l)) refused_default _ refl (steps_few (meant version (steps s) (channels l)) (channels l)))
    (form_few version l s)

-- ---- the form
step_field_few : (bytes : List ℕ) (steps : ℕ) → Few (judge_step_field bytes steps)
unfolding Reading.judge_step_field
step_field_few bytes steps =
    few_number (ltb steps max_steps) refused_count _ refl (few_number (flags_allowed (flags_at bytes)) refused_form _ refl none_few)

channel_field_few : (bytes : List ℕ) (count : ℕ) (metas : Bool) → Few (judge_channel_field bytes count metas)
unfolding Reading.judge_channel_field
channel_field_few bytes count metas =
    few_number (ltb count max_channels) refused_count _ refl
    (few_number (channel_allowed (field_channel bytes) metas && tag_allowed bytes) refused_form _ refl none_few)

field_few : (bytes : List ℕ) (count : ℕ) (metas : Bool) (steps : ℕ) → Few (judge_field bytes count metas steps)
unfolding Reading.judge_field
field_few bytes count metas steps =
    few_number (field_inside bytes) refused_outside _ refl
    (few_number (is_channel bytes steps || is_step bytes) refused_field _ refl
    (cond_has Few (is_step bytes) (judge_step_field bytes steps) (judge_channel_field bytes count metas) (step_field_few bytes steps) (channel_field_few bytes count metas)))

abbrev FewForm : Form → Type 0
FewForm form = Few form.answer

version_few : (bytes : List ℕ) → Few (judge_version_field bytes)
unfolding Reading.judge_version_field
version_few bytes =
    few_number (field_inside bytes) refused_outside _ refl
    (few_number (has_head version_tag version_length bytes) refused_field _ refl
    (few_number (eqb (byte_at bytes head_length) house_version) refused_form _ refl none_few))

form_answer_few : (bytes : List ℕ) → FewForm (form_of bytes)
form_answer_few =
    form_has FewForm (λ version cs ss. none_few) (leb-true refused_count refused_length refl)
    (λ bytes cs ss n. field_few bytes (length cs) (all is_meta cs) (length ss)) (λ bytes n. version_few bytes)

pub answer_few : (bytes : List ℕ) → read_answer bytes ≤ refused_length
unfolding Records.read_answer
answer_few bytes =
    cond_has Few (eqb (form_of bytes).answer 0) _ (form_of bytes).answer
    (plan_few (form_of bytes).version (Lists.packed (form_of bytes).channels) (S.packed (form_of bytes).steps)) (form_answer_few bytes)
