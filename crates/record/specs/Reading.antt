-- Reading a record's form (document 01, "The questions" 1 to 4; document 02, A.8 and A.11): "In a record, questions 1 to 4 are put field by field", each in its order; "a
-- field too many is met at that field, a missing channel at the end". Definitions only.
use Rattle.std.specs.Prelude.{Bool, cond, ◌&&◌, ◌||◌, not, List, [], ◌∷◌, ◌++◌, ℕ, zero, suc, ◌+◌, ◌/◌, ◌%◌, eqb, leb, ltb, length, get_or, drop}
use Rattle.numbers.specs.Numbers.{refused_outside, refused_field, refused_count, refused_form}
use Rattle.channel.specs.declared.Channel.{Channel}
use Rattle.channel.specs.Channel.{is_meta, is_allowed}
use Rattle.list.specs.declared.Step.{Step}
use Rattle.list.specs.Tables.{all}
use Rattle.list.specs.Lists.{max_channels, max_steps}
use Rattle.list.specs.Questions.{ask}
use Rattle.plan.specs.Version.{standard_version, house_version}
use Rattle.plan.specs.Steps.{flags_allowed}
use Rattle.record.specs.Bytes.{channel_tag, channel_length, strip_tag, strip_length, step_tag, step_length, version_tag, version_length, version_size, head_length, word, long, is_strip}

-- what reading the form comes to: 0 with the version, the channels and the steps, or a refusal's number
pub record Form : Type 0 where
  pub answer : ℕ
  pub version : ℕ
  pub channels : List Channel
  pub steps : List Step

abbrev pub refused : ℕ → Form
refused number = record { answer = number; version = 0; channels = []; steps = [] }

-- a question of a form: the refusal's number where the answer is "no"
abbrev pub asked : Bool → ℕ → Form → Form
asked answer number next = cond answer next (refused number)

abbrev pub byte_at : List ℕ → ℕ → ℕ
byte_at bytes k = get_or bytes k 0

-- a field's tag and stated length, and its body's bytes
abbrev pub tag_of : List ℕ → ℕ
tag_of bytes = byte_at bytes 0

abbrev pub length_of : List ℕ → ℕ
length_of bytes = word (byte_at bytes 1) (byte_at bytes 2)

-- head and body
abbrev pub field_size : List ℕ → ℕ
field_size bytes = head_length + length_of bytes

abbrev pub short_channel : List ℕ → Channel
short_channel bytes =
    record {
      width = word (byte_at bytes 3) (byte_at bytes 4);
      height = word (byte_at bytes 5) (byte_at bytes 6);
      hshift = byte_at bytes 7;
      vshift = byte_at bytes 8;
    }

abbrev pub strip_channel : List ℕ → Channel
strip_channel bytes =
    record {
      width = long (byte_at bytes 3) (byte_at bytes 4) (byte_at bytes 5) (byte_at bytes 6);
      height = long (byte_at bytes 7) (byte_at bytes 8) (byte_at bytes 9) (byte_at bytes 10);
      hshift = byte_at bytes 11;
      vshift = byte_at bytes 12;
    }

abbrev pub has_strip_tag : List ℕ → Bool
has_strip_tag bytes = eqb (tag_of bytes) strip_tag

unfoldable pub field_channel : List ℕ → Channel
field_channel bytes = cond (has_strip_tag bytes) (strip_channel bytes) (short_channel bytes)

abbrev pub flags_at : List ℕ → ℕ
flags_at bytes = byte_at bytes 3

abbrev pub field_step : List ℕ → Step
field_step bytes =
    record {
      horizontal = eqb (flags_at bytes % 2) 1;
      inplace = eqb (flags_at bytes / 2 % 2) 1;
      begin = word (byte_at bytes 4) (byte_at bytes 5);
      number = word (byte_at bytes 6) (byte_at bytes 7);
    }

-- ---- the questions of a field that stands after `channels` channels, all of them meta or not, and `steps` steps
-- 1. "Does the field's three-byte head, and its stated length, lie inside the bytes?"
unfoldable pub field_inside : List ℕ → Bool
field_inside bytes = leb head_length (length bytes) && leb (field_size bytes) (length bytes)

-- 2. "Is the tag known, the length its own, and no channel after a step?"
-- A.8: "tag 3 otherwise stands wherever tag 1 may"
unfoldable pub has_head : ℕ → ℕ → List ℕ → Bool
has_head tag size bytes = eqb (tag_of bytes) tag && eqb (length_of bytes) size

unfoldable pub is_channel : List ℕ → ℕ → Bool
is_channel bytes steps = (has_head channel_tag channel_length bytes || has_head strip_tag strip_length bytes) && eqb steps 0

unfoldable pub is_step : List ℕ → Bool
is_step bytes = has_head step_tag step_length bytes

-- 4. a channel's shifts and sides, "meta channels first"
unfoldable pub channel_allowed : Channel → Bool → Bool
channel_allowed c metas = is_allowed c && (not (is_meta c) || metas)

-- A.8: "tag 3 for" a channel that fits tag 1 "is refused with 4"
unfoldable pub tag_allowed : List ℕ → Bool
tag_allowed bytes = not (has_strip_tag bytes) || is_strip (field_channel bytes)

-- 3 and 4 of a channel and of a step, with "a field too many"
unfoldable pub judge_channel_field : List ℕ → ℕ → Bool → ℕ
judge_channel_field bytes channels metas =
    ask (ltb channels max_channels) refused_count
    (ask (channel_allowed (field_channel bytes) metas && tag_allowed bytes) refused_form 0)

unfoldable pub judge_step_field : List ℕ → ℕ → ℕ
judge_step_field bytes steps =
    ask (ltb steps max_steps) refused_count
    (ask (flags_allowed (flags_at bytes)) refused_form 0)

unfoldable pub judge_field : List ℕ → ℕ → Bool → ℕ → ℕ
judge_field bytes channels metas steps =
    ask (field_inside bytes) refused_outside
    (ask (is_channel bytes steps || is_step bytes) refused_field
    (cond (is_step bytes) (judge_step_field bytes steps) (judge_channel_field bytes channels metas)))

-- ---- the fields of a list and its steps; the version is the record's
-- at the end: 3. "Are there 1 .. channels"
abbrev pub finished : ℕ → List Channel → List Step → Form
finished version cs ss = asked (leb 1 (length cs)) refused_count (record { answer = 0; version = version; channels = cs; steps = ss })

-- the first field's answer, after the channels cs and the steps ss
abbrev pub answer_of : List ℕ → List Channel → List Step → ℕ
answer_of bytes cs ss = judge_field bytes (length cs) (all is_meta cs) (length ss)

-- the fields of a record after the channels cs and the steps ss; a field has at least three bytes, so as many turns as bytes are enough
abbrev pub read_fields : ℕ → ℕ → List ℕ → List Channel → List Step → Form
read_fields version zero bytes cs ss = finished version cs ss
read_fields version (suc turns) bytes cs ss =
    cond (eqb (length bytes) 0) (finished version cs ss)
    (asked (eqb (answer_of bytes cs ss) 0) (answer_of bytes cs ss)
    (cond (is_step bytes)
    (read_fields version turns (drop (field_size bytes) bytes) cs (ss ++ (field_step bytes ∷ [])))
    (read_fields version turns (drop (field_size bytes) bytes) (cs ++ (field_channel bytes ∷ [])) ss)))

unfoldable pub fields_of : ℕ → List ℕ → Form
fields_of version bytes = read_fields version (length bytes) bytes [] []

-- ---- A.11: "The record says the version in tag 4, length 1, value 2, once and as its first field"
abbrev pub has_version_tag : List ℕ → Bool
has_version_tag bytes = eqb (tag_of bytes) version_tag

-- 1, 2 and 4 of that field; "tag 4 with value 1 is refused with 4, as is any other value"
unfoldable pub judge_version_field : List ℕ → ℕ
judge_version_field bytes =
    ask (field_inside bytes) refused_outside
    (ask (has_head version_tag version_length bytes) refused_field
    (ask (eqb (byte_at bytes head_length) house_version) refused_form 0))

-- a record with that field, and one without; "Tag 4 later in the record" is a tag that no field there has, "refused with 2"
unfoldable pub form_of : List ℕ → Form
form_of bytes =
    cond (has_version_tag bytes)
    (asked (eqb (judge_version_field bytes) 0) (judge_version_field bytes) (fields_of house_version (drop version_size bytes)))
    (fields_of standard_version bytes)
