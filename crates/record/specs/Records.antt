-- The record's reader and writer (document 01, "Record", "The questions"): "Reader and listing judge form first, then the plan"; "the record's
-- writer puts questions 3 to 11 too, and bytes past the record stay". Definitions only.
use Rattle.std.specs.Prelude.{cond, List, [], ◌++◌, ℕ, eqb, leb, length, drop}
use Rattle.numbers.specs.Numbers.{refused_length}
use Rattle.channel.specs.declared.Channel.{Channel}
use Rattle.list.specs.declared.ChannelList.{ChannelList}
use Rattle.list.specs.declared.Step.{Step}
use Rattle.list.specs.Lists as Lists
use Rattle.list.specs.Lists.{channels}
use Rattle.list.specs.Questions.{ask}
use Rattle.plan.specs.declared.Steps.{Steps}
use Rattle.plan.specs.Steps as S
use Rattle.plan.specs.Steps.{steps}
use Rattle.plan.specs.Plans.{meant, stepped_all, origins_left, judge_plan}
use Rattle.record.specs.Told.{Record, Written}
use Rattle.record.specs.Bytes.{record_of}
use Rattle.record.specs.Reading.{Form, form_of}

-- a form with its channels and steps in flat arrays
unfoldable pub packed_form : Form → Record
packed_form form = record { answer = form.answer; version = form.version; list = Lists.packed form.channels; steps = S.packed form.steps }

-- ---- the reader: questions 1 to 4 of the form, then 5 to 11 of the list and the steps read
unfoldable pub read_answer : List ℕ → ℕ
read_answer bytes =
    ask (eqb (form_of bytes).answer 0) (form_of bytes).answer
    (judge_plan (form_of bytes).version (Lists.packed (form_of bytes).channels) (S.packed (form_of bytes).steps))

-- the version, the list and the steps, or the refusal's number and nothing else
unfoldable pub read_of : List ℕ → Record
read_of bytes =
    cond (eqb (read_answer bytes) 0)
    (record { answer = 0; version = (form_of bytes).version; list = Lists.packed (form_of bytes).channels; steps = S.packed (form_of bytes).steps })
    (record { answer = read_answer bytes; version = 0; list = Lists.packed []; steps = S.packed [] })

-- a record's plan version, its channels, the steps that are meant ("An empty list of steps means the default plan") and the list that they leave
abbrev pub version_of : List ℕ → ℕ
version_of bytes = (form_of bytes).version

abbrev pub channels_of : List ℕ → List Channel
channels_of bytes = (form_of bytes).channels

abbrev pub steps_of : List ℕ → List Step
steps_of bytes = meant (version_of bytes) (form_of bytes).steps (channels_of bytes)

abbrev pub reached_of : List ℕ → List Channel
reached_of bytes = stepped_all (steps_of bytes) (channels_of bytes)

-- A.4: for each channel of that list the one of the record's list that it was made from
abbrev pub origins_of : List ℕ → List ℕ
origins_of bytes = origins_left (steps_of bytes) (channels_of bytes)

-- ---- the writer: questions 3 to 11, then 14: "a slice for the record at least the bytes needed"
abbrev pub record_for : ℕ → ChannelList → Steps → List ℕ
record_for version l s = record_of version (channels l) (steps s)

unfoldable pub write_answer : ℕ → ChannelList → Steps → List ℕ → ℕ
write_answer version l s out =
    ask (eqb (judge_plan version l s) 0) (judge_plan version l s)
    (ask (leb (length (record_for version l s)) (length out)) refused_length 0)

-- the answer with the record's length, or the refusal's number and 0
unfoldable pub written_of : ℕ → ChannelList → Steps → List ℕ → Written
written_of version l s out =
    cond (eqb (write_answer version l s out) 0)
    (record { answer = 0; size = length (record_for version l s) })
    (record { answer = write_answer version l s out; size = 0 })

-- the slice afterwards
unfoldable pub written_bytes : ℕ → ChannelList → Steps → List ℕ → List ℕ
written_bytes version l s out =
    cond (eqb (write_answer version l s out) 0) (record_for version l s ++ drop (length (record_for version l s)) out) out
