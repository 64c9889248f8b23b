-- The listing of a record (document 01, "Proved table", the program squeeze-list): the steps of its plan, the default plan by its steps, the
-- rewritten list and the coarse count; or "A refusal is one line, `refused` and the number". Definitions only.
use Rattle.std.specs.Prelude.{cond, ◌&&◌, List, ◌∷◌, ◌++◌, ℕ, eqb, leb, length, take, drop}
use Rattle.numbers.specs.Numbers.{refused_length}
use Rattle.channel.specs.declared.Channel.{Channel}
use Rattle.list.specs.declared.Step.{Step}
use Rattle.list.specs.Questions.{ask}
use Rattle.plan.specs.Version.{rule_of}
use Rattle.plan.specs.Coarse.{coarse_count}
use Rattle.plan.specs.Plans.{meant, stepped_all}
use Rattle.record.specs.Reading.{form_of}
use Rattle.record.specs.Records.{read_answer, version_of, channels_of}
use Rattle.listing.specs.Text.{steps_word, channels_word, coarse_word, refused_word, numbered, step_lines, channel_lines}

-- the lines of a plan's steps and of the list that it leaves; "The coarse count takes the version's side"
unfoldable pub plan_text : ℕ → List Step → List Channel → List ℕ
plan_text version ss cs =
    numbered steps_word (length ss)
    ++ (step_lines ss
    ++ (numbered channels_word (length cs)
    ++ (channel_lines cs ++ numbered coarse_word (coarse_count (rule_of version).stop cs))))

-- the same with so many coarse channels, for the function that puts the lines
abbrev pub lines_text : List Step → List Channel → ℕ → List ℕ
lines_text ss cs coarse =
    numbered steps_word (length ss)
    ++ (step_lines ss
    ++ (numbered channels_word (length cs)
    ++ (channel_lines cs ++ numbered coarse_word coarse)))

-- those of a list and its steps, "the default plan by its steps"
abbrev pub record_text : ℕ → List Step → List Channel → List ℕ
record_text version ss cs = plan_text version (meant version ss cs) (stepped_all (meant version ss cs) cs)

unfoldable pub listing : List ℕ → List ℕ
listing bytes =
    cond (eqb (read_answer bytes) 0)
    (record_text (version_of bytes) (form_of bytes).steps (channels_of bytes))
    (numbered refused_word (read_answer bytes))

-- ---- the call: the record's questions, then 14 of the slices for the text and, one number, for its length
unfoldable pub list_answer : List ℕ → List ℕ → List ℕ → ℕ
list_answer bytes text size =
    ask (eqb (read_answer bytes) 0) (read_answer bytes)
    (ask (leb (length (listing bytes)) (length text) && leb 1 (length size)) refused_length 0)

-- the slices afterwards: the listing over the front of the one, its length in the other, and the rest as it was
unfoldable pub text_after : List ℕ → List ℕ → List ℕ → List ℕ
text_after bytes text size =
    cond (eqb (list_answer bytes text size) 0) (listing bytes ++ drop (length (listing bytes)) text) text

unfoldable pub size_after : List ℕ → List ℕ → List ℕ → List ℕ
size_after bytes text size = cond (eqb (list_answer bytes text size) 0) (length (listing bytes) ∷ drop 1 size) size

-- ---- the program: "judges the first 4,096 bytes of standard input"
abbrev pub judged_bytes : ℕ
judged_bytes = 4096

-- what it prints for its input, and a text that had room for it afterwards
unfoldable pub printed : List ℕ → List ℕ
printed input = listing (take judged_bytes input)

unfoldable pub printed_over : List ℕ → List ℕ → List ℕ
printed_over input text = printed input ++ drop (length (printed input)) text
