-- The listing before strips: every number has at most five digits. Definitions only.
use Rattle.std.specs.Prelude.{cond, List, [], ◌∷◌, ◌++◌, ℕ, eqb, length}
use Rattle.channel.specs.declared.Channel.{Channel}
use Rattle.channel.specs.Channel.{is_meta}
use Rattle.list.specs.declared.Step.{Step}
use Rattle.plan.specs.Coarse.{coarse_count}
use Rattle.plan.specs.Plans.{stepped_all}
use Rattle.record.specs.Bytes.{joined}
use Rattle.listing.specs.Text.{space, newline, digits_upto, steps_word, channels_word, coarse_word, refused_word, direction_word, place_word, meta_word}
use Rattle.before.specs.Unversioned.{stopping_side, meant}
use Rattle.before.specs.Reading.{form_of, read_answer}

unfoldable pub decimal : ℕ → List ℕ
decimal n = digits_upto 5 n

abbrev pub numbered : List ℕ → ℕ → List ℕ
numbered word n = word ++ (decimal n ++ (newline ∷ []))

abbrev pub two : ℕ → ℕ → List ℕ
two m n = decimal m ++ (space ∷ decimal n)

unfoldable pub step_line : Step → List ℕ
step_line s = direction_word s.horizontal ++ (place_word s.inplace ++ (two s.begin s.number ++ (newline ∷ [])))

abbrev pub shift_words : Channel → List ℕ
shift_words c = cond (is_meta c) meta_word (two c.hshift c.vshift)

unfoldable pub channel_line : Channel → List ℕ
channel_line c = two c.width c.height ++ (space ∷ (shift_words c ++ (newline ∷ [])))

unfoldable pub plan_text : List Step → List Channel → List ℕ
plan_text ss cs =
    numbered steps_word (length ss)
    ++ (joined step_line ss
    ++ (numbered channels_word (length cs)
    ++ (joined channel_line cs ++ numbered coarse_word (coarse_count stopping_side cs))))

abbrev pub record_text : List Step → List Channel → List ℕ
record_text ss cs = plan_text (meant ss cs) (stepped_all (meant ss cs) cs)

unfoldable pub listing : List ℕ → List ℕ
listing bytes =
    cond (eqb (read_answer bytes) 0)
    (record_text (form_of bytes).steps (form_of bytes).channels)
    (numbered refused_word (read_answer bytes))
