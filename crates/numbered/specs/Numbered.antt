-- A record from numbers: "A list as numbers: four a channel (width, height, two shifts) ..; steps three each (flags, first, number)"; "both shifts
-- 255 mean meta". The questions are those of the record's writer, 3 to 11 and 14, put to whole numbers of any size: "A number that no field could
-- hold is judged by its question, never cut." A.11 puts the plan version first, a number too. Definitions only.
use Rattle.std.specs.Prelude.{Bool, cond, ◌&&◌, List, ◌∷◌, ◌++◌, ℕ, ◌+◌, ◌*◌, ◌/◌, ◌%◌, eqb, leb, length, get_or, drop}
use Rattle.numbers.specs.Numbers.{refused_count, refused_form, refused_samples, refused_length}
use Rattle.channel.specs.declared.Channel.{Channel}
use Rattle.list.specs.declared.Step.{Step}
use Rattle.list.specs.Tables.{table, all}
use Rattle.list.specs.Lists.{max_steps}
use Rattle.list.specs.Questions.{ask, count_allowed, channels_allowed, total_allowed}
use Rattle.plan.specs.Version.{is_version}
use Rattle.plan.specs.Steps.{flags_allowed}
use Rattle.plan.specs.Plans.{judge_meant}
use Rattle.record.specs.Bytes.{record_of}

-- "four a channel", "steps three each"
abbrev pub channel_numbers : ℕ
channel_numbers = 4

abbrev pub step_numbers : ℕ
step_numbers = 3

-- "as many channels or steps as whole groups", and whether there is no remainder
abbrev pub groups : ℕ → List ℕ → ℕ
groups size xs = length xs / size

abbrev pub whole : ℕ → List ℕ → Bool
whole size xs = eqb (length xs % size) 0

-- ---- the numbers' channels and steps
-- "(width, height, two shifts)"
unfoldable pub channel_at : List ℕ → ℕ → Channel
channel_at ns k =
    record {
      width = get_or ns (channel_numbers * k) 0;
      height = get_or ns (channel_numbers * k + 1) 0;
      hshift = get_or ns (channel_numbers * k + 2) 0;
      vshift = get_or ns (channel_numbers * k + 3) 0;
    }

unfoldable pub channels_of : List ℕ → List Channel
channels_of ns = table (channel_at ns) 0 (groups channel_numbers ns)

-- "(flags, first, number)"
abbrev pub flags_at : List ℕ → ℕ → ℕ
flags_at ms k = get_or ms (step_numbers * k) 0

abbrev pub first_at : List ℕ → ℕ → ℕ
first_at ms k = get_or ms (step_numbers * k + 1) 0

abbrev pub number_at : List ℕ → ℕ → ℕ
number_at ms k = get_or ms (step_numbers * k + 2) 0

-- "flags 1 (bit 0 horizontal, bit 1 in place)"
unfoldable pub step_at : List ℕ → ℕ → Step
step_at ms k =
    record {
      horizontal = eqb (flags_at ms k % 2) 1;
      inplace = eqb (flags_at ms k / 2 % 2) 1;
      begin = first_at ms k;
      number = number_at ms k;
    }

unfoldable pub steps_of : List ℕ → List Step
steps_of ms = table (step_at ms) 0 (groups step_numbers ms)

unfoldable pub flags_of : List ℕ → List ℕ
flags_of ms = table (flags_at ms) 0 (groups step_numbers ms)

-- the record's bytes
unfoldable pub bytes_of : ℕ → List ℕ → List ℕ → List ℕ
bytes_of version ns ms = record_of version (channels_of ns) (steps_of ms)

-- ---- the questions
-- 3 to 11; A.11: 4 also for "a version other than 1 or 2"
unfoldable pub judge_numbers : ℕ → List ℕ → List ℕ → ℕ
judge_numbers version ns ms =
    ask (count_allowed (groups channel_numbers ns) && leb (groups step_numbers ms) max_steps) refused_count
    (ask (channels_allowed (channels_of ns) && (all flags_allowed (flags_of ms) && is_version version)) refused_form
    (ask (total_allowed (channels_of ns)) refused_samples
    (judge_meant version (steps_of ms) (channels_of ns))))

-- 14. "a remainder is question 14's"; "a slice for the record at least the bytes needed", and one for the length at least one number
unfoldable pub slices_allowed : ℕ → List ℕ → List ℕ → List ℕ → List ℕ → Bool
slices_allowed version ns ms bytes len =
    (whole channel_numbers ns && whole step_numbers ms) && (leb (length (bytes_of version ns ms)) (length bytes) && leb 1 (length len))

unfoldable pub answer : ℕ → List ℕ → List ℕ → List ℕ → List ℕ → ℕ
answer version ns ms bytes len =
    ask (eqb (judge_numbers version ns ms) 0) (judge_numbers version ns ms)
    (ask (slices_allowed version ns ms bytes len) refused_length 0)

-- ---- the two slices afterwards: "A slice that is filled has at least the numbers needed, and those past them stay."
unfoldable pub record_after : ℕ → List ℕ → List ℕ → List ℕ → List ℕ → List ℕ
record_after version ns ms bytes len =
    cond (eqb (answer version ns ms bytes len) 0) (bytes_of version ns ms ++ drop (length (bytes_of version ns ms)) bytes) bytes

unfoldable pub length_after : ℕ → List ℕ → List ℕ → List ℕ → List ℕ → List ℕ
length_after version ns ms bytes len =
    cond (eqb (answer version ns ms bytes len) 0) (length (bytes_of version ns ms) ∷ drop 1 len) len
