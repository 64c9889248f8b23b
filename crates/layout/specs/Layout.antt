-- The layout of a record as numbers (document 02, A.4): the steps that are meant, the rewritten list, its origins, and how many there are. "A list as
-- numbers: four a channel (width, height, two shifts); origins in a slice of their own, one a channel; steps three each (flags, first, number)."
-- Definitions only.
use Rattle.std.specs.Prelude.{Bool, cond, ◌&&◌, List, [], ◌∷◌, ◌++◌, ℕ, eqb, leb, length, drop}
use Rattle.numbers.specs.Numbers.{refused_length}
use Rattle.channel.specs.declared.Channel.{Channel}
use Rattle.list.specs.declared.Step.{Step}
use Rattle.list.specs.Questions.{ask}
use Rattle.plan.specs.Steps.{flags_of}
use Rattle.plan.specs.Version.{rule_of}
use Rattle.plan.specs.Coarse.{coarse_count}
use Rattle.record.specs.Bytes.{joined}
use Rattle.record.specs.Records.{read_answer, version_of, steps_of, reached_of, origins_of}

-- ---- the numbers
-- "(flags, first, number)"
unfoldable pub step_numbers : Step → List ℕ
step_numbers s = flags_of s ∷ s.begin ∷ s.number ∷ []

-- "(width, height, two shifts)"
unfoldable pub channel_numbers : Channel → List ℕ
channel_numbers c = c.width ∷ c.height ∷ c.hshift ∷ c.vshift ∷ []

abbrev pub all_steps : List Step → List ℕ
all_steps ss = joined step_numbers ss

abbrev pub all_channels : List Channel → List ℕ
all_channels cs = joined channel_numbers cs

-- ---- four rows of numbers: those of a layout, and the slices that take them
pub record Rows : Type 0 where
  pub counts : List ℕ
  pub steps : List ℕ
  pub channels : List ℕ
  pub origins : List ℕ

abbrev pub rows : List ℕ → List ℕ → List ℕ → List ℕ → Rows
rows counts steps channels origins = record { counts = counts; steps = steps; channels = channels; origins = origins }

-- of steps and the list that they leave with its origins; "counts (four numbers: version, steps, channels, coarse ..)"
unfoldable pub counts_of : ℕ → List Step → List Channel → List ℕ
counts_of version ss cs = version ∷ length ss ∷ length cs ∷ coarse_count (rule_of version).stop cs ∷ []

abbrev pub rows_of : ℕ → List Step → List Channel → List ℕ → Rows
rows_of version ss cs os = rows (counts_of version ss cs) (all_steps ss) (all_channels cs) os

abbrev pub layout_of : List ℕ → Rows
layout_of bytes = rows_of (version_of bytes) (steps_of bytes) (reached_of bytes) (origins_of bytes)

-- "A slice that is filled has at least the numbers needed, and those past them stay."
abbrev pub fits : List ℕ → List ℕ → Bool
fits numbers out = leb (length numbers) (length out)

unfoldable pub all_fit : Rows → Rows → Bool
all_fit r out = fits r.counts out.counts && (fits r.steps out.steps && (fits r.channels out.channels && fits r.origins out.origins))

abbrev pub over : List ℕ → List ℕ → List ℕ
over numbers out = numbers ++ drop (length numbers) out

abbrev pub all_over : Rows → Rows → Rows
all_over r out =
    rows (over r.counts out.counts) (over r.steps out.steps) (over r.channels out.channels) (over r.origins out.origins)

-- ---- the call: the record's questions 1 to 11, then 14 of the slices
unfoldable pub answer : List ℕ → Rows → ℕ
answer bytes out = ask (eqb (read_answer bytes) 0) (read_answer bytes) (ask (all_fit (layout_of bytes) out) refused_length 0)

-- the slices afterwards: "lent slices keep their contents" where the call is refused
unfoldable pub after : List ℕ → Rows → Rows
after bytes out = cond (eqb (answer bytes out) 0) (all_over (layout_of bytes) out) out
