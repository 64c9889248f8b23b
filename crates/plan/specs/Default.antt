-- The default plan (document 01, "The list and the plan"; document 02, A.11), as a function of the side at which it stops and of whether it has chroma
-- steps first. Definitions only.
use Rattle.std.specs.Prelude.{Bool, true, false, cond, ◌&&◌, List, [], ◌∷◌, ◌++◌, ℕ, zero, suc, ◌+◌, ◌-◌, eqb, leb, ltb, length}
use Rattle.channel.specs.declared.Channel.{Channel}
use Rattle.channel.specs.Channel.{is_meta}
use Rattle.list.specs.declared.Step.{Step}
use Rattle.list.specs.Lists.{halved}
use Rattle.list.specs.Questions.{channel_of}
use Rattle.plan.specs.declared.DefaultRule.{DefaultRule}

-- how many channels stand before the first of which p is false
abbrev pub leading : (Channel → Bool) → List Channel → ℕ
leading p [] = 0
leading p (c ∷ cs) = cond (p c) (suc (leading p cs)) 0

-- "m meta channels and n others, w and h of the first other"
unfoldable pub meta_count : List Channel → ℕ
meta_count cs = leading is_meta cs

abbrev pub other_count : List Channel → ℕ
other_count cs = length cs - meta_count cs

abbrev pub first_other : List Channel → Channel
first_other cs = channel_of cs (meta_count cs)

abbrev pub second_other : List Channel → Channel
second_other cs = channel_of cs (meta_count cs + 1)

abbrev pub when : Bool → Step → List Step
when test s = cond test (s ∷ []) []

abbrev pub step : Bool → Bool → ℕ → ℕ → Step
step horizontal inplace begin number = record { horizontal = horizontal; inplace = inplace; begin = begin; number = number }

-- "If n > 2 and the second other is also w by h: steps on the second and third, not in place, horizontal if w > 1, then vertical if h > 1."
-- A.11: or "no chroma steps first"
unfoldable pub chroma : Bool → ℕ → ℕ → ℕ → ℕ → Channel → List Step
chroma wanted m n w h second =
    cond (wanted && (ltb 2 n && (eqb second.width w && eqb second.height h)))
    (when (ltb 1 w) (step true false (m + 1) 2) ++ when (ltb 1 h) (step false false (m + 1) 2))
    []

-- a side after a step that is taken while it is above the stopping side
abbrev pub lowered : ℕ → ℕ → ℕ
lowered stop side = cond (ltb stop side) (halved side) side

-- "While a side is above 8: horizontal if w > 8, then vertical if h > 8, with w and h halved upwards each time." A turn lowers w + h, which
-- bounds the turns. A.11: 8 or 32.
unfoldable pub rounds : ℕ → ℕ → ℕ → ℕ → ℕ → ℕ → List Step
rounds zero stop m n w h = []
rounds (suc turns) stop m n w h =
    when (ltb stop w) (step true true m n)
    ++ (when (ltb stop h) (step false true m n)
    ++ rounds turns stop m n (lowered stop w) (lowered stop h))

-- "Then in-place steps on all n: if w ≤ h and h > 8, vertical", and the rounds
unfoldable pub all_channels : ℕ → ℕ → ℕ → ℕ → ℕ → List Step
all_channels stop m n w h =
    cond (leb w h && ltb stop h)
    (step false true m n ∷ rounds (w + h) stop m n w (halved h))
    (rounds (w + h) stop m n w h)

unfoldable pub default_steps : DefaultRule → List Channel → List Step
default_steps rule cs =
    chroma rule.chroma (meta_count cs) (other_count cs) (first_other cs).width (first_other cs).height (second_other cs)
    ++ all_channels rule.stop (meta_count cs) (other_count cs) (first_other cs).width (first_other cs).height
