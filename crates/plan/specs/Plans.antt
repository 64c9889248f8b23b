-- A plan on a list: the questions 3 to 11 in document 01's order, for a plan version (document 02, A.11), and the list that the plan leaves,
-- with its origins (A.4). Definitions only.
use Rattle.std.specs.Prelude.{Bool, true, cond, ◌&&◌, List, [], ◌∷◌, ℕ, eqb, leb, ltb, length, Result, Ok, Err}
use Rattle.numbers.specs.declared.Refusal.{Refusal}
use Rattle.numbers.specs.Numbers.{number_of, refused_count, refused_form, refused_samples, refused_default}
use Rattle.channel.specs.declared.Channel.{Channel}
use Rattle.list.specs.declared.ChannelList.{ChannelList}
use Rattle.list.specs.declared.Step.{Step}
use Rattle.list.specs.Lists.{max_steps, channels, own_positions, holding, stepped, stepped_origins}
use Rattle.list.specs.Tables.{all}
use Rattle.list.specs.Questions.{Stepped, ask, count_allowed, channels_allowed, total_allowed, judge_step}
use Rattle.plan.specs.declared.Plan.{Plan}
use Rattle.plan.specs.declared.Steps.{Steps}
use Rattle.plan.specs.Steps as S
use Rattle.plan.specs.Steps.{steps, all_flags, flags_allowed}
use Rattle.plan.specs.Version.{is_version, rule_of}
use Rattle.plan.specs.Default.{meta_count, default_steps}

-- 7 to 11, "For each step on the list as it then is": the first refusal, and the list that steps leave
abbrev pub judge_steps : List Step → List Channel → ℕ
judge_steps [] cs = 0
judge_steps (s ∷ ss) cs = ask (eqb (judge_step s cs) 0) (judge_step s cs) (judge_steps ss (stepped s cs))

abbrev pub stepped_all : List Step → List Channel → List Channel
stepped_all [] cs = cs
stepped_all (s ∷ ss) cs = stepped_all ss (stepped s cs)

-- the origins that they leave; A.4: "A plan run starts by giving each channel its own position"
abbrev pub origins_all : List Step → List ℕ → List ℕ
origins_all [] os = os
origins_all (s ∷ ss) os = origins_all ss (stepped_origins s os)

abbrev pub origins_left : List Step → List Channel → List ℕ
origins_left ss cs = origins_all ss (own_positions (length cs))

abbrev pub list_left : List Step → List Channel → ChannelList
list_left ss cs = holding (stepped_all ss cs) (origins_left ss cs)

-- 6. "Default plan: is there a channel that is not meta? No: 11"
unfoldable pub has_other : List Channel → Bool
has_other cs = ltb (meta_count cs) (length cs)

-- "An empty list of steps means the default plan", the version's
unfoldable pub meant : ℕ → List Step → List Channel → List Step
meant version [] cs = default_steps (rule_of version) cs
meant version (s ∷ ss) cs = s ∷ ss

unfoldable pub meant_allowed : List Step → List Channel → Bool
meant_allowed [] cs = has_other cs
meant_allowed (s ∷ ss) cs = true

-- 3 to 5 of a list and a plan; A.11: 4 also for "a version other than 1 or 2"
unfoldable pub judge_form : ℕ → ChannelList → Steps → ℕ
judge_form version l s =
    ask (count_allowed l.count && leb s.count max_steps) refused_count
    (ask (channels_allowed (channels l) && (all flags_allowed (all_flags s) && is_version version)) refused_form
    (ask (total_allowed (channels l)) refused_samples 0))

-- 6 to 11 of steps on a list
unfoldable pub judge_meant : ℕ → List Step → List Channel → ℕ
judge_meant version ss cs = ask (meant_allowed ss cs) refused_default (judge_steps (meant version ss cs) cs)

unfoldable pub judge_plan : ℕ → ChannelList → Steps → ℕ
judge_plan version l s =
    ask (eqb (judge_form version l s) 0) (judge_form version l s) (judge_meant version (steps s) (channels l))

-- the answer 0 with the list that is reached, or a refusal's number with the list as it came
unfoldable pub outcome : ℕ → ChannelList → ChannelList → Stepped
outcome answer l reached = cond (eqb answer 0) (record { answer = 0; list = reached }) (record { answer = answer; list = l })

-- the same of what a function gives that plans for the list l
abbrev pub reached_of : ChannelList → Result Plan Refusal → Stepped
reached_of l (Ok plan) = record { answer = 0; list = plan.reached }
reached_of l (Err refusal) = record { answer = number_of refusal; list = l }

-- steps on a list that questions 3 to 5 accept
unfoldable pub ran : List Step → ChannelList → Stepped
ran ss l = outcome (judge_steps ss (channels l)) l (list_left ss (channels l))

-- a plan on a list
unfoldable pub rewritten : ℕ → ChannelList → Steps → Stepped
rewritten version l s = outcome (judge_plan version l s) l (list_left (meant version (steps s) (channels l)) (channels l))

-- ---- the steps that are meant
-- the answer 0 with a plan, or a refusal's number without a step
pub record Planned : Type 0 where
  pub answer : ℕ
  pub steps : Steps

-- the same of what a function gives that finds them
abbrev pub planned_of : Result Steps Refusal → Planned
planned_of (Ok s) = record { answer = 0; steps = s }
planned_of (Err refusal) = record { answer = number_of refusal; steps = S.packed [] }

-- the answer 0 with steps, or a refusal's number without a step
abbrev pub offer : ℕ → Steps → Planned
offer answer s = cond (eqb answer 0) (record { answer = 0; steps = s }) (record { answer = answer; steps = S.packed [] })

-- the steps of a plan as they came, or the default plan's where there are none: by questions 3 to 5 of the list and the plan, then 6 where there are
-- no steps
unfoldable pub judge_meaning : ℕ → ChannelList → Steps → ℕ
judge_meaning version l s =
    ask (eqb (judge_form version l s) 0) (judge_form version l s) (ask (meant_allowed (steps s) (channels l)) refused_default 0)

unfoldable pub meant_steps : ℕ → ChannelList → Steps → Planned
meant_steps version l s =
    offer (judge_meaning version l s) (cond (eqb s.count 0) (S.packed (default_steps (rule_of version) (channels l))) s)

-- the default plan of a list: the steps that no steps mean
abbrev pub planned : ℕ → ChannelList → Planned
planned version l = meant_steps version l (S.packed [])
