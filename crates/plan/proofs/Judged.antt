-- What the answer 0 to questions 3 to 11 says of a list and its steps, of the steps that are meant and of the list that they leave. Assumes
-- nothing.
use mathlib.Core.Path.{◌≡◌, sym, ap, ◌∙◌}
use mathlib.Core.Bool.{true}
use mathlib.Core.List.{List}
use Prim.Native.Nat.{ℕ, ◌≤◌}
use native.Mathlib.Omega.{arith}
use lib.ListN.{length}
use Rattle.list.specs.declared.ChannelList.{ChannelList}
use Rattle.list.specs.declared.Step.{Step}
use Rattle.list.specs.Questions.{Stepped}
use Rattle.list.specs.Lists as Lists
use Rattle.list.specs.Lists.{max_channels, max_steps, channels, origins, total}
use Rattle.list.specs.Questions.{counted_total, judge_list}
use Rattle.list.proofs.Acceptance.{count_inside, list_accepted}
use Rattle.list.proofs.Packed.{channels_held, origins_held}
use Rattle.list.proofs.Totals.{counted_exact}
use Rattle.plan.specs.Plans.{Planned}
use Rattle.plan.specs.declared.Steps.{Steps}
use Rattle.plan.specs.Steps.{steps}
use Rattle.plan.specs.Version.{is_version}
use Rattle.plan.specs.Plans as Plans
use Rattle.plan.specs.Plans.{judge_form, judge_meant, judge_plan, judge_steps, stepped_all, origins_left, list_left, meant, rewritten, judge_meaning, meant_steps}
use Rattle.plan.proofs.Runs.{none_refused, origins_left_lem}
use Rattle.plan.proofs.Answers.{steps_length, form_accepted, plan_meaning, meaning_answer, meaning_steps, outcome_answer, rewritten_accepted}

module _ (version : ℕ) (l : ChannelList) (s : Steps) where
  -- r is what `rewrite` gave
  pub plan_answer : (r : Stepped) → r ≡ rewritten version l s → r.answer ≡ judge_plan version l s
  unfolding Plans.rewritten
  plan_answer r e = ap (λ (x : Stepped). x.answer) e ∙ outcome_answer (judge_plan version l s) l _

  module _ (ok : judge_plan version l s ≡ 0) where
    pub judged_parts : (judge_form version l s ≡ 0) × (judge_meant version (steps s) (channels l) ≡ 0)
    unfolding Plans.judge_plan
    judged_parts = none_refused (judge_form version l s) (judge_meant version (steps s) (channels l)) ok

    form : (judge_list l ≡ 0) × (s.count ≤ max_steps) × (is_version version ≡ true)
    form = form_accepted version l s judged_parts.0

    pub judged_list : judge_list l ≡ 0
    judged_list = form.0

    pub judged_version : is_version version ≡ true
    judged_version = form.2

    -- its samples are counted to the last
    pub judged_total : counted_total (channels l) ≡ total (channels l)
    judged_total = counted_exact (channels l) (list_accepted l judged_list).samples

    pub judged_counts : (l.count ≤ max_channels) × (s.count ≤ max_steps)
    judged_counts = ((count_inside l judged_list).1, form.1)

    pub steps_few : length (steps s) ≤ max_steps
    steps_few = omega (arith, steps_length s)

    meaning : (judge_meaning version l s ≡ 0) × (judge_steps (meant version (steps s) (channels l)) (channels l) ≡ 0)
    meaning = none_refused (judge_meaning version l s) _ (sym (plan_meaning version l s) ∙ ok)

    -- p is what `meant_steps` gave: it is no refusal
    pub meant_accepted : (p : Planned) → p ≡ meant_steps version l s → p.answer ≡ 0
    meant_accepted p e = meaning_answer version l s p e ∙ meaning.0

    -- the steps that are meant are accepted
    pub meant_judged : judge_steps (meant version (steps s) (channels l)) (channels l) ≡ 0
    meant_judged = meaning.1

    -- r is what `rewrite` gave: the list that the steps leave
    module _ (r : Stepped) (e : r ≡ rewritten version l s) where
      pub reached_few : r.list.count ≤ max_channels
      reached_few = (count_inside r.list (rw (← e) at (rewritten_accepted version l s (rw e at (plan_answer r e ∙ ok))))).1

      abbrev meant-here : List Step
      meant-here = meant version (steps s) (channels l)

      holds : r.list ≡ list_left meant-here (channels l)
      unfolding Plans.rewritten Plans.outcome
      holds = ap (λ (x : Stepped). x.list) e ∙ rw ok

      few : length (stepped_all meant-here (channels l)) ≤ max_channels
      unfolding Lists.holding
      few = omega (arith, ap (λ (x : ChannelList). x.count) holds, reached_few)

      pub reached_back : channels r.list ≡ stepped_all meant-here (channels l)
      reached_back = ap channels holds ∙ channels_held _ _ few

      -- and its origins
      pub reached_origins : origins r.list ≡ origins_left meant-here (channels l)
      reached_origins = ap origins holds ∙ origins_held _ _ few (origins_left_lem meant-here (channels l) meant_judged)

    -- r is what `meant_steps` gave
    pub meant_is : (r : Planned) → r ≡ meant_steps version l s → r.steps.count ≤ max_steps → steps r.steps ≡ meant version (steps s) (channels l)
    meant_is r e room = meaning_steps version l s r e meaning.0 room
