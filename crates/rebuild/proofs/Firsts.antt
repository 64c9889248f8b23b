-- The list and the places that the first steps of a plan leave (`list_at`, `places_at` of specs/Run.antt): the places have the list's sides, and their
-- homes lie apart inside the slices. Assumes nothing.
use mathlib.Core.Path.{◌≡◌, refl, sym, ap, subst, ◌∙◌}
use mathlib.Core.List.{List, [], ◌∷◌, ◌++◌}
use Prim.Native.Nat.{ℕ, zero, suc, ◌+◌, ◌-◌, ◌<◌, ◌≤◌}
use native.Mathlib.Omega.{arith}
use borrow.Author.Tests.{leb-true, le-leb}
use lib.ListN.{length}
use lib.IntN.{ℤ}
use Rattle.numbers.specs.Numbers.{max_samples}
use Rattle.channel.specs.declared.Channel.{Channel}
use Rattle.list.specs.declared.ChannelList.{ChannelList}
use Rattle.list.specs.declared.Step.{Step}
use Rattle.list.specs.Tables.{table}
use Rattle.list.specs.Lists.{max_channels, channels, stepped, total}
use Rattle.list.specs.Questions as Questions
use Rattle.list.specs.Questions.{channel_of, judge_step}
use Rattle.list.specs.Accepted.{Accepted, StepAccepted}
use Rattle.list.proofs.Acceptance.{step_accepted}
use Rattle.list.proofs.Tables.{table_rest}
use Rattle.plan.specs.declared.Steps.{Steps}
use Rattle.plan.specs.Steps as S
use Rattle.plan.specs.Steps.{step_at, steps}
use Rattle.plan.specs.Plans.{judge_steps, stepped_all}
use Rattle.plan.proofs.Runs.{none_refused, stepped_append, judge_append, steps_total, plan_accepted}
use Rattle.places.specs.declared.Place.{Place}
use Rattle.places.specs.Places.{places_from, step_places, step_fits}
use Rattle.places.specs.Laid.{Laid, Sided}
use Rattle.places.proofs.Arrays.{table_join}
use Rattle.places.proofs.Laid.{laid_step}
use Rattle.places.proofs.First.{from_sided, from_laid}
use Rattle.places.proofs.Sided.{sided_step}
use Rattle.rebuild.specs.Run.{places_all, step_count, first_steps, list_at, places_at, StepsFit, RunFits}

pub accepted_few : (cs : List Channel) → Accepted cs → total cs ≤ max_samples
unfolding Questions.total_allowed
accepted_few cs ok = leb-true (total cs) max_samples ok.samples

-- ---- one step more
to_more : (s : Steps) (m : ℕ) → first_steps s (m + 1) ≡ first_steps s m ++ (step_at s m ∷ [])
to_more s m = let z : 0 + m ≡ m = omega arith in table_join (step_at s) 0 m 1 ∙ rw z

pub all_steps_lem : (s : Steps) (m : ℕ) → m ≤ step_count s → steps s ≡ first_steps s m ++ table (step_at s) m (step_count s - m)
unfolding S.steps
all_steps_lem s m h =
    let e : step_count s ≡ m + (step_count s - m) = omega arith in
    let z : 0 + m ≡ m = omega arith in
    ap (table (step_at s) 0) e ∙ table_join (step_at s) 0 m (step_count s - m) ∙ rw z

places_append : (ss ts : List Step) (ps : List Place) → places_all (ss ++ ts) ps ≡ places_all ts (places_all ss ps)
places_append [] ts ps = refl
places_append (s ∷ ss) ts ps = places_append ss ts (step_places s ps)

pub places_next : (s : Steps) (m : ℕ) (ps : List Place) → places_all (first_steps s (m + 1)) ps ≡ step_places (step_at s m) (places_all (first_steps s m) ps)
places_next s m ps = ap (λ (ss : List Step). places_all ss ps) (to_more s m) ∙ places_append (first_steps s m) (step_at s m ∷ []) ps

module _ (l : ChannelList) (s : Steps) (m : ℕ) where
  pub list_more : list_at l s (m + 1) ≡ stepped (step_at s m) (list_at l s m)
  list_more = ap (λ (ss : List Step). stepped_all ss (channels l)) (to_more s m) ∙ stepped_append (first_steps s m) (step_at s m ∷ []) (channels l)

  pub places_more : places_at l s (m + 1) ≡ step_places (step_at s m) (places_at l s m)
  places_more = places_next s m (places_from 0 (channels l))

-- ---- the first m steps of an accepted plan
module _ (l : ChannelList) (s : Steps) (pyramid : List ℤ) (f : RunFits l s pyramid) where
  module _ (m : ℕ) (h : m < step_count s) where
    split : steps s ≡ first_steps s m ++ (step_at s m ∷ table (step_at s) (m + 1) (step_count s - (m + 1)))
    split = all_steps_lem s m (omega arith) ∙ rw (table_rest (step_at s) m (step_count s) h)

    answers : (judge_steps (first_steps s m) (channels l) ≡ 0) × (judge_steps (step_at s m ∷ table (step_at s) (m + 1) (step_count s - (m + 1))) (list_at l s m) ≡ 0)
    answers =
        none_refused (judge_steps (first_steps s m) (channels l)) _
        (sym (judge_append (first_steps s m) (step_at s m ∷ table (step_at s) (m + 1) (step_count s - (m + 1))) (channels l)) ∙ ap (λ (ss : List Step). judge_steps ss (channels l)) (sym split) ∙ f.taken)

    pub step_judged : judge_step (step_at s m) (list_at l s m) ≡ 0
    step_judged = (none_refused (judge_step (step_at s m) (list_at l s m)) _ answers.1).0

    pub step_ok : StepAccepted (step_at s m) (list_at l s m)
    step_ok = step_accepted (step_at s m) (list_at l s m) step_judged

    pub list_ok : Accepted (list_at l s m)
    list_ok = plan_accepted (first_steps s m) (channels l) f.accepted answers.0

  pub list_total : (m : ℕ) → total (list_at l s m) ≡ length pyramid
  list_total m = steps_total (first_steps s m) (channels l) ∙ sym f.pyramid_long

  pub total_few : length pyramid ≤ max_samples
  total_few = let n = f.pyramid_long in let k = accepted_few (channels l) f.accepted in omega arith

  pub places_sided : (m : ℕ) → m ≤ step_count s → Sided (list_at l s m) (places_at l s m)
  places_sided zero h = from_sided 0 (channels l)
  places_sided (suc m) h =
      let z : suc m ≡ m + 1 = omega arith in
      subst (λ (cs : List Channel). Sided cs (places_at l s (suc m))) (sym (ap (list_at l s) z ∙ list_more l s m))
      (subst (Sided (stepped (step_at s m) (list_at l s m))) (sym (ap (places_at l s) z ∙ places_more l s m))
      (sided_step (step_at s m) (list_at l s m) (places_at l s m) (step_ok m (omega arith)).inside (places_sided m (omega arith))))

  pub step_inside : (m : ℕ) → m < step_count s → (step_at s m).begin + (step_at s m).number ≤ length (places_at l s m)
  step_inside m h = let w = (places_sided m (omega arith)).long in let n = (step_ok m h).inside in omega arith

  pub places_laid : (m : ℕ) → m ≤ step_count s → Laid (length pyramid) (places_at l s m)
  places_laid zero h = rw f.pyramid_long (from_laid (channels l) (accepted_few (channels l) f.accepted))
  places_laid (suc m) h =
      let z : suc m ≡ m + 1 = omega arith in
      subst (Laid (length pyramid)) (sym (ap (places_at l s) z ∙ places_more l s m)) (laid_step (length pyramid) (step_at s m) (places_at l s m) (step_inside m (omega arith)) total_few (places_laid m (omega arith)))

  -- each step fits its places
  pub steps_fit : (n : ℕ) → n ≤ step_count s → StepsFit n s (places_from 0 (channels l))
  unfolding step_fits
  steps_fit n h m b =
      let o = step_ok m (omega arith) in
      let w = (places_sided m (omega arith)).long in
      rw (le-leb ((step_at s m).begin + (step_at s m).number) (length (places_at l s m)) (step_inside m (omega arith)), le-leb (length (places_at l s m) + (step_at s m).number) max_channels (let r = o.room in omega arith))
