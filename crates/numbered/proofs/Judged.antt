-- Questions 3 to 11 of the numbers (`judge_numbers` of specs/Numbered.antt), beside those that crate plan puts to their flat arrays. Assumes nothing.
use mathlib.Core.Path.{◌≡◌, refl, sym, ap, ◌∙◌}
use mathlib.Core.Bool.{Bool, true, false, ◌&&◌, and-eq-true_iff, true≢false}
use mathlib.Core.List.{List, [], ◌∷◌}
use Prim.Native.Nat.{ℕ, ◌≤◌}
use native.Mathlib.Omega.{arith}
use lib.Dec.{eqb, leb}
use borrow.Author.Tests.{leb-true, le-leb}
use Rattle.channel.specs.declared.Channel.{Channel}
use Rattle.channel.specs.Channel.{meta_shift, shifts_allowed}
use Rattle.channel.proofs.Shifts.{shifts_small}
use Rattle.list.specs.declared.Step.{Step}
use Rattle.list.specs.Tables.{map, all}
use Rattle.list.specs.Lists.{max_channels, max_steps}
use Rattle.list.specs.Questions as Q
use Rattle.list.specs.Questions.{ask, count_allowed, channels_allowed, total_allowed}
use Rattle.list.proofs.Acceptance.{allowed_both}
use Rattle.list.proofs.Asking.{passed}
use Rattle.plan.specs.Version.{is_version}
use Rattle.plan.specs.Steps.{flags_allowed}
use Rattle.plan.specs.Plans as P
use Rattle.plan.specs.Plans.{judge_meant, judge_plan}
use Rattle.numbered.specs.Numbered.{channel_numbers, step_numbers, groups, channels_of, steps_of, flags_of, judge_numbers}
use Rattle.numbered.specs.Arrays.{shifts_fit, list_of, plan_by, plan_of, held}
use Rattle.numbered.proofs.Fields.{channels_count}
use Rattle.numbered.proofs.Arrays.{over, list_count, list_channels, plan_count, plan_steps, plan_flags}
use Rattle.numbered.proofs.Holding.{meant_held}

-- ---- shifts that are allowed fit their entries
allowed_fits : (c : Channel) → shifts_allowed c ≡ true → shifts_fit c ≡ true
unfolding shifts_fit
allowed_fits c a = let m = shifts_small c a in rw (le-leb c.hshift meta_shift m.0, le-leb c.vshift meta_shift m.1)

-- q of each where p of each
all_then {ℓ} : {A : Type ℓ} (p q : A → Bool) → ((x : A) → p x ≡ true → q x ≡ true) → (xs : List A) → all p xs ≡ true → all q xs ≡ true
all_then p q h [] a = refl
all_then p q h (x ∷ xs) a =
    let u = (and-eq-true_iff (p x) (all p xs)).0 a in
    (and-eq-true_iff (q x) (all q xs)).1 (h x u.0, all_then p q h xs u.1)

all_fit : (cs : List Channel) → channels_allowed cs ≡ true → all shifts_fit cs ≡ true
all_fit cs a = all_then shifts_allowed shifts_fit allowed_fits cs (allowed_both cs a).0

-- what fits the flat arrays
abbrev pub ListFits : List ℕ → Type 0
ListFits ns = (groups channel_numbers ns ≤ max_channels) × (all shifts_fit (channels_of ns) ≡ true)

abbrev pub StepsFit : List ℕ → Type 0
StepsFit ms = (groups step_numbers ms ≤ max_steps) × (all flags_allowed (flags_of ms) ≡ true)

-- ---- the questions
-- "no" to 3 to 5, or what 6 to 11 answer
form_then : (b₃ b₄ b₅ : Bool) (n : ℕ) → ask (eqb (ask b₃ 3 (ask b₄ 4 (ask b₅ 5 0))) 0) (ask b₃ 3 (ask b₄ 4 (ask b₅ 5 0))) n ≡ ask b₃ 3 (ask b₄ 4 (ask b₅ 5 n))
form_then false b₄ b₅ n = refl
form_then true false b₅ n = refl
form_then true true false n = refl
form_then true true true n = refl

pub map_over : (ss : List Step) → map (over (λ n. n)) ss ≡ ss
map_over [] = refl
map_over (s ∷ ss) = ap (◌∷◌ s) (map_over ss)

module _ (version : ℕ) (ns ms : List ℕ) where
  abbrev counts : Bool
  counts = count_allowed (groups channel_numbers ns) && leb (groups step_numbers ms) max_steps

  -- question 3
  pub numbers_refused₃ : counts ≡ false → 3 ≡ judge_numbers version ns ms
  unfolding judge_numbers
  numbers_refused₃ e = rw e

  plan_refused₃ : (f : ℕ → ℕ) → counts ≡ false → judge_plan version (list_of ns) (plan_by f ms) ≡ 3
  unfolding P.judge_plan P.judge_form
  plan_refused₃ f e = rw (list_count ns, plan_count f ms, e)

  module _ (e₃ : counts ≡ true) where
    few : (groups channel_numbers ns ≤ max_channels) × (groups step_numbers ms ≤ max_steps)
    unfolding Q.count_allowed
    few =
        let b = (and-eq-true_iff (count_allowed (groups channel_numbers ns)) (leb (groups step_numbers ms) max_steps)).0 e₃ in
        let n = (and-eq-true_iff (leb 1 (groups channel_numbers ns)) (leb (groups channel_numbers ns) max_channels)).0 b.0 in
        (leb-true _ _ n.1, leb-true _ _ b.1)

    -- questions 4 to 11, of the flat arrays
    plan_asked : (f : ℕ → ℕ) → judge_plan version (list_of ns) (plan_by f ms)
        ≡ ask (channels_allowed (channels_of ns) && (all flags_allowed (flags_of ms) && is_version version)) 4
        (ask (total_allowed (channels_of ns)) 5 (judge_meant version (map (over f) (steps_of ms)) (channels_of ns)))
    unfolding P.judge_plan P.judge_form
    plan_asked f =
        rw (list_channels ns few.0, plan_flags f ms few.1, plan_steps f ms few.1, list_count ns, plan_count f ms, e₃)
        (form_then true (channels_allowed (channels_of ns) && (all flags_allowed (flags_of ms) && is_version version)) (total_allowed (channels_of ns)) _)

    numbers_asked : judge_numbers version ns ms
        ≡ ask (channels_allowed (channels_of ns) && (all flags_allowed (flags_of ms) && is_version version)) 4
        (ask (total_allowed (channels_of ns)) 5 (judge_meant version (steps_of ms) (channels_of ns)))
    unfolding judge_numbers
    numbers_asked = rw e₃

    -- a number that no field holds, or flags above 3
    numbers_refused₄ : (all shifts_fit (channels_of ns) && all flags_allowed (flags_of ms)) ≡ false → 4 ≡ judge_numbers version ns ms
    unfolding judge_numbers
    numbers_refused₄ e = rw e₃ (go (channels_allowed (channels_of ns)) (all flags_allowed (flags_of ms)) refl refl)
      where
        go : (a f : Bool) → channels_allowed (channels_of ns) ≡ a → all flags_allowed (flags_of ms) ≡ f
            → 4 ≡ ask (a && (f && is_version version)) 4 (ask (total_allowed (channels_of ns)) 5 (judge_meant version (steps_of ms) (channels_of ns)))
        go true true ea ef = absurd (true≢false (rw (all_fit (channels_of ns) ea, ef) at e))
        go true false ea ef = refl
        go false f ea ef = refl

    -- x and y are what the code found of the two
    module _ (x y : Bool) (ex : x ≡ all shifts_fit (channels_of ns)) (ey : y ≡ all flags_allowed (flags_of ms)) where
      pub numbers_misfit : x && y ≡ false → 4 ≡ judge_numbers version ns ms
      numbers_misfit h = numbers_refused₄ (sym (λ i. ex i && ey i) ∙ h)

      pub numbers_fit : x && y ≡ true → ListFits ns × StepsFit ms
      numbers_fit h =
          let b = (and-eq-true_iff (all shifts_fit (channels_of ns)) (all flags_allowed (flags_of ms))).0 (sym (λ i. ex i && ey i) ∙ h) in
          ((few.0, b.0), (few.1, b.1))

    -- the steps held
    pub numbers_held : ListFits ns → judge_plan version (list_of ns) (plan_by held ms) ≡ judge_numbers version ns ms
    numbers_held h =
        plan_asked held
        ∙ rw (meant_held version (steps_of ms) (channels_of ns) (omega (arith, channels_count ns, h.0)))
        (sym numbers_asked)

  -- the steps as they are
  pub numbers_plan : judge_plan version (list_of ns) (plan_of ms) ≡ judge_numbers version ns ms
  numbers_plan = go counts refl
    where
      go : (b : Bool) → counts ≡ b → judge_plan version (list_of ns) (plan_of ms) ≡ judge_numbers version ns ms
      go true e = plan_asked e (λ n. n) ∙ rw (map_over (steps_of ms)) (sym (numbers_asked e))
      go false e = plan_refused₃ (λ n. n) e ∙ numbers_refused₃ e

-- what no refusal says
pub record Accepted (version : ℕ) (ns ms : List ℕ) : Type 0 where
  pub counted : counts version ns ms ≡ true
  pub list : ListFits ns
  pub steps : StepsFit ms
  pub meant : judge_meant version (steps_of ms) (channels_of ns) ≡ 0

pub accepted : (version : ℕ) (ns ms : List ℕ) → judge_numbers version ns ms ≡ 0 → Accepted version ns ms
unfolding judge_numbers
accepted version ns ms h =
    let p₃ = passed (counts version ns ms) _ _ h in
    let p₄ = passed (channels_allowed (channels_of ns) && (all flags_allowed (flags_of ms) && is_version version)) _ _ p₃.1 in
    let p₅ = passed (total_allowed (channels_of ns)) _ _ p₄.1 in
    let b = (and-eq-true_iff (channels_allowed (channels_of ns)) (all flags_allowed (flags_of ms) && is_version version)).0 p₄.0 in
    let d = (and-eq-true_iff (all flags_allowed (flags_of ms)) (is_version version)).0 b.1 in
    let n = few version ns ms p₃.0 in
    record {
      counted = p₃.0;
      list = (n.0, all_fit (channels_of ns) b.0);
      steps = (n.1, d.0);
      meant = p₅.1;
    }
