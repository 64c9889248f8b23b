-- The steps that are meant or the refusal (`meant_steps` of specs/Plans.antt) and the rewritten list or the refusal (`rewritten`), from the answers that
-- lead to them. Assumes nothing.
use mathlib.Core.Bool.{Bool, true, false, cond, ◌&&◌, and-eq-true_iff}
use mathlib.Core.Path.{◌≡◌, refl, sym, ap, ◌∙◌}
use mathlib.Core.List.{List, [], ◌∷◌}
use Prim.Native.Nat.{ℕ, zero, suc, ◌<◌, ◌≤◌, min}
use native.Mathlib.Omega.{arith}
use lib.Dec.{eqb, leb}
use lib.ListN.{length}
use borrow.Author.Tests.{eq-eqb, ne_eqb, lt-ltb, le-ltb, leb-true, eqb-true}
use Rattle.channel.specs.declared.Channel.{Channel}
use Rattle.list.specs.declared.ChannelList.{ChannelList}
use Rattle.list.specs.declared.Step.{Step}
use Rattle.list.specs.Questions.{Stepped}
use Rattle.list.specs.Tables.{all}
use Rattle.list.specs.Lists.{max_channels, max_steps, channels}
use Rattle.numbers.specs.Numbers.{refused_default}
use Rattle.list.specs.Questions.{ask, count_allowed, channels_allowed, judge_list}
use Rattle.list.proofs.Channels.{channels_length}
use Rattle.list.proofs.Tables.{table_length}
use Rattle.list.proofs.Asking.{passed}
use Rattle.list.proofs.Acceptance.{list_accepted, held_accepted}
use Rattle.plan.specs.Plans.{Planned}
use Rattle.plan.specs.declared.Steps.{Steps}
use Rattle.plan.specs.Steps as S
use Rattle.plan.specs.Version.{is_version, rule_of}
use Rattle.plan.specs.Default.{meta_count, default_steps}
use Rattle.plan.specs.Plans.{judge_form, has_other, meant, meant_allowed, judge_meant, judge_plan, judge_steps, outcome, ran, rewritten, offer, judge_meaning, meant_steps}
use Rattle.plan.proofs.Packed.{packed_count, steps_packed}
use Rattle.plan.proofs.Runs.{none_refused, plan_accepted}

-- ---- an answer beside steps
offer_answer : (a : ℕ) (s : Steps) → (offer a s).answer ≡ a
offer_answer a s = go (eqb a 0) refl
  where
    go : (b : Bool) → eqb a 0 ≡ b → (cond {A = Planned} b (record { answer = 0; steps = s }) (record { answer = a; steps = S.packed [] })).answer ≡ a
    go true e = sym (eqb-true a 0 e)
    go false e = refl

-- ---- no steps and some
pub no_steps : (ss : List Step) → length ss ≡ 0 → ss ≡ []
no_steps [] h = refl
no_steps (x ∷ ss) h = absurd (omega arith)

pub steps_meant : (version : ℕ) (ss : List Step) (cs : List Channel) → (length ss ≡ 0 → ⊥) → (meant_allowed ss cs ≡ true) × (meant version ss cs ≡ ss)
unfolding meant_allowed meant
steps_meant version [] cs h = absurd (h refl)
steps_meant version (x ∷ ss) cs h = (refl, refl)

pub steps_length : (s : Steps) → length (S.steps s) ≡ min s.count max_steps
unfolding S.steps
steps_length s = table_length (S.step_at s) 0 _

-- ---- a list and a plan of a version
module _ (version : ℕ) (l : ChannelList) (s : Steps) where
  pub form_accepted : judge_form version l s ≡ 0 → (judge_list l ≡ 0) × (s.count ≤ max_steps) × (is_version version ≡ true)
  unfolding judge_list judge_form
  form_accepted ok =
      let p₃ = passed (count_allowed l.count && leb s.count max_steps) _ _ ok in
      let p₄ = passed (channels_allowed (channels l) && (all S.flags_allowed (S.all_flags s) && is_version version)) _ _ p₃.1 in
      let b₃ = (and-eq-true_iff (count_allowed l.count) (leb s.count max_steps)).0 p₃.0 in
      let b₄ = (and-eq-true_iff (channels_allowed (channels l)) (all S.flags_allowed (S.all_flags s) && is_version version)).0 p₄.0 in
      let v = (and-eq-true_iff (all S.flags_allowed (S.all_flags s)) (is_version version)).0 b₄.1 in
      (rw (b₃.0, b₄.0) p₄.1, leb-true s.count max_steps b₃.1, v.1)

  -- the steps that arrays hold, by their count
  none : s.count ≡ 0 → S.steps s ≡ []
  none z = no_steps (S.steps s) (omega (arith, steps_length s))

  some : judge_form version l s ≡ 0 → (s.count ≡ 0 → ⊥) → (meant_allowed (S.steps s) (channels l) ≡ true) × (meant version (S.steps s) (channels l) ≡ S.steps s)
  some ok h = steps_meant version (S.steps s) (channels l) (λ z. h (omega (arith, steps_length s, (form_accepted ok).1)))

  -- ---- the steps that are meant, from the answer a to questions 3 to 5
  module _ (a : ℕ) (ea : a ≡ judge_form version l s) where
    pub meant_refused : (e : Steps) → (a ≡ 0 → ⊥) → e ≡ S.packed [] → record { answer = a; steps = e } ≡ meant_steps version l s
    unfolding meant_steps judge_meaning
    meant_refused e h ee = rw (← ea, ne_eqb a 0 h, ne_eqb a 0 h, ee)

    module _ (ok : a ≡ 0) where
      pub meant_given : (s.count ≡ 0 → ⊥) → record { answer = 0; steps = s } ≡ meant_steps version l s
      unfolding meant_steps judge_meaning
      meant_given h = rw (← ea, eq-eqb a 0 ok, (some (sym ea ∙ ok) h).0, ne_eqb s.count 0 h)

      -- no steps: m is the count of meta channels, d the default plan or no step
      module _ (z : s.count ≡ 0) (m : ℕ) (d : Steps) (em : m ≡ meta_count (channels l)) where
        long : length (channels l) ≡ min l.count max_channels
        long = channels_length l

        pub meant_none : min l.count max_channels ≤ m → d ≡ S.packed [] → record { answer = 11; steps = d } ≡ meant_steps version l s
        unfolding meant_steps judge_meaning meant_allowed has_other
        meant_none h ed = rw (← ea, eq-eqb a 0 ok, none z, long, ← em, le-ltb m (min l.count max_channels) h, ed)

        pub meant_default : m < min l.count max_channels → d ≡ S.packed (default_steps (rule_of version) (channels l)) → record { answer = 0; steps = d } ≡ meant_steps version l s
        unfolding meant_steps judge_meaning meant_allowed has_other
        meant_default h ed = rw (← ea, eq-eqb a 0 ok, none z, long, ← em, lt-ltb m (min l.count max_channels) h, eq-eqb s.count 0 z, ed)

  -- ---- and the list that they leave
  -- questions 3 to 11 are 3 to 6, then 7 to 11 of the steps that are meant
  pub plan_meaning : judge_plan version l s ≡ ask (eqb (judge_meaning version l s) 0) (judge_meaning version l s) (judge_steps (meant version (S.steps s) (channels l)) (channels l))
  unfolding judge_plan judge_meaning judge_meant
  plan_meaning = go (eqb (judge_form version l s) 0) (meant_allowed (S.steps s) (channels l)) refl
    where
      after : ℕ
      after = judge_steps (meant version (S.steps s) (channels l)) (channels l)

      go : (f m : Bool) → eqb (judge_form version l s) 0 ≡ f
          → ask f (judge_form version l s) (ask m refused_default after)
          ≡ ask (eqb (ask f (judge_form version l s) (ask m refused_default 0)) 0) (ask f (judge_form version l s) (ask m refused_default 0)) after
      go true true e = refl
      go true false e = refl
      go false m e = rw e

  pub meaning_accepted : judge_meaning version l s ≡ 0 → (judge_form version l s ≡ 0) × (meant_allowed (S.steps s) (channels l) ≡ true)
  unfolding judge_meaning
  meaning_accepted ok =
      let n = none_refused (judge_form version l s) _ ok in
      (n.0, (passed (meant_allowed (S.steps s) (channels l)) _ _ n.1).0)

  -- p is what `meant_steps` gave
  module _ (p : Planned) (ep : p ≡ meant_steps version l s) where
    pub meaning_answer : p.answer ≡ judge_meaning version l s
    unfolding meant_steps
    meaning_answer = ap (λ (x : Planned). x.answer) ep ∙ offer_answer (judge_meaning version l s) _

    pub meaning_steps : judge_meaning version l s ≡ 0 → p.steps.count ≤ max_steps → S.steps p.steps ≡ meant version (S.steps s) (channels l)
    unfolding meant_steps meant
    meaning_steps ok room = by s.count refl
      where
        given : p.steps ≡ cond (eqb s.count 0) (S.packed (default_steps (rule_of version) (channels l))) s
        given = ap (λ (x : Planned). x.steps) ep ∙ rw ok

        by : (n : ℕ) → s.count ≡ n → S.steps p.steps ≡ meant version (S.steps s) (channels l)
        by zero z =
            let packs : p.steps ≡ S.packed (default_steps (rule_of version) (channels l)) = given ∙ rw z in
            let n = packed_count p.steps (default_steps (rule_of version) (channels l)) packs in
            ap S.steps packs ∙ steps_packed (default_steps (rule_of version) (channels l)) (omega arith) ∙ sym (rw (none z))
        by (suc n) z =
            let h : s.count ≡ 0 → ⊥ = λ e. absurd (omega arith) in
            ap S.steps (given ∙ rw (ne_eqb s.count 0 h)) ∙ sym (some (meaning_accepted ok).0 h).1

    pub rewritten_refused : (p.answer ≡ 0 → ⊥) → record { answer = p.answer; list = l } ≡ rewritten version l s
    unfolding rewritten outcome
    rewritten_refused h =
        let e = meaning_answer in
        let n = ne_eqb p.answer 0 h in
        rw (plan_meaning, ← e, n, n)

    pub rewritten_run : (r : Stepped) → p.answer ≡ 0 → p.steps.count ≤ max_steps → r ≡ ran (S.steps p.steps) l → r ≡ rewritten version l s
    unfolding rewritten ran
    rewritten_run r h room er =
        let ok = sym meaning_answer ∙ h in
        er ∙ rw (plan_meaning, ok, meaning_steps ok room)

-- ---- an accepted plan leaves an accepted list
pub outcome_answer : (a : ℕ) (l r : ChannelList) → (outcome a l r).answer ≡ a
unfolding outcome
outcome_answer a l r = go (eqb a 0) refl
  where
    go : (b : Bool) → eqb a 0 ≡ b → (cond {A = Stepped} b (record { answer = 0; list = r }) (record { answer = a; list = l })).answer ≡ a
    go true e = sym (eqb-true a 0 e)
    go false e = refl

outcome_list : (a : ℕ) (l r : ChannelList) → a ≡ 0 → (outcome a l r).list ≡ r
unfolding outcome
outcome_list a l r e = rw (eq-eqb a 0 e)

pub rewritten_accepted : (version : ℕ) (l : ChannelList) (s : Steps) → (rewritten version l s).answer ≡ 0 → judge_list (rewritten version l s).list ≡ 0
unfolding rewritten judge_plan judge_meant
rewritten_accepted version l s h =
    let none : judge_plan version l s ≡ 0 = sym (outcome_answer (judge_plan version l s) l _) ∙ h in
    let p = none_refused (judge_form version l s) (judge_meant version (S.steps s) (channels l)) none in
    let m = passed (meant_allowed (S.steps s) (channels l)) _ _ p.1 in
    let ok = list_accepted l (form_accepted version l s p.0).0 in
    ap judge_list (outcome_list (judge_plan version l s) l _ none)
    ∙ held_accepted _ _ (plan_accepted (meant version (S.steps s) (channels l)) (channels l) ok m.1)

-- the list that the steps that are meant leave, or the refusal
pub ruleset meanings = (rewritten_refused, rewritten_run)
