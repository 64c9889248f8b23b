-- "A step taken by a list gives the next list": the answer of `step_answer`, what `taken_on` is by the step's questions, and `taken` by the list's
-- before them. Assumes nothing.
use mathlib.Core.Path.{◌≡◌, refl, sym, ap, ◌∙◌}
use mathlib.Core.Bool.{Bool, true, false}
use lib.Dec.{eqb}
use borrow.Author.Tests.{eq-eqb, ne_eqb, eqb-true, eqb-false}
use Rattle.list.specs.declared.ChannelList.{ChannelList}
use Rattle.list.specs.declared.Step.{Step}
use Rattle.list.specs.Lists.{channels, next_list}
use Rattle.list.specs.Questions.{judge_list, judge_step, step_answer, Stepped, taken, taken_on}

module _ (s : Step) (l : ChannelList) where
  -- ---- the answer: the list's, then the step's
  pub list_answer_lem : (judge_list l ≡ 0 → ⊥) → step_answer s l ≡ judge_list l
  unfolding step_answer
  list_answer_lem h = rw (ne_eqb (judge_list l) 0 h)

  pub step_answer_lem : judge_list l ≡ 0 → step_answer s l ≡ judge_step s (channels l)
  unfolding step_answer
  step_answer_lem z = rw (eq-eqb (judge_list l) 0 z)

  -- ---- what is taken by the step's questions alone
  pub on_refused : (judge_step s (channels l) ≡ 0 → ⊥) → taken_on s l ≡ record { answer = judge_step s (channels l); list = l }
  unfolding taken_on
  on_refused h = rw (ne_eqb (judge_step s (channels l)) 0 h)

  pub on_taken : judge_step s (channels l) ≡ 0 → taken_on s l ≡ record { answer = 0; list = next_list s l }
  unfolding taken_on
  on_taken h = rw (eq-eqb (judge_step s (channels l)) 0 h)

  pub on_answer : (taken_on s l).answer ≡ judge_step s (channels l)
  on_answer = go (eqb (judge_step s (channels l)) 0) refl
    where
      go : (b : Bool) → eqb (judge_step s (channels l)) 0 ≡ b → (taken_on s l).answer ≡ judge_step s (channels l)
      go true h = let z = eqb-true (judge_step s (channels l)) 0 h in ap (λ (t : Stepped). t.answer) (on_taken z) ∙ sym z
      go false h = ap (λ (t : Stepped). t.answer) (on_refused (eqb-false (judge_step s (channels l)) 0 h))

  -- ---- what is taken by the list's questions, then the step's
  pub list_refused : (judge_list l ≡ 0 → ⊥) → taken s l ≡ record { answer = judge_list l; list = l }
  unfolding taken
  list_refused h = rw (list_answer_lem h, ne_eqb (judge_list l) 0 h)

  pub list_passed : judge_list l ≡ 0 → taken s l ≡ taken_on s l
  unfolding taken taken_on
  list_passed z = rw (step_answer_lem z)

  pub step_taken : judge_list l ≡ 0 → judge_step s (channels l) ≡ 0 → taken s l ≡ record { answer = 0; list = next_list s l }
  step_taken z h = list_passed z ∙ on_taken h

  -- the same by the answer
  pub taken_refused : (step_answer s l ≡ 0 → ⊥) → taken s l ≡ record { answer = step_answer s l; list = l }
  unfolding taken
  taken_refused h = rw (ne_eqb (step_answer s l) 0 h)

  pub taken_next : step_answer s l ≡ 0 → taken s l ≡ record { answer = 0; list = next_list s l }
  unfolding taken
  taken_next h = rw (eq-eqb (step_answer s l) 0 h)
