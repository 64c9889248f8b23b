-- The plan run's three outcomes and their marks (specs/Rebuild.antt): refused by questions 3 to 11, refused by question 14, and done with the steps that
-- are meant. Assumes nothing.
use mathlib.Core.Path.{◌≡◌, sym, ◌∙◌}
use mathlib.Core.Bool.{Bool, true, false, ◌&&◌, and-eq-true_iff}
use mathlib.Core.List.{List}
use Prim.Native.Nat.{ℕ, ◌≤◌}
use borrow.Author.Tests.{eq-eqb, ne_eqb, eqb-true}
use lib.Dec.{eqb}
use lib.IntN.{ℤ}
use lib.ListN.{length}
use Rattle.range.proofs.Told.{nothing}
use Rattle.list.specs.declared.ChannelList.{ChannelList}
use Rattle.list.specs.Lists.{max_steps, channels, total}
use Rattle.list.specs.Questions.{counted_total}
use Rattle.list.proofs.Acceptance.{list_accepted}
use Rattle.plan.specs.Plans.{Planned}
use Rattle.plan.specs.declared.Steps.{Steps}
use Rattle.plan.specs.Steps as S
use Rattle.plan.specs.Plans.{meant, meant_steps, judge_plan}
use Rattle.plan.proofs.Judged.{judged_list, judged_total, meant_judged, meant_is}
use Rattle.buffer.specs.Buffer.{zeros}
use Rattle.buffer.proofs.Overwritten.{zeros_same}
use Rattle.runs.specs.Runs.{rebuilt}
use Rattle.runs.specs.Marks.{run_marked}
use Rattle.rebuild.specs.Rebuild.{slices_fit, answer_of, picture_after, work_after, mark}
use Rattle.rebuild.specs.Run.{RunFits}

-- ---- the steps that are meant, in an accepted plan
module _ (version : ℕ) (l : ChannelList) (s : Steps) (ok : judge_plan version l s ≡ 0) (r : Planned) (er : r ≡ meant_steps version l s) (room : r.steps.count ≤ max_steps) where
  steps_are : S.steps r.steps ≡ meant version (S.steps s) (channels l)
  steps_are = meant_is version l s ok r er room

  pub run_fits : (pyramid : List ℤ) → length pyramid ≡ total (channels l) → RunFits l r.steps pyramid
  run_fits pyramid n =
      record {
        accepted = list_accepted l (judged_list version l s ok);
        taken = rw steps_are (meant_judged version l s ok);
        pyramid_long = n;
      }

  pub run_is : (pyramid ys : List ℤ) → ys ≡ rebuilt (S.steps r.steps) (channels l) pyramid → ys ≡ rebuilt (meant version (S.steps s) (channels l)) (channels l) pyramid
  run_is pyramid ys e = e ∙ rw steps_are

  pub run_marked_is : (marks : Bool) (pyramid : List ℤ) (b : Bool) → b ≡ (marks && run_marked (S.steps r.steps) (channels l) pyramid)
      → b ≡ (marks && run_marked (meant version (S.steps s) (channels l)) (channels l) pyramid)
  run_marked_is marks pyramid b e = e ∙ rw steps_are

-- ---- the outcomes
module _ (version : ℕ) (l : ChannelList) (s : Steps) (pyramid picture work : List ℤ) (marks : Bool) where
  -- an answer with both slices afterwards, and the mark
  abbrev pub Ends : ℕ → List ℤ → List ℤ → Bool → Type 0
  Ends a p w b =
      (a ≡ answer_of version l s pyramid picture work) × (p ≡ picture_after version l s pyramid picture work) × (w ≡ work_after version l s pyramid picture work)
      × (b ≡ (marks && mark version l s pyramid picture work))

  module _ (a : ℕ) (ea : a ≡ judge_plan version l s) where
    pub ends_refused : (a ≡ 0 → ⊥) → Ends a picture work false
    unfolding answer_of picture_after work_after mark
    ends_refused h =
        let e = ne_eqb a 0 h in
        (rw (← ea, e), rw (← ea, e, e), rw (← ea, e, e), rw (← ea, e, e) (nothing marks))

    module _ (ok : a ≡ 0) (all : ℕ) (ec : all ≡ counted_total (channels l)) where
      -- the list is accepted, so its samples are counted to the last
      et : all ≡ total (channels l)
      et = ec ∙ judged_total version l s (sym ea ∙ ok)

      fitting : (b : Bool) → eqb (length pyramid) all && (eqb (length picture) all && eqb (length work) all) ≡ b → slices_fit l pyramid picture work ≡ b
      unfolding slices_fit
      fitting b e = rw et at e

      pub ends_misfit : eqb (length pyramid) all && (eqb (length picture) all && eqb (length work) all) ≡ false → Ends 12 picture work false
      unfolding answer_of picture_after work_after mark
      ends_misfit h =
          let e = eq-eqb (judge_plan version l s) 0 (sym ea ∙ ok) in
          let f = fitting false h in
          (rw (e, f), rw (e, f), rw (e, f), rw (e, f) (nothing marks))

      module _ (fit : eqb (length pyramid) all && (eqb (length picture) all && eqb (length work) all) ≡ true) where
        pub lengths : (length pyramid ≡ total (channels l)) × (length picture ≡ total (channels l)) × (length work ≡ total (channels l))
        lengths =
            let p = (and-eq-true_iff (eqb (length pyramid) all) _).0 fit in
            let q = (and-eq-true_iff (eqb (length picture) all) _).0 p.1 in
            (eqb-true _ _ p.0 ∙ et, eqb-true _ _ q.0 ∙ et, eqb-true _ _ q.1 ∙ et)

        pub ends_done : (used cleared last : List ℤ) → last ≡ rebuilt (meant version (S.steps s) (channels l)) (channels l) pyramid
            → length used ≡ length work → cleared ≡ zeros used → (b : Bool)
            → b ≡ (marks && run_marked (meant version (S.steps s) (channels l)) (channels l) pyramid) → Ends 0 last cleared b
        unfolding answer_of picture_after work_after mark
        ends_done used cleared last el eu ec b eb =
            let e = eq-eqb (judge_plan version l s) 0 (sym ea ∙ ok) in
            let f = fitting true fit in
            (rw (e, f), el ∙ rw (e, f), ec ∙ zeros_same used work eu ∙ rw (e, f), eb ∙ rw (e, f))
