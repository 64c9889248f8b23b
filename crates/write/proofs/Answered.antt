-- The four results of a call of the writer (specs/Write.antt) from the answers to its questions. Assumes nothing.
use mathlib.Core.Path.{◌≡◌, sym, ◌∙◌}
use mathlib.Core.Bool.{Bool, true, false, ◌&&◌, and-eq-true_iff}
use mathlib.Core.List.{List}
use Prim.Native.Nat.{ℕ, ◌≤◌}
use borrow.Author.Tests.{ne_eqb, eqb-true}
use lib.Dec.{eqb}
use lib.IntN.{ℤ}
use lib.ListN.{length}
use Rattle.std.proofs.Math.Bool.{and-false}
use Rattle.channel.specs.declared.Channel.{Channel}
use Rattle.list.specs.declared.ChannelList.{ChannelList}
use Rattle.list.specs.Lists.{max_steps, channels, total}
use Rattle.list.specs.Questions.{judge_list, counted_total}
use Rattle.plan.specs.declared.Steps.{Steps}
use Rattle.plan.specs.Steps.{steps}
use Rattle.plan.specs.Plans.{Planned, judge_plan, judge_steps, meant, meant_steps}
use Rattle.plan.proofs.Judged.{judged_list, judged_total, meant_judged, meant_is}
use Rattle.runs.specs.Runs.{squeezed}
use Rattle.runs.specs.Marks.{run_written_marked}
use Rattle.buffer.specs.Buffer.{zeros}
use Rattle.buffer.proofs.Overwritten.{zeros_same}
use Rattle.write.specs.Standing.{Alike}
use Rattle.write.specs.Write.{slices_fit, answer, written, cleared, mark}

-- ---- the slices
-- t is what `total` gave
pub fit_tested : (version : ℕ) (l : ChannelList) (s : Steps) → judge_plan version l s ≡ 0 → (t : ℕ) → t ≡ counted_total (channels l) → (picture pyramid work : List ℤ)
    → eqb (length picture) t && (eqb (length pyramid) t && eqb (length work) t) ≡ slices_fit (channels l) picture pyramid work
unfolding slices_fit
fit_tested version l s ok t e picture pyramid work = rw (e, judged_total version l s ok)

pub fit_lengths : (cs : List Channel) (picture pyramid work : List ℤ) → slices_fit cs picture pyramid work ≡ true
    → (length picture ≡ total cs) × (length pyramid ≡ total cs) × (length work ≡ total cs)
unfolding slices_fit
fit_lengths cs picture pyramid work e =
    let a = (and-eq-true_iff (eqb (length picture) (total cs)) (eqb (length pyramid) (total cs) && eqb (length work) (total cs))).0 e in
    let b = (and-eq-true_iff (eqb (length pyramid) (total cs)) (eqb (length work) (total cs))).0 a.1 in
    (eqb-true (length picture) (total cs) a.0, eqb-true (length pyramid) (total cs) b.0, eqb-true (length work) (total cs) b.1)

-- ---- the results
module _ (version : ℕ) (l : ChannelList) (s : Steps) (picture pyramid work : List ℤ) (marks : Bool) where
  abbrev Results : ℕ → List ℤ → List ℤ → Bool → Type 0
  Results n ys ws told =
      (n ≡ answer version l s picture pyramid work) × (ys ≡ written version l s picture pyramid work) × (ws ≡ cleared version l s picture pyramid work)
      × (told ≡ (marks && mark version l s picture pyramid work))

  pub plan_refused : (a : ℕ) → a ≡ judge_plan version l s → (a ≡ 0 → ⊥) → Results a pyramid work false
  unfolding answer written cleared mark
  plan_refused a e h =
      let n = ne_eqb a 0 h in
      (rw (← e, n), rw (← e, n, n), rw (← e, n, n), rw (← e, n, n) (sym (and-false marks)))

  -- a is the plan's answer, and t what `total` gave
  module _ (a : ℕ) (ea : a ≡ judge_plan version l s) (ok : a ≡ 0) (t : ℕ) (et : t ≡ counted_total (channels l)) where
    judged : judge_plan version l s ≡ 0
    judged = sym ea ∙ ok

    tested : eqb (length picture) t && (eqb (length pyramid) t && eqb (length work) t) ≡ slices_fit (channels l) picture pyramid work
    tested = fit_tested version l s judged t et picture pyramid work

    pub slices_refused : eqb (length picture) t && (eqb (length pyramid) t && eqb (length work) t) ≡ false → Results 12 pyramid work false
    unfolding answer written cleared mark
    slices_refused h =
        let e = judged in
        let f = sym tested ∙ h in
        (rw (e, f), rw (e, f), rw (e, f), rw (e, f) (sym (and-false marks)))

    -- m holds the steps that are meant
    module _ (h : eqb (length picture) t && (eqb (length pyramid) t && eqb (length work) t) ≡ true) (m : Planned) (em : m ≡ meant_steps version l s) (room : m.steps.count ≤ max_steps) where
      pub run_asks : (judge_list l ≡ 0) × (judge_steps (steps m.steps) (channels l) ≡ 0) × (length picture ≡ total (channels l)) × Alike picture pyramid work
      run_asks =
          let n = fit_lengths (channels l) picture pyramid work (sym tested ∙ h) in (
            judged_list version l s judged,
            rw (meant_is version l s judged m em room) (meant_judged version l s judged),
            n.0,
            record { odds_length = n.1 ∙ sym n.0; evens_length = n.2 ∙ sym n.0 },
          )

      pub accepted : (ys used ws : List ℤ) (told : Bool) → ys ≡ squeezed (steps m.steps) (channels l) picture → length used ≡ length work → ws ≡ zeros used
          → told ≡ (marks && run_written_marked (steps m.steps) (channels l) picture) → Results 0 ys ws told
      unfolding answer written cleared mark
      accepted ys used ws told ey eu ew ed =
          let e = judged in
          let f = sym tested ∙ h in
          let so = meant_is version l s judged m em room in
          let done : ys ≡ squeezed (meant version (steps s) (channels l)) (channels l) picture = rw so at ey in
          let marked : told ≡ (marks && run_written_marked (meant version (steps s) (channels l)) (channels l) picture) = rw so at ed in
          (rw (e, f), rw (e, f) done, rw (e, f) (ew ∙ zeros_same used work eu), rw (e, f) marked)
