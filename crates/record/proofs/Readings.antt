-- What `read_record` gives (specs/Records.antt): its answer, and of a record that is accepted the version, the list and the steps that its fields hold, which the
-- questions accept. Assumes nothing.
use mathlib.Core.Path.{◌≡◌, refl, sym, ap, ◌∙◌}
use mathlib.Core.Bool.{Bool, true, false}
use mathlib.Core.List.{List}
use Prim.Native.Nat.{ℕ, ◌≤◌}
use native.Mathlib.Omega.{arith}
use lib.Dec.{eqb}
use lib.ListN.{length}
use borrow.Author.Tests.{eqb-true}
use Rattle.list.specs.declared.ChannelList.{ChannelList}
use Rattle.list.specs.Lists as Lists
use Rattle.list.specs.Lists.{max_steps, channels}
use Rattle.list.specs.Accepted.{Accepted}
use Rattle.list.proofs.Packed.{channels_packed}
use Rattle.list.proofs.Acceptance.{list_accepted}
use Rattle.plan.specs.Steps as S
use Rattle.plan.specs.Steps.{steps}
use Rattle.plan.specs.Plans.{judge_plan, judge_steps}
use Rattle.plan.proofs.Runs.{none_refused}
use Rattle.plan.proofs.Packed.{packed_count, steps_packed}
use Rattle.plan.proofs.Judged.{judged_list, judged_counts, meant_judged}
use Rattle.plan.proofs.Longest.{meant_few}
use Rattle.record.specs.Told.{Record}
use Rattle.record.specs.Reading.{form_of}
use Rattle.record.specs.Records as R
use Rattle.record.specs.Records.{read_answer, read_of, version_of, channels_of, steps_of}

module _ (bytes : List ℕ) (f : Record) (e : f ≡ read_of bytes) where
  pub read_answer_lem : f.answer ≡ read_answer bytes
  unfolding R.read_of
  read_answer_lem = ap (λ (x : Record). x.answer) e ∙ go (eqb (read_answer bytes) 0) refl
    where
      go : (b : Bool) → eqb (read_answer bytes) 0 ≡ b → (read_of bytes).answer ≡ read_answer bytes
      go true t = rw t (sym (eqb-true (read_answer bytes) 0 t))
      go false t = rw t

  -- a record that is accepted
  module _ (z : f.answer ≡ 0) where
    pub read_zero : read_answer bytes ≡ 0
    read_zero = sym read_answer_lem ∙ z

    pub version_is : f.version ≡ version_of bytes
    unfolding R.read_of
    version_is = ap (λ (x : Record). x.version) e ∙ rw read_zero

    list_is : f.list ≡ Lists.packed (form_of bytes).channels
    unfolding R.read_of
    list_is = ap (λ (x : Record). x.list) e ∙ rw read_zero

    steps_is : f.steps ≡ S.packed (form_of bytes).steps
    unfolding R.read_of
    steps_is = ap (λ (x : Record). x.steps) e ∙ rw read_zero

    pub read_judged : judge_plan f.version f.list f.steps ≡ 0
    unfolding R.read_answer
    read_judged = rw (version_is, list_is, steps_is) (none_refused (form_of bytes).answer _ read_zero).1

    pub list_back : channels f.list ≡ (form_of bytes).channels
    unfolding Lists.holding
    list_back =
        ap channels list_is
        ∙ channels_packed (form_of bytes).channels (omega (arith, ap (λ (x : ChannelList). x.count) list_is, (judged_counts f.version f.list f.steps read_judged).0))

    pub steps_back : steps f.steps ≡ (form_of bytes).steps
    steps_back =
        ap steps steps_is
        ∙ steps_packed (form_of bytes).steps (omega (arith, packed_count f.steps (form_of bytes).steps steps_is, (judged_counts f.version f.list f.steps read_judged).1))

-- a record that is accepted: its channels and the steps that are meant
module _ (bytes : List ℕ) (z : read_answer bytes ≡ 0) where
  read_ok : (read_of bytes).answer ≡ 0
  read_ok = read_answer_lem bytes (read_of bytes) refl ∙ z

  pub channels_accepted : Accepted (channels_of bytes)
  channels_accepted =
      rw (list_back bytes (read_of bytes) refl read_ok) at
      (list_accepted (read_of bytes).list (judged_list (read_of bytes).version (read_of bytes).list (read_of bytes).steps (read_judged bytes (read_of bytes) refl read_ok)))

  pub steps_few : length (steps_of bytes) ≤ max_steps
  steps_few =
      rw (version_is bytes (read_of bytes) refl read_ok, list_back bytes (read_of bytes) refl read_ok, steps_back bytes (read_of bytes) refl read_ok) at
      (meant_few (read_of bytes).version (read_of bytes).list (read_of bytes).steps (read_judged bytes (read_of bytes) refl read_ok))

  pub steps_judged : judge_steps (steps_of bytes) (channels_of bytes) ≡ 0
  steps_judged =
      rw (version_is bytes (read_of bytes) refl read_ok, list_back bytes (read_of bytes) refl read_ok, steps_back bytes (read_of bytes) refl read_ok) at
      (meant_judged (read_of bytes).version (read_of bytes).list (read_of bytes).steps (read_judged bytes (read_of bytes) refl read_ok))
