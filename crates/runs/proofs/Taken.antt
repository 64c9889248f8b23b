-- A step of a list is taken or refused (`is_taken` of specs/Runs.antt): the two cases of an induction along the steps, and the range of a step that is
-- taken. Assumes nothing.
use mathlib.Core.Path.{◌≡◌}
use mathlib.Core.Bool.{true, false}
use mathlib.Core.List.{List}
use mathlib.Core.Logic.{◌⊎◌, inl, inr}
use Prim.Native.Nat.{◌+◌, ◌≤◌}
use borrow.Author.Tests.{eqb-true}
use lib.ListN.{length}
use Rattle.std.proofs.lemmas.Bool.{cases_Bool}
use Rattle.channel.specs.declared.Channel.{Channel}
use Rattle.list.specs.declared.Step.{Step}
use Rattle.list.specs.Questions.{judge_step}
use Rattle.list.proofs.Acceptance.{step_accepted}
use Rattle.runs.specs.Runs.{is_taken}

pub by_taken {ℓ} : {A : Type ℓ} (s : Step) (cs : List Channel) → (is_taken s cs ≡ true → A) → (is_taken s cs ≡ false → A) → A
by_taken {A = A} s cs taken refused = by (cases_Bool (is_taken s cs))
  where
    by : (is_taken s cs ≡ true) ⊎ (is_taken s cs ≡ false) → A
    by (inl t) = taken t
    by (inr t) = refused t

-- it lies inside the list
pub taken_inside : (s : Step) (cs : List Channel) → is_taken s cs ≡ true → s.begin + s.number ≤ length cs
taken_inside s cs t = (step_accepted s cs (eqb-true (judge_step s cs) 0 t)).inside
