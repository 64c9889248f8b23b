-- An accepted plan leaves the standard's list (specs/Standard.antt). Rests on the list crate's laws of what stands where after a step.
use mathlib.Core.Path.{◌≡◌, refl, ap, ◌∙◌}
use mathlib.Core.Bool.{Bool, true, false, cond}
use mathlib.Core.List.{List, [], ◌∷◌}
use Prim.Native.Nat.{ℕ, ◌+◌, ◌-◌, ◌<◌, ◌≤◌}
use native.Mathlib.Omega.{arith}
use lib.ListN.{length}
use Rattle.channel.specs.declared.Channel.{Channel}
use Rattle.channel.specs.Channel as C
use Rattle.channel.specs.Channel.{is_meta}
use Rattle.list.specs.declared.Step.{Step}
use Rattle.list.specs.Lists as L
use Rattle.list.specs.Lists.{average, residual, sided, halved, rest, raised, stepped}
use Rattle.list.specs.Questions.{channel_of, judge_step}
use Rattle.list.proofs.Acceptance.{step_accepted}
use Rattle.list.proofs.Entries.{residuals_at, stepped_length, entry_before, entry_average, entry_between, entry_residual, entry_after}
use Rattle.plan.specs.Plans.{judge_steps, stepped_all}
use Rattle.plan.specs.Standard.{along, Made, Average, Residual, StandardStep, StandardSteps}
use Rattle.plan.proofs.Runs.{none_refused}

-- ---- a channel: the side put through f, the shift raised
module _ (f : ℕ → ℕ) (c : Channel) where
  sided_made : (h m : Bool) → is_meta c ≡ m → Made h c (f (along h c)) (raised h (sided f h c))
  unfolding L.raised C.is_meta
  sided_made true true e = record { along_is = rw e refl; across_is = rw e refl; hshift_is = rw e refl; vshift_is = rw e refl }
  sided_made true false e = record { along_is = rw e refl; across_is = rw e refl; hshift_is = rw e refl; vshift_is = rw e refl }
  sided_made false true e = record { along_is = rw e refl; across_is = rw e refl; hshift_is = rw e refl; vshift_is = rw e refl }
  sided_made false false e = record { along_is = rw e refl; across_is = rw e refl; hshift_is = rw e refl; vshift_is = rw e refl }

average_made : (h : Bool) (c : Channel) → Average h c (average h c)
unfolding L.average
average_made h c = sided_made halved c h (is_meta c) refl

residual_made : (h : Bool) (c : Channel) → Residual h c (residual h c)
unfolding L.residual
residual_made h c = sided_made rest c h (is_meta c) refl

-- ---- a step
module _ (s : Step) (cs : List Channel) (inside : s.begin + s.number ≤ length cs) where
  behind_at : (i : Bool) → s.inplace ≡ i → (k : ℕ) → s.begin + s.number ≤ k → k < length cs
      → channel_of (stepped s cs) (cond i (k + s.number) k) ≡ channel_of cs k
  behind_at true e k l h =
      let z : k + s.number - s.number ≡ k = omega arith in
      entry_after s cs inside (k + s.number) (s.begin + s.number) (rw e refl) (omega arith) (omega arith) (omega arith) ∙ ap (channel_of cs) z
  behind_at false e k l h = (entry_between s cs inside k (length cs) (rw e refl) l h).1

  average_at_lem : (i : ℕ) → i < s.number → Average s.horizontal (channel_of cs (s.begin + i)) (channel_of (stepped s cs) (s.begin + i))
  average_at_lem i h = rw (entry_average s cs inside (s.begin + i) (omega arith) (omega arith)) (average_made s.horizontal (channel_of cs (s.begin + i)))

  within : (i : Bool) → s.begin + s.number ≤ cond i (s.begin + s.number) (length cs)
  within true = omega arith
  within false = inside

  residual_at_lem : (i : ℕ) → i < s.number → Residual s.horizontal (channel_of cs (s.begin + i)) (channel_of (stepped s cs) (residuals_at s cs + i))
  residual_at_lem i h =
      let w = within s.inplace in
      let z : residuals_at s cs + i - residuals_at s cs + s.begin ≡ s.begin + i = omega arith in
      rw (entry_residual s cs inside (residuals_at s cs + i) (residuals_at s cs) refl (omega arith) (omega arith) (omega arith) ∙ ap (λ (k : ℕ). residual s.horizontal (channel_of cs k)) z)
      (residual_made s.horizontal (channel_of cs (s.begin + i)))

  pub step_standard : StandardStep s cs (stepped s cs)
  step_standard =
      record {
        longer = stepped_length s cs inside;
        in_front = λ k h. entry_before s cs inside k h;
        averages = average_at_lem;
        residuals = residual_at_lem;
        behind = behind_at s.inplace refl;
      }

-- ---- a plan
pub list_standard : (ss : List Step) (cs : List Channel) → judge_steps ss cs ≡ 0 → StandardSteps ss cs (stepped_all ss cs)
list_standard [] cs h = refl
list_standard (s ∷ ss) cs h =
    let a = none_refused (judge_step s cs) (judge_steps ss (stepped s cs)) h in
    record {
      made = stepped s cs;
      first = step_standard s cs (step_accepted s cs a.0).inside;
      others = list_standard ss (stepped s cs) a.1;
    }
