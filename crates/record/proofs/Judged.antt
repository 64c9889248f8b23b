-- A list and steps that questions 3 to 11 accept are accepted with their unused entries 0 too. Rests on what crate plan says of the answer 0.
use mathlib.Core.Path.{◌≡◌, refl}
use mathlib.Core.Bool.{Bool, true, false, and-eq-true_iff}
use mathlib.Core.List.{List}
use Prim.Native.Nat.{ℕ, zero, suc, ◌+◌, ◌<◌, ◌≤◌, min}
use native.Mathlib.Omega.{arith}
use lib.ListN.{length, get_or}
use borrow.Author.Tests.{le-leb}
use Rattle.list.specs.declared.ChannelList.{ChannelList}
use Rattle.list.specs.declared.Step.{Step}
use Rattle.list.specs.Tables.{table, padded, map, all}
use Rattle.list.specs.Lists as Lists
use Rattle.list.specs.Lists.{max_steps, channels}
use Rattle.list.specs.Questions as Q
use Rattle.list.specs.Questions.{count_allowed, channels_allowed, total_allowed, judge_list}
use Rattle.list.proofs.Acceptance.{list_accepted, packed_accepted}
use Rattle.list.proofs.Asking.{passed}
use Rattle.list.proofs.Maps.{map_default}
use Rattle.list.proofs.Filled.{padded_at}
use Rattle.list.proofs.Packed.{channels_packed}
use Rattle.plan.specs.declared.Steps.{Steps}
use Rattle.plan.specs.Steps as S
use Rattle.plan.specs.Steps.{flags_of, flags_allowed}
use Rattle.plan.specs.Plans as P
use Rattle.plan.specs.Plans.{judge_form, judge_plan}
use Rattle.plan.proofs.Packed.{packed_count, steps_packed}
use Rattle.plan.proofs.Judged.{judged_version, judged_parts, judged_list, steps_few}
use Rattle.record.proofs.Flags.{flags_allowed_lem}

all_entries {ℓ} : {A : Type ℓ} (p : A → Bool) (f : ℕ → A) (n : ℕ) → ((i : ℕ) → i < n → p (f i) ≡ true) → (k m : ℕ) → k + m ≤ n → all p (table f k m) ≡ true
all_entries p f n h k zero l = refl
all_entries p f n h k (suc m) l = (and-eq-true_iff (p (f k)) (all p (table f (suc k) m))).1 (h k (omega arith), all_entries p f n h (suc k) m (omega arith))

-- a step's flags have no other bit
flags_fit : (ss : List Step) → all flags_allowed (S.all_flags (S.packed ss)) ≡ true
unfolding S.all_flags S.packed S.flags_of
flags_fit ss = all_entries flags_allowed _ max_steps entry 0 (min (length ss) max_steps) (omega arith)
  where
    none : Step
    none = record { horizontal = false; inplace = false; begin = 0; number = 0 }

    entry : (i : ℕ) → i < max_steps → flags_allowed (get_or (padded max_steps (map flags_of ss)) i 0) ≡ true
    entry i h = rw (padded_at max_steps (map flags_of ss) i h, map_default flags_of ss i none) (flags_allowed_lem (get_or ss i none))

-- the same list and steps, unused entries 0
module _ (version : ℕ) (l : ChannelList) (s : Steps) (h : judge_plan version l s ≡ 0) where
  pub judged_packed : judge_plan version (Lists.packed (channels l)) (S.packed (S.steps s)) ≡ 0
  unfolding P.judge_plan P.judge_form Q.judge_list
  judged_packed =
      let a = list_accepted l (judged_list version l s h) in
      let few = steps_few version l s h in
      let p₃ = passed (count_allowed (Lists.packed (channels l)).count) _ _ (packed_accepted (channels l) a) in
      let p₄ = passed (channels_allowed (channels (Lists.packed (channels l)))) _ _ p₃.1 in
      let p₅ = passed (total_allowed (channels (Lists.packed (channels l)))) _ _ p₄.1 in
      let n : (S.packed (S.steps s)).count ≤ max_steps = omega (arith, few, packed_count (S.packed (S.steps s)) (S.steps s) refl) in
      rw (
        p₃.0,
        le-leb (S.packed (S.steps s)).count max_steps n,
        p₄.0,
        flags_fit (S.steps s),
        judged_version version l s h,
        p₅.0,
        steps_packed (S.steps s) few,
        channels_packed (channels l) a.few,
      ) (judged_parts version l s h).1
