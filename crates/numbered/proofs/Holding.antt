-- Steps held to 16 bits (`held` of specs/Arrays.antt) have the answers of the steps themselves: question 7 refuses a first channel or a number past 16
-- bits in a list of at most 256 channels, held or not, and leaves no such list longer. Assumes nothing.
use mathlib.Core.Path.{◌≡◌, refl, sym, ◌∙◌}
use mathlib.Core.Bool.{Bool, true, false, ◌&&◌, and-false, and-eq-true_iff, true≢false}
use mathlib.Core.List.{List, [], ◌∷◌}
use Prim.Native.Nat.{ℕ, ◌+◌, ◌<◌, ◌≤◌}
use native.Mathlib.Omega.{arith}
use lib.Dec.{eqb, leb}
use lib.ListN.{length}
use borrow.Author.Tests.{eqb-true, leb-true, leb-false, lt-leb}
use Rattle.numbers.specs.Numbers.{refused_range}
use Rattle.channel.specs.declared.Channel.{Channel}
use Rattle.list.specs.declared.Step.{Step}
use Rattle.list.specs.Tables.{map}
use Rattle.list.specs.Lists.{max_channels, stepped}
use Rattle.list.specs.Questions as Q
use Rattle.list.specs.Questions.{judge_step}
use Rattle.list.proofs.Asking.{none_refused}
use Rattle.list.proofs.Acceptance.{step_accepted}
use Rattle.list.proofs.Entries.{stepped_length}
use Rattle.plan.specs.Plans as P
use Rattle.plan.specs.Plans.{judge_steps, judge_meant}
use Rattle.numbered.specs.Arrays.{max_entry, held}
use Rattle.numbered.proofs.Arrays.{over}

abbrev held_step : Step → Step
held_step s = over held s

-- ---- one step
held_same : (s : Step) → s.begin ≤ max_entry → s.number ≤ max_entry → held_step s ≡ s
held_same s b n =
    let eb : held s.begin ≡ s.begin = omega arith in
    let en : held s.number ≡ s.number = omega arith in
    λ i. record { horizontal = s.horizontal; inplace = s.inplace; begin = eb i; number = en i }

past : (b n : ℕ) → (leb b max_entry && leb n max_entry) ≡ false → max_entry < b + n
past b n = go (leb b max_entry) (leb n max_entry) refl refl
  where
    go : (x y : Bool) → leb b max_entry ≡ x → leb n max_entry ≡ y → (x && y) ≡ false → max_entry < b + n
    go true true ex ey e = absurd (true≢false e)
    go true false ex ey e = omega (arith, leb-false n max_entry ey)
    go false y ex ey e = omega (arith, leb-false b max_entry ex)

module _ (cs : List Channel) where
  range_refused : (s : Step) → length cs < s.begin + s.number → judge_step s cs ≡ refused_range
  unfolding Q.judge_step Q.range_allowed
  range_refused s h = rw (lt-leb (s.begin + s.number) (length cs) h, and-false (leb 1 s.number))

  module _ (few : length cs ≤ max_channels) (s : Step) where
    step_held : judge_step (held_step s) cs ≡ judge_step s cs
    step_held = go (leb s.begin max_entry && leb s.number max_entry) refl
      where
        go : (t : Bool) → (leb s.begin max_entry && leb s.number max_entry) ≡ t → judge_step (held_step s) cs ≡ judge_step s cs
        go true e =
            let b = (and-eq-true_iff (leb s.begin max_entry) (leb s.number max_entry)).0 e in
            rw (held_same s (leb-true _ _ b.0) (leb-true _ _ b.1))
        go false e =
            let l = past s.begin s.number e in
            range_refused (held_step s) (omega arith) ∙ sym (range_refused s (omega arith))

    -- an accepted step fits, and so does the list that it leaves
    accepted_same : judge_step s cs ≡ 0 → held_step s ≡ s
    accepted_same z = let a = step_accepted s cs z in held_same s (omega (arith, a.inside)) (omega (arith, a.inside))

    accepted_few : judge_step s cs ≡ 0 → length (stepped s cs) ≤ max_channels
    accepted_few z = let a = step_accepted s cs z in omega (arith, stepped_length s cs a.inside, a.room)

-- ---- steps one after the other
steps_held : (ss : List Step) (cs : List Channel) → length cs ≤ max_channels → judge_steps (map held_step ss) cs ≡ judge_steps ss cs
steps_held [] cs few = refl
steps_held (s ∷ ss) cs few = go (eqb (judge_step s cs) 0) refl (λ l. steps_held ss (stepped s cs) l)
  where
    go : (t : Bool) → eqb (judge_step s cs) 0 ≡ t
        → (length (stepped s cs) ≤ max_channels → judge_steps (map held_step ss) (stepped s cs) ≡ judge_steps ss (stepped s cs))
        → judge_steps (map held_step (s ∷ ss)) cs ≡ judge_steps (s ∷ ss) cs
    go true e more =
        let z = eqb-true (judge_step s cs) 0 e in
        rw (accepted_same cs few s z, e) (more (accepted_few cs few s z))
    go false e more = rw (step_held cs few s, e)

steps_same : (ss : List Step) (cs : List Channel) → length cs ≤ max_channels → judge_steps ss cs ≡ 0 → map held_step ss ≡ ss
steps_same [] cs few h = refl
steps_same (s ∷ ss) cs few h =
    let b = none_refused (judge_step s cs) (judge_steps ss (stepped s cs)) h in
    rw (accepted_same cs few s b.0, steps_same ss (stepped s cs) (accepted_few cs few s b.0) b.1)

-- ---- the steps that are meant
pub meant_held : (version : ℕ) (ss : List Step) (cs : List Channel) → length cs ≤ max_channels → judge_meant version (map held_step ss) cs ≡ judge_meant version ss cs
unfolding P.judge_meant P.meant_allowed P.meant
meant_held version [] cs few = refl
meant_held version (s ∷ ss) cs few = steps_held (s ∷ ss) cs few

pub meant_same : (version : ℕ) (ss : List Step) (cs : List Channel) → length cs ≤ max_channels → judge_meant version ss cs ≡ 0 → map held_step ss ≡ ss
unfolding P.judge_meant P.meant_allowed P.meant
meant_same version [] cs few h = refl
meant_same version (s ∷ ss) cs few h = steps_same (s ∷ ss) cs few h
