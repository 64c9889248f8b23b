-- Steps one after the other (`judge_steps`, `stepped_all` and `origins_all` of specs/Plans.antt): the steps of two plans joined, the sample total, which
-- stays, and an accepted plan, which leaves an accepted list with an origin for each channel, and one without meta channels where there was none. Assumes
-- nothing.
use mathlib.Core.Bool.{Bool, true, false}
use mathlib.Core.Path.{◌≡◌, refl, ◌∙◌}
use mathlib.Core.List.{List, [], ◌∷◌, ◌++◌}
use Prim.Native.Nat.{ℕ}
use native.Mathlib.Omega.{arith}
use lib.Dec.{eqb}
use lib.ListN.{length}
use Rattle.channel.specs.declared.Channel.{Channel}
use Rattle.list.specs.declared.Step.{Step}
use Rattle.list.specs.Lists.{stepped, stepped_origins, total}
use Rattle.list.specs.Questions.{ask, no_meta, judge_step}
use Rattle.list.specs.Accepted.{Accepted}
pub use Rattle.list.proofs.Asking.{none_refused}
use Rattle.list.proofs.Channels.{own_length}
use Rattle.list.proofs.Acceptance.{allowed_both, step_accepted}
use Rattle.list.proofs.Entries.{stepped_length, origins_stepped}
use Rattle.list.proofs.Totals.{stepped_total}
use Rattle.list.proofs.Kept.{stepped_allowed, stepped_plain}
use Rattle.plan.specs.Plans.{judge_steps, stepped_all, origins_all, origins_left}

-- ---- two plans joined: the second is judged on the list that the first one leaves
pub stepped_append : (ss ts : List Step) (cs : List Channel) → stepped_all (ss ++ ts) cs ≡ stepped_all ts (stepped_all ss cs)
stepped_append [] ts cs = refl
stepped_append (s ∷ ss) ts cs = stepped_append ss ts (stepped s cs)

pub judge_append : (ss ts : List Step) (cs : List Channel)
    → judge_steps (ss ++ ts) cs ≡ ask (eqb (judge_steps ss cs) 0) (judge_steps ss cs) (judge_steps ts (stepped_all ss cs))
judge_append [] ts cs = refl
judge_append (s ∷ ss) ts cs = go (eqb (judge_step s cs) 0) refl (judge_append ss ts (stepped s cs))
  where
    go : (t : Bool) → eqb (judge_step s cs) 0 ≡ t
        → judge_steps (ss ++ ts) (stepped s cs)
        ≡ ask (eqb (judge_steps ss (stepped s cs)) 0) (judge_steps ss (stepped s cs)) (judge_steps ts (stepped_all ss (stepped s cs)))
        → judge_steps (s ∷ ss ++ ts) cs ≡ ask (eqb (judge_steps (s ∷ ss) cs) 0) (judge_steps (s ∷ ss) cs) (judge_steps ts (stepped_all (s ∷ ss) cs))
    go true e h = rw e h
    go false e h = rw (e, e)

-- ---- the samples stay
pub steps_total : (ss : List Step) (cs : List Channel) → total (stepped_all ss cs) ≡ total cs
steps_total [] cs = refl
steps_total (s ∷ ss) cs = steps_total ss (stepped s cs) ∙ stepped_total s cs

-- ---- an accepted plan
pub plan_accepted : (ss : List Step) (cs : List Channel) → Accepted cs → judge_steps ss cs ≡ 0 → Accepted (stepped_all ss cs)
plan_accepted [] cs ok h = ok
plan_accepted (s ∷ ss) cs ok h =
    let a = none_refused (judge_step s cs) (judge_steps ss (stepped s cs)) h in
    plan_accepted ss (stepped s cs) (stepped_allowed s cs (step_accepted s cs a.0) ok) a.1

-- as many origins as channels
origins_all_lem : (ss : List Step) (cs : List Channel) (os : List ℕ) → length os ≡ length cs → judge_steps ss cs ≡ 0 → length (origins_all ss os) ≡ length (stepped_all ss cs)
origins_all_lem [] cs os e h = e
origins_all_lem (s ∷ ss) cs os e h =
    let a = none_refused (judge_step s cs) (judge_steps ss (stepped s cs)) h in
    let i = (step_accepted s cs a.0).inside in
    origins_all_lem ss (stepped s cs) (stepped_origins s os) (omega (arith, origins_stepped s os (omega arith), stepped_length s cs i)) a.1

pub origins_left_lem : (ss : List Step) (cs : List Channel) → judge_steps ss cs ≡ 0 → length (origins_left ss cs) ≡ length (stepped_all ss cs)
origins_left_lem ss cs h = origins_all_lem ss cs _ (own_length (length cs)) h

pub plan_plain : (ss : List Step) (cs : List Channel) → Accepted cs → judge_steps ss cs ≡ 0 → no_meta cs ≡ true → no_meta (stepped_all ss cs) ≡ true
plan_plain [] cs ok h n = n
plan_plain (s ∷ ss) cs ok h n =
    let a = none_refused (judge_step s cs) (judge_steps ss (stepped s cs)) h in
    let t = step_accepted s cs a.0 in
    let shifts = (allowed_both cs ok.allowed).0 in
    plan_plain ss (stepped s cs) (stepped_allowed s cs t ok) a.1 (stepped_plain s cs t shifts n)
