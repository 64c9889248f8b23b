-- The text of before: a number below 100,000 has its digits in five places as in seven, so a plan on a list without a strip is listed as
-- before. Assumes nothing.
use mathlib.Core.Path.{◌≡◌, refl, ◌∙◌}
use mathlib.Core.Bool.{true, and-eq-true_iff}
use mathlib.Core.List.{List, [], ◌∷◌}
use Prim.Native.Nat.{ℕ, suc, ◌/◌, ◌<◌, ◌≤◌}
use native.Mathlib.Omega.{arith}
use lib.Dec.{ltb}
use lib.ListN.{length}
use borrow.Author.Tests.{ltb-false}
use Rattle.channel.specs.declared.Channel.{Channel}
use Rattle.channel.specs.Channel.{shifts_allowed}
use Rattle.channel.proofs.Shifts.{shifts_small}
use Rattle.list.specs.declared.Step.{Step}
use Rattle.list.specs.Tables.{all}
use Rattle.list.specs.Lists.{max_steps, stepped}
use Rattle.list.specs.Questions.{judge_step}
use Rattle.list.specs.Accepted.{Accepted}
use Rattle.list.proofs.Acceptance.{allowed_both, step_accepted}
use Rattle.list.proofs.Kept.{stepped_allowed, stepped_keeps}
use Rattle.plan.specs.Coarse.{coarse_count}
use Rattle.plan.specs.Plans.{judge_steps, stepped_all}
use Rattle.plan.proofs.Coarse.{count_laws}
use Rattle.plan.proofs.Runs.{none_refused, plan_accepted}
use Rattle.plan.proofs.Turns.{by_test}
use Rattle.record.specs.Bytes.{joined}
use Rattle.listing.specs.Text as New
use Rattle.listing.specs.Text.{digits_upto}
use Rattle.before.specs.Unversioned as Then
use Rattle.before.specs.Unversioned.{stopping_side}
use Rattle.before.specs.Listing as Before
use Rattle.before.specs.Laws.{is_short}
use Rattle.before.proofs.Fields.{short_sides, sides_short}

-- ---- numbers
-- one place more changes nothing where the tenth part has enough
place_more : (places n : ℕ) → (10 ≤ n → digits_upto (suc places) (n / 10) ≡ digits_upto places (n / 10)) → digits_upto (suc (suc places)) n ≡ digits_upto (suc places) n
place_more places n h = by_test (ltb n 10) (λ e. rw e) (λ e. rw (e, h (ltb-false n 10 e)))

-- so five are enough, and six
five_enough : (n : ℕ) → n < 100_000 → digits_upto 6 n ≡ digits_upto 5 n
five_enough n h =
    place_more 4 n (λ _. place_more 3 (n / 10) (λ _. place_more 2 (n / 10 / 10) (λ _. place_more 1 (n / 10 / 10 / 10) (λ _. place_more 0 (n / 10 / 10 / 10 / 10) (λ l. absurd (omega arith))))))

pub decimal_same : (n : ℕ) → n < 100_000 → New.decimal n ≡ Before.decimal n
unfolding New.decimal Before.decimal
decimal_same n h = place_more 5 n (λ _. five_enough (n / 10) (omega arith)) ∙ five_enough n h

pub numbered_same : (word : List ℕ) (n : ℕ) → n < 100_000 → New.numbered word n ≡ Before.numbered word n
numbered_same word n h = rw (decimal_same n h)

two_same : (m n : ℕ) → m < 100_000 → n < 100_000 → New.two m n ≡ Before.two m n
two_same m n h k = rw (decimal_same m h, decimal_same n k)

-- ---- lines
step_same : (s : Step) → s.begin < 100_000 → s.number < 100_000 → New.step_line s ≡ Before.step_line s
unfolding New.step_line Before.step_line
step_same s b n = rw (two_same s.begin s.number b n)

channel_same : (c : Channel) → is_short c ≡ true → shifts_allowed c ≡ true → New.channel_line c ≡ Before.channel_line c
unfolding New.channel_line Before.channel_line
channel_same c h a =
    let s = short_sides c h in
    let l = shifts_small c a in
    rw (two_same c.width c.height (omega arith) (omega arith), two_same c.hshift c.vshift (omega arith) (omega arith))

channels_same : (cs : List Channel) → all is_short cs ≡ true → all shifts_allowed cs ≡ true → joined New.channel_line cs ≡ joined Before.channel_line cs
channels_same [] h a = refl
channels_same (c ∷ cs) h a =
    let p = (and-eq-true_iff (is_short c) (all is_short cs)).0 h in
    let q = (and-eq-true_iff (shifts_allowed c) (all shifts_allowed cs)).0 a in
    rw (channel_same c p.0 q.0, channels_same cs p.1 q.1)

-- accepted steps lie inside their list, which has at most 256 channels
steps_same : (ss : List Step) (cs : List Channel) → Accepted cs → judge_steps ss cs ≡ 0 → joined New.step_line ss ≡ joined Before.step_line ss
steps_same [] cs ok h = refl
steps_same (s ∷ ss) cs ok h =
    let a = none_refused (judge_step s cs) (judge_steps ss (stepped s cs)) h in
    let t = step_accepted s cs a.0 in
    let inside = t.inside in
    let few = ok.few in
    rw (step_same s (omega arith) (omega arith), steps_same ss (stepped s cs) (stepped_allowed s cs t ok) a.1)

-- ---- a plan on a list without a strip leaves none
smaller_short : (c d : Channel) → d.width ≤ c.width → d.height ≤ c.height → is_short c ≡ true → is_short d ≡ true
smaller_short c d w h s = let m = short_sides c s in sides_short d (omega arith) (omega arith)

plan_short : (ss : List Step) (cs : List Channel) → all is_short cs ≡ true → all is_short (stepped_all ss cs) ≡ true
plan_short [] cs h = h
plan_short (s ∷ ss) cs h = plan_short ss (stepped s cs) (stepped_keeps is_short smaller_short s cs h)

pub plan_same : (ss : List Step) (cs : List Channel) → Accepted cs → judge_steps ss cs ≡ 0 → length ss ≤ max_steps → all is_short cs ≡ true
    → Then.plan_text ss (stepped_all ss cs) ≡ Before.plan_text ss (stepped_all ss cs)
unfolding Then.plan_text Before.plan_text
plan_same ss cs ok h few short =
    let reached = stepped_all ss cs in
    let left = plan_accepted ss cs ok h in
    let most = left.few in
    let within = (count_laws stopping_side reached).counts.within in
    rw (
      decimal_same (length ss) (omega arith),
      steps_same ss cs ok h,
      decimal_same (length reached) (omega arith),
      channels_same reached (plan_short ss cs short) (allowed_both reached left.allowed).0,
      decimal_same (coarse_count stopping_side reached) (omega arith),
    )
