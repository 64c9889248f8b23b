-- The most steps of a default plan (specs/Longest.antt), over any stopping side: a side that is halved a times, a above 0, is above half of
-- stop * 2 ^ a, and the sides' product is at most the samples of the list: half of them where there are chroma steps, since two channels have these
-- sides. Assumes nothing.
use mathlib.Core.Path.{◌≡◌, refl, sym, ◌∙◌}
use mathlib.Core.Bool.{Bool, true, false, cond, ◌&&◌, true≢false, and-eq-true_iff}
use mathlib.Core.Logic.{◌⊎◌, inl, inr, ⊎_elim}
use mathlib.Core.List.{List, [], ◌∷◌, ◌++◌}
use Prim.Native.Nat.{ℕ, zero, suc, ◌+◌, ◌*◌, ◌^◌, ◌<◌, ◌≤◌}
use native.Mathlib.Nat.{mul-le-mul, mul-le-mul_left, mul-mul-mul_comm}
use native.Mathlib.Omega.{arith}
use lib.Dec.{eqb, ltb, lit≤, lit<}
use lib.ListN.{length, length-append}
use lib.Pow.{pow-add, pow_mono}
use borrow.Author.Tests.{eqb-true, ltb-true, ltb-false, leb-true}
use Rattle.numbers.specs.Numbers.{max_side, max_samples}
use Rattle.channel.specs.declared.Channel.{Channel}
use Rattle.channel.specs.Channel as C
use Rattle.channel.specs.Channel.{samples}
use Rattle.channel.proofs.Sides.{fit_sides}
use Rattle.list.specs.declared.ChannelList.{ChannelList}
use Rattle.list.specs.Lists as L
use Rattle.list.specs.declared.Step.{Step}
use Rattle.list.specs.Lists.{max_steps, channels, total}
use Rattle.list.specs.Questions as Q
use Rattle.list.specs.Questions.{channel_of, judge_list, total_allowed}
use Rattle.list.specs.Accepted.{Accepted}
use Rattle.list.proofs.Acceptance.{list_accepted, accepted_sides}
use Rattle.list.proofs.Asking.{passed}
use Rattle.plan.specs.declared.Steps.{Steps}
use Rattle.plan.specs.Steps as S
use Rattle.plan.specs.Steps.{steps}
use Rattle.plan.specs.declared.DefaultRule.{DefaultRule}
use Rattle.plan.specs.Version as Versions
use Rattle.plan.specs.Version.{standard_version, house_version, standard_rule, house_rule, rule_of}
use Rattle.plan.specs.Default as D
use Rattle.plan.specs.Default.{meta_count, other_count, first_other, second_other, when, step, chroma, all_channels, default_steps}
use Rattle.plan.specs.Plans as P
use Rattle.plan.specs.Plans.{has_other, meant, meant_allowed, judge_meant, judge_plan, planned}
use Rattle.plan.specs.Longest.{most_default_steps, longest_list, longest_house, HasSteps, LongestDefault}
use Rattle.plan.proofs.Turns.{by_test, doubled}
use Rattle.plan.proofs.Packed.{steps_packed}
use Rattle.plan.proofs.Answers.{form_accepted, meaning_accepted, meaning_answer}
use Rattle.plan.proofs.Judged.{judged_parts, judged_list, steps_few}
use Rattle.plan.proofs.Length.{chroma_length, all_channels_length}

-- ---- one side: halvings that bring it down to the stopping side, and each of them needed
record Halvings (stop side most : ℕ) : Type 0 where
  count : ℕ
  few : count ≤ most
  enough : side ≤ stop * 2 ^ count
  needed : 0 < count → stop * 2 ^ count < 2 * side

halvings_of : (stop side n : ℕ) → side ≤ stop * 2 ^ n → Halvings stop side n
halvings_of stop side zero e = record { count = 0; few = omega arith; enough = e; needed = λ z. absurd (omega arith) }
halvings_of stop side (suc n) e =
    by_test (ltb (stop * 2 ^ n) side)
    (λ t. record { count = suc n; few = omega arith; enough = e; needed = λ _. omega (arith, doubled stop n, ltb-true (stop * 2 ^ n) side t) })
    (λ t.
    let h = halvings_of stop side n (ltb-false (stop * 2 ^ n) side t) in
    let f = h.few in
    record { count = h.count; few = omega arith; enough = h.enough; needed = h.needed })

-- ---- both sides: their product tells how many halvings they have together
module _ (stop : ℕ) where
  squared : (a b : ℕ) → stop * 2 ^ a * (stop * 2 ^ b) ≡ stop * stop * 2 ^ (a + b)
  squared a b = rw pow-add (mul-mul-mul_comm stop (2 ^ a) stop (2 ^ b))

  few_together : (a b w h p : ℕ) → stop * 2 ^ a < 2 * w → stop * 2 ^ b < 2 * h → 4 * (w * h) ≤ stop * stop * 2 ^ p → a + b < p
  few_together a b w h p wide high most =
      by_test (ltb (a + b) p) (λ t. ltb-true (a + b) p t)
      (λ t.
      let grows : stop * stop * 2 ^ p ≤ stop * stop * 2 ^ (a + b) = mul-le-mul_left (stop * stop) (pow_mono (ltb-false (a + b) p t)) in
      let product : (stop * 2 ^ a + 1) * (stop * 2 ^ b + 1) ≤ 2 * w * (2 * h) = mul-le-mul (omega arith) (omega arith) in
      let four : 2 * w * (2 * h) ≡ 4 * (w * h) = mul-mul-mul_comm 2 w 2 h in
      absurd (omega (arith, squared a b)))

  together : (w h most p : ℕ) (x : Halvings stop w most) (y : Halvings stop h most) → most < p → 4 * (w * h) ≤ stop * stop * 2 ^ p → x.count + y.count < p
  together w h most p x y low room =
      by_test (ltb 0 x.count)
      (λ s.
      by_test (ltb 0 y.count)
      (λ t. few_together x.count y.count w h p (x.needed (ltb-true _ _ s)) (y.needed (ltb-true _ _ t)) room)
      (λ t. omega (arith, ltb-false 0 y.count t, x.few)))
      (λ s. omega (arith, ltb-false 0 x.count s, y.few))

-- ---- the samples of a list's channels
one_within : (cs : List Channel) (k : ℕ) → k < length cs → samples (channel_of cs k) ≤ total cs
one_within [] k h = absurd (omega arith)
one_within (c ∷ cs) zero h = omega arith
one_within (c ∷ cs) (suc k) h = omega (arith, one_within cs k (omega arith))

two_within : (cs : List Channel) (k : ℕ) → k + 1 < length cs → samples (channel_of cs k) + samples (channel_of cs (k + 1)) ≤ total cs
two_within [] k h = absurd (omega arith)
two_within (c ∷ cs) zero h = omega (arith, one_within cs 0 (omega arith))
two_within (c ∷ cs) (suc k) h =
    let z : suc k + 1 ≡ suc (k + 1) = omega arith in
    rw z (omega (arith, two_within cs k (omega arith)))

-- chroma steps are those of a version that has them, of two channels with the same sides
chroma_alike : (wanted : Bool) (m n w h : ℕ) (second : Channel)
    → (length (chroma wanted m n w h second) ≡ 0) ⊎ ((wanted ≡ true) × (2 < n) × (second.width ≡ w) × (second.height ≡ h))
unfolding chroma
chroma_alike wanted m n w h second = go (wanted && (ltb 2 n && (eqb second.width w && eqb second.height h))) refl
  where
    go : (t : Bool) → (wanted && (ltb 2 n && (eqb second.width w && eqb second.height h))) ≡ t
        → (length (cond t (when (ltb 1 w) (step true false (m + 1) 2) ++ when (ltb 1 h) (step false false (m + 1) 2)) []) ≡ 0)
        ⊎ ((wanted ≡ true) × (2 < n) × (second.width ≡ w) × (second.height ≡ h))
    go false e = inl refl
    go true e =
        let o = (and-eq-true_iff wanted (ltb 2 n && (eqb second.width w && eqb second.height h))).0 e in
        let a = (and-eq-true_iff (ltb 2 n) (eqb second.width w && eqb second.height h)).0 o.1 in
        let b = (and-eq-true_iff (eqb second.width w) (eqb second.height h)).0 a.1 in
        inr (o.0, ltb-true 2 n a.0, eqb-true _ _ b.0, eqb-true _ _ b.1)

-- what the bound asks of a stopping side: r halvings are enough for the longest side, and two sides of the most samples have at most q together; one
-- less where there are chroma steps, since two channels then share the samples
pub record Bound (rule : DefaultRule) (r q : ℕ) : Type 0 where
  pub side : max_side ≤ rule.stop * 2 ^ r
  pub product : 4 * max_samples ≤ rule.stop * rule.stop * 2 ^ suc q
  pub apart : r ≤ q
  pub apart_chroma : rule.chroma ≡ true → r < q

module _ (rule : DefaultRule) (r q : ℕ) (bound : Bound rule r q) (cs : List Channel) (ok : Accepted cs) (some : meta_count cs < length cs) where
  samples_few : total cs ≤ max_samples
  unfolding total_allowed
  samples_few = leb-true (total cs) max_samples ok.samples

  across : Halvings rule.stop (first_other cs).width r
  across = let f = (fit_sides (first_other cs) (accepted_sides cs ok (meta_count cs) some)).0 in halvings_of rule.stop _ r (omega (arith, bound.side))

  down : Halvings rule.stop (first_other cs).height r
  down = let f = (fit_sides (first_other cs) (accepted_sides cs ok (meta_count cs) some)).1 in halvings_of rule.stop _ r (omega (arith, bound.side))

  first_samples : (first_other cs).width * (first_other cs).height ≤ total cs
  unfolding samples
  first_samples = one_within cs (meta_count cs) some

  second_samples : 2 < other_count cs → (second_other cs).width ≡ (first_other cs).width → (second_other cs).height ≡ (first_other cs).height
      → (first_other cs).width * (first_other cs).height + (first_other cs).width * (first_other cs).height ≤ total cs
  unfolding samples
  second_samples many ew eh = rw (ew, eh) at (two_within cs (meta_count cs) (omega arith))

  -- with chroma steps one more than without
  pub default_few : length (default_steps rule cs) ≤ q + cond rule.chroma 1 0
  unfolding default_steps
  default_few =
      let m = meta_count cs in
      let n = other_count cs in
      let w = (first_other cs).width in
      let h = (first_other cs).height in
      let all = all_channels_length rule.stop m n w h across.count down.count across.enough down.enough in
      let few = samples_few in
      let product = bound.product in
      let half = doubled (rule.stop * rule.stop) q in
      rw length-append
      (⊎_elim
      (λ none. omega (arith, together rule.stop w h r (suc q) across down (omega (arith, bound.apart)) (omega (arith, first_samples))))
      (λ alike.
      rw alike.0
      (omega (
        arith,
        chroma_length true m n w h (second_other cs),
        together rule.stop w h r q across down (bound.apart_chroma alike.0) (omega (arith, second_samples alike.1 alike.2 alike.3)),
      )))
      (chroma_alike rule.chroma m n w h (second_other cs)))

-- the two versions
bounded : (version : ℕ) (cs : List Channel) → Accepted cs → meta_count cs < length cs → length (default_steps (rule_of version) cs) ≤ most_default_steps version
unfolding rule_of
bounded version cs ok some =
    by_test (eqb version house_version)
    (λ e. rw e (default_few house_rule 15 15 (record { side = lit≤ tt; product = lit≤ tt; apart = lit≤ tt; apart_chroma = λ f. absurd (true≢false (sym f)) }) cs ok some))
    (λ e. rw e (default_few standard_rule 17 19 (record { side = lit≤ tt; product = lit≤ tt; apart = lit≤ tt; apart_chroma = λ _. lit< tt }) cs ok some))

at_most : (version : ℕ) (l : ChannelList) → (planned version l).answer ≡ 0 → length (default_steps (rule_of version) (channels l)) ≤ most_default_steps version
unfolding meant_allowed has_other
at_most version l ok =
    let e = sym (meaning_answer version l (S.packed []) (planned version l) refl) ∙ ok in
    let a = meaning_accepted version l (S.packed []) e in
    let some : has_other (channels l) ≡ true = rw (steps_packed [] (lit≤ tt)) at a.1 in
    bounded version (channels l) (list_accepted l (form_accepted version l (S.packed []) a.0).0) (ltb-true (meta_count (channels l)) (length (channels l)) some)

reached : HasSteps standard_version longest_list (most_default_steps standard_version)
unfolding C.is_meta C.shifts_allowed C.sides_fit C.is_allowed C.samples L.channels L.holding Q.count_allowed Q.channels_allowed Q.total_allowed Q.judge_list
    Versions.is_version Versions.rule_of S.steps S.all_flags S.packed
    D.meta_count D.chroma D.rounds D.all_channels D.default_steps P.has_other P.meant_allowed P.judge_form P.judge_meaning P.meant_steps
reached = (refl, refl)

reached_house : HasSteps house_version longest_house (most_default_steps house_version)
unfolding C.is_meta C.shifts_allowed C.sides_fit C.is_allowed C.samples L.channels L.holding Q.count_allowed Q.channels_allowed Q.total_allowed Q.judge_list
    Versions.is_version Versions.rule_of S.steps S.all_flags S.packed
    D.meta_count D.chroma D.rounds D.all_channels D.default_steps P.has_other P.meant_allowed P.judge_form P.judge_meaning P.meant_steps
reached_house = (refl, refl)

pub longest_default : LongestDefault
longest_default = record { at_most = at_most; reached = reached; reached_house = reached_house }

-- so the steps that an accepted plan means are few, its own or the default plan's
pub meant_few : (version : ℕ) (l : ChannelList) (s : Steps) → judge_plan version l s ≡ 0 → length (meant version (steps s) (channels l)) ≤ max_steps
unfolding meant meant_allowed judge_meant has_other
meant_few version l s ok = go (steps s) (steps_few version l s ok) (passed (meant_allowed (steps s) (channels l)) _ _ (judged_parts version l s ok).1).0
  where
    go : (ss : List Step) → length ss ≤ max_steps → meant_allowed ss (channels l) ≡ true → length (meant version ss (channels l)) ≤ max_steps
    go [] few some =
        let b = bounded version (channels l) (list_accepted l (judged_list version l s ok)) (ltb-true (meta_count (channels l)) (length (channels l)) some) in
        by_test (eqb version house_version) (λ e. omega (arith, rw e at b)) (λ e. omega (arith, rw e at b))
    go (x ∷ ss) few some = few
