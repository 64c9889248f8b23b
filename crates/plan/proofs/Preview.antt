-- The laws of the default plan (specs/DefaultLaws.antt). Before each step the channels from m on, n of them, have no side above w and h, and those before
-- them are meta; a step in place on all n halves the one of the two, and chroma steps leave both. Assumes nothing.
use mathlib.Core.Path.{◌≡◌, refl, sym, ap, ◌∙◌}
use mathlib.Core.Bool.{Bool, true, false, cond, ◌&&◌, and-false, true≢false, false≢true}
use mathlib.Core.List.{List, [], ◌++◌}
use Prim.Native.Nat.{ℕ, zero, suc, ◌+◌, ◌-◌, ◌<◌, ◌≤◌}
use native.Mathlib.Omega.{arith}
use lib.Dec.{eqb, leb, ltb}
use lib.ListN.{length}
use borrow.Author.Tests.{ltb-true, ltb-false, le-ltb}
use Rattle.channel.specs.declared.Channel.{Channel}
use Rattle.channel.specs.Channel.{is_meta}
use Rattle.list.specs.declared.Step.{Step}
use Rattle.list.specs.Lists.{halved, stepped}
use Rattle.list.specs.Questions.{channel_of}
use Rattle.list.proofs.Asking.{cond_has}
use Rattle.plan.specs.declared.DefaultRule.{DefaultRule}
use Rattle.plan.specs.Default as Default
use Rattle.plan.specs.Default.{meta_count, other_count, first_other, second_other, when, step, chroma, lowered, rounds, all_channels, default_steps}
use Rattle.plan.specs.Coarse.{is_coarse, coarse_count}
use Rattle.plan.specs.Plans.{stepped_all}
use Rattle.plan.specs.DefaultLaws.{OnAll, EachOnAll, FirstLargest, DefaultLaws}
use Rattle.plan.proofs.Turns.{by_test, goes_on, turns_over, turn_lowers, rounds_done}
use Rattle.plan.proofs.Runs.{stepped_append}
use Rattle.plan.specs.Standard.{Average}
use Rattle.plan.proofs.Parts.{alike, chroma_across, chroma_down, chroma_steps}
use Rattle.plan.proofs.AsStandard.{step_standard}
use Rattle.plan.proofs.Coarse.{leading_within, leading_counted, meta_coarse, small_coarse, count_laws}

-- ---- an average: its side along the step is halved
smaller : (horizontal : Bool) (c d : Channel) (w h : ℕ) → Average horizontal c d → (c.width ≤ w) × (c.height ≤ h)
    → (d.width ≤ cond horizontal (halved w) w) × (d.height ≤ cond horizontal h (halved h))
smaller true c d w h a s = (omega (arith, a.along_is, s.0), omega (arith, a.across_is, s.1))
smaller false c d w h a s = (omega (arith, a.across_is, s.0), omega (arith, a.along_is, s.1))

no_larger : (horizontal : Bool) (w h : ℕ) → (cond horizontal (halved w) w ≤ w) × (cond horizontal h (halved h) ≤ h)
no_larger true w h = (omega arith, omega arith)
no_larger false w h = (omega arith, omega arith)

-- ---- the channels before m are meta, and the n channels from there on have no side above w and h
record Within (m n w h : ℕ) (cs : List Channel) : Type 0 where
  long : m + n ≤ length cs
  metas : (k : ℕ) → k < m → is_meta (channel_of cs k) ≡ true
  sides : (k : ℕ) → m ≤ k → k < m + n → ((channel_of cs k).width ≤ w) × ((channel_of cs k).height ≤ h)

module _ (m n : ℕ) where
  within_more : (w h v g : ℕ) (cs : List Channel) → w ≤ v → h ≤ g → Within m n w h cs → Within m n v g cs
  within_more w h v g cs p q a =
      record {
        long = a.long;
        metas = a.metas;
        sides = λ k l u. let s = a.sides k l u in (omega (arith, s.0), omega (arith, s.1));
      }

  -- a step in place on all n
  in_place : (horizontal : Bool) (w h : ℕ) (cs : List Channel) → Within m n w h cs
      → Within m n (cond horizontal (halved w) w) (cond horizontal h (halved h)) (stepped (step horizontal true m n) cs)
  in_place horizontal w h cs a =
      let made = step_standard (step horizontal true m n) cs a.long in
      record {
        long = omega (arith, made.longer, a.long);
        metas = λ k l. ap is_meta (made.in_front k l) ∙ a.metas k l;
        sides = λ k l u.
            let z : m + (k - m) ≡ k = omega arith in
            smaller horizontal (channel_of cs k) _ w h (rw z at (made.averages (k - m) (omega arith))) (a.sides k l u);
      }

  -- a chroma step
  on_chroma : 2 < n → (horizontal : Bool) (w h : ℕ) (cs : List Channel) → Within m n w h cs → Within m n w h (stepped (step horizontal false (m + 1) 2) cs)
  on_chroma many horizontal w h cs a =
      let l = a.long in
      let made = step_standard (step horizontal false (m + 1) 2) cs (omega arith) in
      record {
        long = omega (arith, made.longer);
        metas = λ k l. ap is_meta (made.in_front k (omega arith)) ∙ a.metas k l;
        sides = λ k p u.
            by_test (ltb k (m + 1))
            (λ e. rw (made.in_front k (ltb-true k (m + 1) e)) (a.sides k p u))
            (λ e.
            let above = ltb-false k (m + 1) e in
            by_test (ltb k (m + 3))
            (λ f.
            let under = ltb-true k (m + 3) f in
            let z : m + 1 + (k - (m + 1)) ≡ k = omega arith in
            let s = smaller horizontal (channel_of cs k) _ w h (rw z at (made.averages (k - (m + 1)) (omega arith))) (a.sides k p u) in
            let n = no_larger horizontal w h in
            (omega (arith, s.0, n.0), omega (arith, s.1, n.1)))
            (λ f.
            let behind = ltb-false k (m + 3) f in
            rw (made.behind k (omega arith) (omega arith)) (a.sides k p u)));
      }

  -- a turn's step in one direction
  turn_across : (stop w h : ℕ) (cs : List Channel) → Within m n w h cs → Within m n (lowered stop w) h (stepped_all (when (ltb stop w) (step true true m n)) cs)
  turn_across stop w h cs a = by_test (ltb stop w) (λ e. rw e (in_place true w h cs a)) (λ e. rw e a)

  turn_down : (stop w h : ℕ) (cs : List Channel) → Within m n w h cs → Within m n w (lowered stop h) (stepped_all (when (ltb stop h) (step false true m n)) cs)
  turn_down stop w h cs a = by_test (ltb stop h) (λ e. rw e (in_place false w h cs a)) (λ e. rw e a)

  module _ (stop : ℕ) (one : 1 ≤ stop) where
    within_rounds : (turns w h : ℕ) (cs : List Channel) → w + h ≤ turns → Within m n w h cs → Within m n stop stop (stepped_all (rounds turns stop m n w h) cs)
    unfolding rounds
    within_rounds zero w h cs l a = within_more w h stop stop cs (omega arith) (omega arith) a
    within_rounds (suc turns) w h cs l a =
        by_test (goes_on stop w h)
        (λ e.
        let less = turn_lowers stop w h one e in
        let b = turn_down stop (lowered stop w) h (stepped_all (when (ltb stop w) (step true true m n)) cs) (turn_across stop w h cs a) in
        let r = within_rounds turns (lowered stop w) (lowered stop h) _ (omega arith) b in
        rw (
          stepped_append (when (ltb stop w) (step true true m n)) (when (ltb stop h) (step false true m n) ++ rounds turns stop m n (lowered stop w) (lowered stop h)) cs,
          stepped_append (when (ltb stop h) (step false true m n)) (rounds turns stop m n (lowered stop w) (lowered stop h)) (stepped_all (when (ltb stop w) (step true true m n)) cs),
        ) r)
        (λ e.
        let o = turns_over stop w h e in
        rw (rounds_done stop m n (suc turns) w h o.0 o.1) (within_more w h stop stop cs o.0 o.1 a))

    within_all : (w h : ℕ) (cs : List Channel) → Within m n w h cs → Within m n stop stop (stepped_all (all_channels stop m n w h) cs)
    unfolding all_channels
    within_all w h cs a =
        by_test (leb w h && ltb stop h)
        (λ e. rw e (within_rounds (w + h) w (halved h) (stepped (step false true m n) cs) (omega arith) (in_place false w h cs a)))
        (λ e. rw e (within_rounds (w + h) w h cs (omega arith) a))

  -- the chroma steps
  within_when : (t : Bool) → (t ≡ true → 2 < n) → (horizontal : Bool) (w h : ℕ) (cs : List Channel) → Within m n w h cs
      → Within m n w h (stepped_all (when t (step horizontal false (m + 1) 2)) cs)
  within_when true many horizontal w h cs a = on_chroma (many refl) horizontal w h cs a
  within_when false many horizontal w h cs a = a

  within_chroma : (wanted : Bool) (w h v g : ℕ) (second : Channel) (cs : List Channel) → Within m n v g cs → Within m n v g (stepped_all (chroma wanted m n w h second) cs)
  within_chroma wanted w h v g second cs a =
      rw (
        chroma_steps wanted m n w h second,
        stepped_append (chroma_across wanted m n w h second) (chroma_down wanted m n w h second) cs,
      )
      (within_when (alike wanted n w h second && ltb 1 h) (λ e. many wanted (ltb 2 n) refl (eqb second.width w) (eqb second.height h) (ltb 1 h) e) false v g _
      (within_when (alike wanted n w h second && ltb 1 w) (λ e. many wanted (ltb 2 n) refl (eqb second.width w) (eqb second.height h) (ltb 1 w) e) true v g cs a))
    where
      many : (x y : Bool) → ltb 2 n ≡ y → (p q r : Bool) → (x && y && p && q && r) ≡ true → 2 < n
      many true true e p q r h = ltb-true 2 n e
      many true false e p q r h = absurd (false≢true h)
      many false y e p q r h = absurd (false≢true h)

-- ---- the default plan
module _ (rule : DefaultRule) (cs : List Channel) where
  abbrev m : ℕ
  m = meta_count cs

  abbrev n : ℕ
  n = other_count cs

  metas_within : m ≤ length cs
  unfolding Default.meta_count
  metas_within = leading_within is_meta cs

  begins : FirstLargest cs → Within m n (first_other cs).width (first_other cs).height cs
  unfolding Default.meta_count
  begins largest =
      let w = metas_within in
      record { long = omega arith; metas = leading_counted is_meta cs; sides = λ k l u. largest k l (omega arith) }

  preview : 1 ≤ rule.stop → FirstLargest cs → Within m n rule.stop rule.stop (stepped_all (default_steps rule cs) cs)
  unfolding default_steps
  preview one largest =
      let w = (first_other cs).width in
      let h = (first_other cs).height in
      let b = within_chroma m n rule.chroma w h w h (second_other cs) cs (begins largest) in
      rw (stepped_append (chroma rule.chroma m n w h (second_other cs)) (all_channels rule.stop m n w h) cs) (within_all m n rule.stop one w h _ b)

  preview_coarse : 1 ≤ rule.stop → FirstLargest cs → length cs ≤ coarse_count rule.stop (stepped_all (default_steps rule cs) cs)
  preview_coarse one largest =
      by_test (ltb count (length cs))
      (λ e.
      let l = ltb-true count (length cs) e in
      absurd (true≢false (sym (coarse_at l) ∙ (count_laws rule.stop reached).counts.ended (omega (arith, p.long, metas_within)))))
      (λ e. ltb-false count (length cs) e)
    where
      reached : List Channel
      reached = stepped_all (default_steps rule cs) cs

      count : ℕ
      count = coarse_count rule.stop reached

      p : Within m n rule.stop rule.stop reached
      p = preview one largest

      coarse_at : count < length cs → is_coarse rule.stop (channel_of reached count) ≡ true
      coarse_at l =
          by_test (ltb count m)
          (λ e. meta_coarse rule.stop (channel_of reached count) (p.metas count (ltb-true count m e)))
          (λ e. small_coarse rule.stop (channel_of reached count) (p.sides count (ltb-false count m e) (omega (arith, metas_within))))

  -- ---- without chroma steps
  module _ (none : rule.chroma ≡ false) where
    without_chroma : default_steps rule cs ≡ all_channels rule.stop m n (first_other cs).width (first_other cs).height
    unfolding chroma default_steps
    without_chroma = rw none

    small_none : (first_other cs).width ≤ rule.stop → (first_other cs).height ≤ rule.stop → default_steps rule cs ≡ []
    unfolding all_channels
    small_none w h =
        without_chroma
        ∙ rw (le-ltb rule.stop (first_other cs).height h, and-false (leb (first_other cs).width (first_other cs).height))
        (rounds_done rule.stop m n ((first_other cs).width + (first_other cs).height) (first_other cs).width (first_other cs).height w h)

    on_all : (horizontal : Bool) → OnAll cs (step horizontal true m n)
    on_all horizontal = record { in_place = refl; from = refl; all = refl }

    each_when : (t horizontal : Bool) (ss : List Step) → EachOnAll cs ss → EachOnAll cs (when t (step horizontal true m n) ++ ss)
    each_when true horizontal ss h = (on_all horizontal, h)
    each_when false horizontal ss h = h

    each_rounds : (turns stop w h : ℕ) → EachOnAll cs (rounds turns stop m n w h)
    unfolding rounds
    each_rounds zero stop w h = tt
    each_rounds (suc turns) stop w h =
        each_when (ltb stop w) true _ (each_when (ltb stop h) false _ (each_rounds turns stop (lowered stop w) (lowered stop h)))

    each_on_all : EachOnAll cs (default_steps rule cs)
    unfolding all_channels
    each_on_all =
        let w = (first_other cs).width in
        let h = (first_other cs).height in
        rw without_chroma
        (cond_has (EachOnAll cs) (leb w h && ltb rule.stop h) _ _ (on_all false, each_rounds (w + h) rule.stop w (halved h)) (each_rounds (w + h) rule.stop w h))

pub default_laws : (rule : DefaultRule) (cs : List Channel) → DefaultLaws rule cs
default_laws rule cs =
    record {
      without_chroma = without_chroma rule cs;
      each_on_all = each_on_all rule cs;
      small_none = small_none rule cs;
      preview_sides = λ one largest k l u. let w = metas_within rule cs in (preview rule cs one largest).sides k l (omega arith);
      preview_coarse = preview_coarse rule cs;
    }
