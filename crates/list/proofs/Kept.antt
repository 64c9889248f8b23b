-- An accepted step keeps a list acceptable: its channels stay allowed, meta channels stay first and the sample total stays. The range is all meta
-- or all not, since meta channels come first and its two ends are alike. Assumes nothing.
use mathlib.Core.Path.{◌≡◌, refl, ap, ◌∙◌}
use mathlib.Core.Bool.{Bool, true, false, not, and-eq-true_iff}
use mathlib.Core.List.{List, ◌++◌}
use Prim.Native.Nat.{ℕ, suc, ◌+◌, ◌-◌, ◌≤◌}
use native.Mathlib.Omega.{arith}
use lib.Seq.{take-add}
use Rattle.channel.specs.declared.Channel.{Channel}
use Rattle.channel.specs.Channel.{is_meta, shifts_allowed, sides_fit, is_allowed}
use Rattle.channel.proofs.Sides.{fit_sides, sides_fit_lem}
use Rattle.list.specs.declared.Step.{Step}
use Rattle.list.specs.Tables.{map, all}
use Rattle.list.specs.Lists.{halved, rest, raised, sided, average, residual, before, range, after, stepped}
use Rattle.list.specs.Questions.{meta_first, channels_allowed, total_allowed, channel_of, kinds_alike, place_allowed, shifts_kept}
use Rattle.list.specs.Accepted.{Accepted, StepAccepted}
use Rattle.list.proofs.Maps.{all_map, all_parts, all_append, all_both, both_all}
use Rattle.list.proofs.Shifts.{part_allowed, part_kind, raised_width, raised_height}
use Rattle.list.proofs.Parts.{averages, residuals, joined, following, range_after, parts_whole}
use Rattle.list.proofs.Entries.{stepped_length}
use Rattle.list.proofs.MetaFirst.{plain, metas_before, plains_after, first_parts, metas_to, plains_from}
use Rattle.list.proofs.Totals.{stepped_total}

all_joined : (p : Channel → Bool) (i : Bool) (rs xs : List Channel) → all p rs ≡ true → all p xs ≡ true → all p (joined i rs xs) ≡ true
all_joined p true rs xs a b = all_append p rs xs a b
all_joined p false rs xs a b = all_append p xs rs b a

module _ (s : Step) (cs : List Channel) where
  -- what is true of the whole list is true of its parts
  pub parts_all : (p : Channel → Bool) → all p cs ≡ true → (all p (before s cs) ≡ true) × (all p (range s cs) ≡ true) × (all p (after s cs) ≡ true)
  parts_all p a =
      let b = all_parts p (before s cs) (range s cs ++ after s cs) (rw (parts_whole s cs) a) in
      let r = all_parts p (range s cs) (after s cs) b.1 in
      (b.0, r.0, r.1)

  -- a test that both parts of each channel of the range pass, and the other channels, is passed by the list that the step leaves
  pub stepped_all_lem : (p : Channel → Bool) → all p (before s cs) ≡ true → all p (averages s cs) ≡ true → all p (residuals s cs) ≡ true → all p (after s cs) ≡ true
      → all p (stepped s cs) ≡ true
  unfolding stepped
  stepped_all_lem p b a r o =
      all_append p (before s cs) (averages s cs ++ following s cs) b
      (all_append p (averages s cs) (following s cs) a (all_joined p s.inplace (residuals s cs) (after s cs) r o))

  module _ (ok : StepAccepted s cs) (allowed : all shifts_allowed cs ≡ true) where
    -- average or residual: g is `halved` or `rest`
    abbrev part : (ℕ → ℕ) → Channel → Channel
    part g c = raised s.horizontal (sided g s.horizontal c)

    parts_allowed : (g : ℕ → ℕ) → all shifts_allowed (map (part g) (range s cs)) ≡ true
    parts_allowed g =
        let kept = shifts_kept s.horizontal in
        all_map (part g) kept kept shifts_allowed (λ c k _. part_allowed g s.horizontal c k) (range s cs) ok.kept ok.kept

    -- a part is of its channel's kind; q is the kind or its opposite
    parts_kind : (g : ℕ → ℕ) (q : Bool → Bool) → all (λ c. q (is_meta c)) (range s cs) ≡ true → all (λ c. q (is_meta c)) (map (part g) (range s cs)) ≡ true
    parts_kind g q =
        all_map (part g) shifts_allowed (λ c. q (is_meta c)) (λ c. q (is_meta c))
        (λ c a k. ap q (part_kind g s.horizontal c a) ∙ k)
        (range s cs)
        (parts_all shifts_allowed allowed).1

    pub stepped_shifts : all shifts_allowed (stepped s cs) ≡ true
    unfolding average residual
    stepped_shifts =
        let p = parts_all shifts_allowed allowed in
        stepped_all_lem shifts_allowed p.0 (parts_allowed halved) (parts_allowed rest) p.2

    -- a list without meta channels stays one
    pub stepped_plain : all plain cs ≡ true → all plain (stepped s cs) ≡ true
    unfolding average residual
    stepped_plain a =
        let p = parts_all plain a in
        stepped_all_lem plain p.0 (parts_kind halved not p.1) (parts_kind rest not p.1) p.2

    module _ (first : meta_first cs ≡ true) where
      -- a meta range has meta channels before it
      metas_up : is_meta (channel_of cs s.begin) ≡ true → (all is_meta (before s cs) ≡ true) × (all is_meta (range s cs) ≡ true)
      unfolding kinds_alike
      metas_up e =
          let n = ok.some in
          let i = ok.inside in
          let m = metas_to cs (s.begin + s.number - 1) first (omega arith) (rw e at ok.alike) in
          let z : suc (s.begin + s.number - 1) ≡ s.begin + s.number = omega arith in
          all_parts is_meta (before s cs) (range s cs) (rw (z, take-add s.begin s.number cs) at m)

      metas_kept : is_meta (channel_of cs s.begin) ≡ true → meta_first (stepped s cs) ≡ true
      unfolding stepped place_allowed average residual
      metas_kept e =
          let m = metas_up e in
          let i = rw e at ok.placed in
          let o = first_parts (before s cs) (range s cs ++ after s cs) (rw (parts_whole s cs) first) in
          metas_before (before s cs) (averages s cs ++ following s cs) m.0
          ∙ metas_before (averages s cs) (following s cs) (parts_kind halved (λ b. b) m.1)
          ∙ rw i (metas_before (residuals s cs) (after s cs) (parts_kind rest (λ b. b) m.1) ∙ (first_parts (range s cs) (after s cs) o.1).1)

      plains_kept : is_meta (channel_of cs s.begin) ≡ false → meta_first (stepped s cs) ≡ true
      unfolding stepped average residual
      plains_kept e =
          let p = all_parts plain (range s cs) (after s cs) (rw (range_after s cs) (plains_from cs s.begin first e)) in
          let o = first_parts (before s cs) (range s cs ++ after s cs) (rw (parts_whole s cs) first) in
          plains_after (before s cs) (averages s cs ++ following s cs) o.0
          (all_append plain (averages s cs) (following s cs) (parts_kind halved not p.0)
          (all_joined plain s.inplace (residuals s cs) (after s cs) (parts_kind rest not p.0) p.1))

      pub stepped_meta_first : meta_first (stepped s cs) ≡ true
      stepped_meta_first = go (is_meta (channel_of cs s.begin)) refl
        where
          go : (m : Bool) → is_meta (channel_of cs s.begin) ≡ m → meta_first (stepped s cs) ≡ true
          go true e = metas_kept e
          go false e = plains_kept e

-- the parts of a channel have no side above its own
parts_below : (g : ℕ → ℕ) → ((n : ℕ) → g n ≤ n) → (h : Bool) (c : Channel)
    → ((raised h (sided g h c)).width ≤ c.width) × ((raised h (sided g h c)).height ≤ c.height)
parts_below g less true c = (omega (arith, raised_width true (sided g true c), less c.width), omega (arith, raised_height true (sided g true c)))
parts_below g less false c = (omega (arith, raised_width false (sided g false c)), omega (arith, raised_height false (sided g false c), less c.height))

-- a test that smaller sides pass too stays passed
module _ (p : Channel → Bool) (smaller : (c d : Channel) → d.width ≤ c.width → d.height ≤ c.height → p c ≡ true → p d ≡ true) where
  pub stepped_keeps : (s : Step) (cs : List Channel) → all p cs ≡ true → all p (stepped s cs) ≡ true
  unfolding average residual
  stepped_keeps s cs a =
      let q = parts_all s cs p a in
      let part : (ℕ → ℕ) → Channel → Channel = λ g c. raised s.horizontal (sided g s.horizontal c) in
      let below : (g : ℕ → ℕ) → ((n : ℕ) → g n ≤ n) → (c : Channel) → p c ≡ true → p (part g c) ≡ true
      = λ g less c t. let l = parts_below g less s.horizontal c in smaller c (part g c) l.0 l.1 t in
      let parts : (g : ℕ → ℕ) → ((n : ℕ) → g n ≤ n) → all p (map (part g) (range s cs)) ≡ true
      = λ g less. all_map (part g) p p p (λ c t _. below g less c t) (range s cs) q.1 q.1 in
      stepped_all_lem s cs p q.0 (parts halved (λ n. omega arith)) (parts rest (λ n. omega arith)) q.2

smaller_fit : (c d : Channel) → d.width ≤ c.width → d.height ≤ c.height → sides_fit c ≡ true → sides_fit d ≡ true
smaller_fit c d w h f = let m = fit_sides c f in sides_fit_lem d (omega arith) (omega arith)

pub stepped_allowed : (s : Step) (cs : List Channel) → StepAccepted s cs → Accepted cs → Accepted (stepped s cs)
unfolding channels_allowed total_allowed is_allowed
stepped_allowed s cs ok was =
    let n = stepped_length s cs ok.inside in
    let a = (and-eq-true_iff (all is_allowed cs) (meta_first cs)).0 was.allowed in
    let b = both_all shifts_allowed sides_fit cs a.0 in
    let r = ok.room in
    let o = was.some in
    record {
      some = omega arith;
      few = omega arith;
      allowed =
          (and-eq-true_iff (all is_allowed (stepped s cs)) (meta_first (stepped s cs))).1
          (all_both shifts_allowed sides_fit (stepped s cs) (stepped_shifts s cs ok b.0) (stepped_keeps sides_fit smaller_fit s cs b.1), stepped_meta_first s cs ok b.0 a.1);
      samples = rw (stepped_total s cs) was.samples;
    }
