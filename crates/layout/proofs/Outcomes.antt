-- The rows of a layout (specs/Layout.antt): their lengths beside the slices', the counts that the code finds, and the call's three outcomes: refused by
-- questions 1 to 11, refused by question 14, and done. Assumes nothing.
use mathlib.Core.Path.{◌≡◌, sym, ◌∙◌}
use mathlib.Core.Bool.{true, false, ◌&&◌, and_assoc, and-eq-true_iff}
use mathlib.Core.List.{List, [], ◌∷◌}
use Prim.Native.Nat.{ℕ, ◌*◌, ◌≤◌, min}
use native.Mathlib.Omega.{arith}
use lib.Dec.{leb}
use lib.ListN.{length}
use borrow.Author.Tests.{ne_eqb, leb-true}
use Rattle.numbers.specs.Numbers.{refused_length}
use Rattle.list.specs.declared.ChannelList.{ChannelList}
use Rattle.list.specs.Lists.{max_channels, max_steps, channels, origins}
use Rattle.list.proofs.Channels.{channels_length, origins_length}
use Rattle.plan.specs.declared.Steps.{Steps}
use Rattle.plan.specs.Steps as S
use Rattle.plan.specs.Version.{rule_of}
use Rattle.plan.specs.Coarse.{coarse_count}
use Rattle.plan.proofs.Answers.{steps_length}
use Rattle.plan.proofs.Coarse.{count_laws}
use Rattle.record.specs.Records.{read_answer}
use Rattle.layout.specs.Layout as Layout
use Rattle.layout.specs.Layout.{all_steps, all_channels, Rows, rows, counts_of, rows_of, layout_of, fits, all_fit, over, all_over, answer, after}
use Rattle.layout.proofs.Fronts as Fronts

-- ---- rows that fit their slices
pub record Fit (r out : Rows) : Type 0 where
  pub counts : length r.counts ≤ length out.counts
  pub steps : length r.steps ≤ length out.steps
  pub channels : length r.channels ≤ length out.channels
  pub origins : length r.origins ≤ length out.origins

module _ (r out : Rows) where
  pub fit_each : all_fit r out ≡ true → Fit r out
  unfolding Layout.all_fit
  fit_each h =
      let a = (and-eq-true_iff (fits r.counts out.counts) _).0 h in
      let b = (and-eq-true_iff (fits r.steps out.steps) _).0 a.1 in
      let c = (and-eq-true_iff (fits r.channels out.channels) (fits r.origins out.origins)).0 b.1 in
      record { counts = leb-true _ _ a.0; steps = leb-true _ _ b.0; channels = leb-true _ _ c.0; origins = leb-true _ _ c.1 }

  pub all_over_lem : (cs ss hs os : List ℕ) → (cs ≡ over r.counts out.counts) × (ss ≡ over r.steps out.steps) × (hs ≡ over r.channels out.channels) × (os ≡ over r.origins out.origins)
      → rows cs ss hs os ≡ all_over r out
  all_over_lem cs ss hs os e = λ i. rows (e.0 i) (e.1 i) (e.2 i) (e.3 i)

-- ---- the counts: of steps and a list in flat arrays, where n and k are what their `len` gave
module _ (version : ℕ) (s : Steps) (l : ChannelList) where
  -- the coarse count that was found
  module _ (coarse : ℕ) (e : coarse ≡ coarse_count (rule_of version).stop (channels l)) where
    pub coarse_few : coarse ≤ max_channels
    coarse_few = omega (arith, e, (count_laws (rule_of version).stop (channels l)).counts.within, channels_length l)

    pub counts_are : (n k : ℕ) → n ≡ min s.count max_steps → k ≡ min l.count max_channels
        → version ∷ n ∷ k ∷ coarse ∷ [] ≡ counts_of version (S.steps s) (channels l)
    unfolding Layout.counts_of
    counts_are n k en ek =
        let a = en ∙ sym (steps_length s) in
        let b = ek ∙ sym (channels_length l) in
        λ i. version ∷ a i ∷ b i ∷ e i ∷ []

  -- question 14, as the code asks it
  pub room_is : (n k : ℕ) → n ≡ min s.count max_steps → k ≡ min l.count max_channels → (out : Rows)
      → (((leb 4 (length out.counts) && leb (3 * n) (length out.steps)) && leb (4 * k) (length out.channels)) && leb k (length out.origins))
      ≡ all_fit (rows_of version (S.steps s) (channels l) (origins l)) out
  unfolding Layout.all_fit Layout.counts_of
  room_is n k en ek out =
      let es : 3 * n ≡ length (all_steps (S.steps s)) = omega (arith, en, steps_length s, Fronts.steps_length (S.steps s)) in
      let ec : 4 * k ≡ length (all_channels (channels l)) = omega (arith, ek, channels_length l, Fronts.channels_length (channels l)) in
      let eo : k ≡ length (origins l) = ek ∙ sym (origins_length l) in
      let a = leb 4 (length out.counts) in
      let b = leb (3 * n) (length out.steps) in
      let c = leb (4 * k) (length out.channels) in
      let d = leb k (length out.origins) in
      and_assoc (a && b) c d ∙ and_assoc a b (c && d)
      ∙ (λ i. a && (leb (es i) (length out.steps) && (leb (ec i) (length out.channels) && leb (eo i) (length out.origins))))

-- ---- the outcomes
module _ (bytes : List ℕ) (out : Rows) where
  pub refused : (a : ℕ) → a ≡ read_answer bytes → (a ≡ 0 → ⊥) → (a ≡ answer bytes out) × (out ≡ after bytes out)
  unfolding Layout.answer Layout.after
  refused a e h = (rw (← e, ne_eqb a 0 h), rw (← e, ne_eqb a 0 h, ne_eqb a 0 h))

  module _ (z : read_answer bytes ≡ 0) where
    pub short : all_fit (layout_of bytes) out ≡ false → (refused_length ≡ answer bytes out) × (out ≡ after bytes out)
    unfolding Layout.answer Layout.after
    short h = (rw (z, h), rw (z, h))

    pub done : all_fit (layout_of bytes) out ≡ true → (out' : Rows) → out' ≡ all_over (layout_of bytes) out → (0 ≡ answer bytes out) × (out' ≡ after bytes out)
    unfolding Layout.answer Layout.after
    done h out' e = (rw (z, h), rw (z, h) e)
