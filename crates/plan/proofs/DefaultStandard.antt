-- The default plan is the standard's (specs/StandardDefault.antt) wherever document 01 does not decide otherwise, and nowhere else: there ours
-- satisfies the standard's words and nothing else does. Assumes nothing.
use mathlib.Core.Path.{◌≡◌, refl, sym, ap, ◌∙◌}
use mathlib.Core.Bool.{Bool, true, false, cond, ◌&&◌, and-false}
use mathlib.Core.Logic.{◌⊎◌, inl, inr}
use mathlib.Core.List.{List, [], ◌∷◌, ◌++◌}
use Prim.Native.Nat.{ℕ, zero, suc, ◌+◌, ◌-◌, ◌<◌, ◌≤◌}
use native.Mathlib.Omega.{arith}
use lib.Dec.{leb, ltb, eqb, lit≤, lit<}
use lib.ListN.{length, length-append}
use borrow.Author.Tests.{ltb-true, ltb-false, leb-true, leb-false, lt-ltb, le-ltb, le-leb, lt-leb, eq-eqb, eqb-true, eqb-false}
use Rattle.channel.specs.declared.Channel.{Channel}
use Rattle.channel.specs.Channel as C
use Rattle.channel.specs.Channel.{is_meta}
use Rattle.list.specs.declared.Step.{Step}
use Rattle.list.specs.Lists.{halved}
use Rattle.list.specs.Questions.{channel_of}
use Rattle.plan.specs.Default as D
use Rattle.plan.specs.Version.{standard_side, standard_rule}
use Rattle.plan.specs.Default.{leading, meta_count, when, step, rounds, all_channels, chroma, default_steps}
use Rattle.plan.specs.StandardDefault.{others, others_from, While, both, wide, tall, over, InPlace, vertical_first, loop_alone, Chroma, AllInPlace, StandardDefault, chroma_first, in_place_alone, ChromaSidesAbove1, dots}
use Rattle.plan.proofs.Turns.{rounds_done, rounds_turn}
use Rattle.plan.proofs.Parts as Parts

stops : 1 ≤ standard_side
stops = lit≤ tt

-- ---- the loop
module _ (m n : ℕ) where
  abbrev ours : ℕ → ℕ → List Step
  ours w h = rounds (w + h) standard_side m n w h

  both_turn : (w h : ℕ) → standard_side < w → standard_side < h → ours w h ≡ step true true m n ∷ step false true m n ∷ ours (halved w) (halved h)
  both_turn w h p q = rounds_turn standard_side m n w h stops ∙ rw (lt-ltb standard_side w p, lt-ltb standard_side h q)

  wide_turn : (w h : ℕ) → standard_side < w → h ≤ standard_side → ours w h ≡ step true true m n ∷ ours (halved w) h
  wide_turn w h p q = rounds_turn standard_side m n w h stops ∙ rw (lt-ltb standard_side w p, le-ltb standard_side h q)

  tall_turn : (w h : ℕ) → w ≤ standard_side → standard_side < h → ours w h ≡ step false true m n ∷ ours w (halved h)
  tall_turn w h p q = rounds_turn standard_side m n w h stops ∙ rw (le-ltb standard_side w p, lt-ltb standard_side h q)

  while_only : {w h : ℕ} {ss : List Step} → While m n w h ss → ss ≡ ours w h
  while_only {w} {h} (both more p q e r) = e ∙ ap (λ (xs : List Step). step true true m n ∷ step false true m n ∷ xs) (while_only r) ∙ sym (both_turn w h p q)
  while_only {w} {h} (wide more p q e r) = e ∙ ap (λ (xs : List Step). step true true m n ∷ xs) (while_only r) ∙ sym (wide_turn w h p q)
  while_only {w} {h} (tall more p q e r) = e ∙ ap (λ (xs : List Step). step false true m n ∷ xs) (while_only r) ∙ sym (tall_turn w h p q)
  while_only {w} {h} (over p q e) = e ∙ sym (rounds_done standard_side m n (w + h) w h p q)

  while_none : (w h : ℕ) → w ≤ standard_side → h ≤ standard_side → While m n w h (ours w h)
  while_none w h p q = over p q (rounds_done standard_side m n (w + h) w h p q)

  -- a turn lowers w + h, which bounds the turns
  while_ours : (t w h : ℕ) → w + h ≤ t → While m n w h (ours w h)
  while_ours zero w h b = while_none w h (omega arith) (omega arith)
  while_ours (suc t) w h b = go (ltb standard_side w) (ltb standard_side h) refl refl (λ w' h' b'. while_ours t w' h' b')
    where
      go : (x y : Bool) → ltb standard_side w ≡ x → ltb standard_side h ≡ y → ((w' h' : ℕ) → w' + h' ≤ t → While m n w' h' (ours w' h')) → While m n w h (ours w h)
      go true true ex ey again =
          let p = ltb-true standard_side w ex in
          let q = ltb-true standard_side h ey in
          both (ours (halved w) (halved h)) p q (both_turn w h p q) (again (halved w) (halved h) (omega arith))
      go true false ex ey again =
          let p = ltb-true standard_side w ex in
          let q = ltb-false standard_side h ey in
          wide (ours (halved w) h) p q (wide_turn w h p q) (again (halved w) h (omega arith))
      go false true ex ey again =
          let p = ltb-false standard_side w ex in
          let q = ltb-true standard_side h ey in
          tall (ours w (halved h)) p q (tall_turn w h p q) (again w (halved h) (omega arith))
      go false false ex ey again = while_none w h (ltb-false standard_side w ex) (ltb-false standard_side h ey)

  -- ---- the in-place steps
  tall_first : (w h : ℕ) → w ≤ h → standard_side < h → all_channels standard_side m n w h ≡ step false true m n ∷ ours w (halved h)
  tall_first w h p q = Parts.vertical_first standard_side m n w h (halved h) stops (rw (le-leb w h p, lt-ltb standard_side h q)) refl

  no_first : (w h : ℕ) → (h < w) ⊎ (h ≤ standard_side) → all_channels standard_side m n w h ≡ ours w h
  no_first w h (inl p) = Parts.turns_alone standard_side m n w h (rw (lt-leb w h p))
  no_first w h (inr p) = Parts.turns_alone standard_side m n w h (rw (le-ltb standard_side h p) (and-false (leb w h)))

  in_place_only : (w h : ℕ) {ss : List Step} → InPlace m n w h ss → ss ≡ all_channels standard_side m n w h
  in_place_only w h (vertical_first more p q e r) = e ∙ ap (λ (xs : List Step). step false true m n ∷ xs) (while_only r) ∙ sym (tall_first w h p q)
  in_place_only w h (loop_alone p r) = while_only r ∙ sym (no_first w h p)

  in_place_ours : (w h : ℕ) → InPlace m n w h (all_channels standard_side m n w h)
  in_place_ours w h = go (leb w h) (ltb standard_side h) refl refl
    where
      alone : (h < w) ⊎ (h ≤ standard_side) → InPlace m n w h (all_channels standard_side m n w h)
      alone p = loop_alone p (rw (no_first w h p) (while_ours (w + h) w h (omega arith)))

      go : (x y : Bool) → leb w h ≡ x → ltb standard_side h ≡ y → InPlace m n w h (all_channels standard_side m n w h)
      go true true ex ey =
          let p = leb-true w h ex in
          let q = ltb-true standard_side h ey in
          vertical_first (ours w (halved h)) p q (tall_first w h p q) (while_ours (w + halved h) w (halved h) (omega arith))
      go true false ex ey = alone (inr (ltb-false standard_side h ey))
      go false y ex ey = alone (inl (leb-false w h ex))

-- ---- the channels that are not meta
others_length : (cs : List Channel) → length (others cs) + meta_count cs ≡ length cs
unfolding meta_count
others_length [] = refl
others_length (c ∷ cs) = go (is_meta c) (others_length cs)
  where
    go : (b : Bool) → length (others cs) + leading is_meta cs ≡ length cs
        → length (cond b (others cs) (c ∷ cs)) + cond b (suc (leading is_meta cs)) 0 ≡ suc (length cs)
    go true h = omega arith
    go false h = omega arith

others_at : (cs : List Channel) (k : ℕ) → channel_of (others cs) k ≡ channel_of cs (meta_count cs + k)
unfolding meta_count
others_at [] k = refl
others_at (c ∷ cs) k = go (is_meta c) (others_at cs k)
  where
    go : (b : Bool) → channel_of (others cs) k ≡ channel_of cs (leading is_meta cs + k)
        → channel_of (cond b (others cs) (c ∷ cs)) k ≡ channel_of (c ∷ cs) (cond b (suc (leading is_meta cs)) 0 + k)
    go true h = let z : suc (leading is_meta cs + k) ≡ suc (leading is_meta cs) + k = omega arith in h ∙ ap (channel_of (c ∷ cs)) z
    go false h = let z : k ≡ 0 + k = omega arith in ap (channel_of (c ∷ cs)) z

-- the default plan from these
module _ (cs : List Channel) where
  abbrev first : Channel
  first = channel_of (others cs) 0

  abbrev second : Channel
  second = channel_of (others cs) 1

  abbrev before : List Step
  before = chroma true (others_from cs) (length (others cs)) first.width first.height second

  abbrev after : List Step
  after = all_channels standard_side (others_from cs) (length (others cs)) first.width first.height

  parts : default_steps standard_rule cs ≡ before ++ after
  unfolding default_steps
  parts =
      let l = others_length cs in
      let m : meta_count cs ≡ others_from cs = omega arith in
      let n : length cs - meta_count cs ≡ length (others cs) = omega arith in
      let z : meta_count cs + 0 ≡ meta_count cs = omega arith in
      let f : channel_of cs (meta_count cs) ≡ first = ap (channel_of cs) (sym z) ∙ sym (others_at cs 0) in
      let s : channel_of cs (meta_count cs + 1) ≡ second = sym (others_at cs 1) in
      λ i. chroma true (m i) (n i) (f i).width (f i).height (s i) ++ all_channels standard_side (m i) (n i) (f i).width (f i).height

  -- ---- the chroma steps
  abbrev across : Step
  across = step true false (others_from cs + 1) 2

  abbrev down : Step
  down = step false false (others_from cs + 1) 2

  chroma_some : Chroma cs → before ≡ when (ltb 1 first.width) across ++ when (ltb 1 first.height) down
  unfolding chroma
  chroma_some c =
      rw (lt-ltb 2 (length (others cs)) c.many, eq-eqb second.width first.width c.width_too, eq-eqb second.height first.height c.height_too)

  chroma_none : (Chroma cs → ⊥) → before ≡ []
  unfolding chroma
  chroma_none none = go (ltb 2 (length (others cs))) (eqb second.width first.width) (eqb second.height first.height) refl refl refl
    where
      go : (x y z : Bool) → ltb 2 (length (others cs)) ≡ x → eqb second.width first.width ≡ y → eqb second.height first.height ≡ z
          → cond (x && (y && z)) (when (ltb 1 first.width) across ++ when (ltb 1 first.height) down) [] ≡ []
      go true true true ex ey ez = absurd (none (record { many = ltb-true _ _ ex; width_too = eqb-true _ _ ey; height_too = eqb-true _ _ ez }))
      go true true false ex ey ez = refl
      go true false z ex ey ez = refl
      go false y z ex ey ez = refl

  chroma_or_not : Chroma cs ⊎ (Chroma cs → ⊥)
  chroma_or_not = go (ltb 2 (length (others cs))) (eqb second.width first.width) (eqb second.height first.height) refl refl refl
    where
      go : (x y z : Bool) → ltb 2 (length (others cs)) ≡ x → eqb second.width first.width ≡ y → eqb second.height first.height ≡ z → Chroma cs ⊎ (Chroma cs → ⊥)
      go true true true ex ey ez = inl (record { many = ltb-true _ _ ex; width_too = eqb-true _ _ ey; height_too = eqb-true _ _ ez })
      go true true false ex ey ez = inr (λ c. eqb-false _ _ ez c.height_too)
      go true false z ex ey ez = inr (λ c. eqb-false _ _ ey c.width_too)
      go false y z ex ey ez = inr (λ c. let l = ltb-false 2 (length (others cs)) ex in let h = c.many in absurd (omega arith))

  after_only : {ss : List Step} → AllInPlace cs ss → ss ≡ after
  after_only r = in_place_only (others_from cs) (length (others cs)) first.width first.height r

  after_ours : AllInPlace cs after
  after_ours = in_place_ours (others_from cs) (length (others cs)) first.width first.height

  -- ---- the theorem: the standard's default steps are ours, and no others are
  module _ (above : ChromaSidesAbove1 cs) where
    with_chroma : Chroma cs → default_steps standard_rule cs ≡ across ∷ down ∷ after
    with_chroma c =
        let a = above c in
        let b : before ≡ across ∷ down ∷ [] = chroma_some c ∙ rw (lt-ltb 1 first.width a.0, lt-ltb 1 first.height a.1) in
        parts ∙ ap (λ (xs : List Step). xs ++ after) b

    without : (Chroma cs → ⊥) → default_steps standard_rule cs ≡ after
    without none = parts ∙ ap (λ (xs : List Step). xs ++ after) (chroma_none none)

    pub default_standard : StandardDefault cs (default_steps standard_rule cs)
    default_standard = go chroma_or_not
      where
        go : Chroma cs ⊎ (Chroma cs → ⊥) → StandardDefault cs (default_steps standard_rule cs)
        go (inl c) = chroma_first after c (with_chroma c) after_ours
        go (inr none) = in_place_alone none (rw (without none) after_ours)

    pub standard_default : (ss : List Step) → StandardDefault cs ss → ss ≡ default_steps standard_rule cs
    standard_default ss (chroma_first more c e r) = e ∙ ap (λ (xs : List Step). across ∷ down ∷ xs) (after_only r) ∙ sym (with_chroma c)
    standard_default ss (in_place_alone none r) = after_only r ∙ sym (without none)

  -- and nowhere else are ours the standard's
  pub standard_sides : StandardDefault cs (default_steps standard_rule cs) → ChromaSidesAbove1 cs
  standard_sides (chroma_first more c e r) _ = go (ltb 1 first.width) (ltb 1 first.height) refl refl two
    where
      two : length (when (ltb 1 first.width) across ++ when (ltb 1 first.height) down) ≡ 2
      two =
          let b = ap length (sym parts ∙ e ∙ ap (λ (xs : List Step). across ∷ down ∷ xs) (after_only r)) in
          let l = length-append before after in
          omega (arith, ap length (chroma_some c))

      go : (x y : Bool) → ltb 1 first.width ≡ x → ltb 1 first.height ≡ y → length (when x across ++ when y down) ≡ 2
          → (1 < first.width) × (1 < first.height)
      go true true ex ey h = (ltb-true _ _ ex, ltb-true _ _ ey)
      go true false ex ey h = absurd (omega arith)
      go false true ex ey h = absurd (omega arith)
      go false false ex ey h = absurd (omega arith)
  standard_sides (in_place_alone none r) c = absurd (none c)

-- ---- the smallest difference: the standard has two steps and document 01 none
pub dots_standard : StandardDefault dots (step true false 1 2 ∷ step false false 1 2 ∷ [])
unfolding C.is_meta
dots_standard =
    chroma_first [] (record { many = lit< tt; width_too = refl; height_too = refl }) refl (loop_alone (inr (lit≤ tt)) (over (lit≤ tt) (lit≤ tt) refl))

pub dots_ours : default_steps standard_rule dots ≡ []
unfolding C.is_meta D.meta_count D.chroma D.rounds D.all_channels D.default_steps
dots_ours = refl
