-- The turns of the default plan (`rounds` of specs/Default.antt), over any stopping side: w + h turns are enough, since a turn lowers w + h; and a
-- side of at most stop * 2 ^ a is halved at most a times. Assumes nothing.
use mathlib.Core.Bool.{Bool, true, false, cond, ◌||◌, true≢false}
use mathlib.Core.Path.{◌≡◌, refl, sym, ◌∙◌}
use mathlib.Core.List.{[], ◌++◌}
use Prim.Native.Nat.{ℕ, zero, suc, ◌+◌, ◌*◌, ◌^◌, ◌<◌, ◌≤◌}
use native.Mathlib.Nat.{pow-succ', mul_left_comm}
use native.Mathlib.Omega.{arith}
use lib.Dec.{eqb, ltb, lit≤}
use lib.ListN.{length, length-append}
use borrow.Author.Tests.{ltb-true, ltb-false, le-ltb}
use Rattle.list.specs.declared.Step.{Step}
use Rattle.list.specs.Lists.{halved}
use Rattle.plan.specs.Version.{house_version, rule_of}
use Rattle.plan.specs.Default.{when, step, lowered, rounds}

pub by_test {ℓ} : {A : Type ℓ} (t : Bool) → (t ≡ true → A) → (t ≡ false → A) → A
by_test true f g = f refl
by_test false f g = g refl

-- each version's stopping side is above 0, as the laws below want it
pub stops : (version : ℕ) → 1 ≤ (rule_of version).stop
unfolding rule_of
stops version = by_test (eqb version house_version) (λ e. rw e (lit≤ tt)) (λ e. rw e (lit≤ tt))

-- ---- a turn on one side
-- the side gets no larger, and smaller if it is above the stopping side
pub lowered_le : (stop side : ℕ) → 1 ≤ stop → lowered stop side ≤ side
lowered_le stop side one = go (ltb stop side) refl
  where
    go : (t : Bool) → ltb stop side ≡ t → cond t (halved side) side ≤ side
    go true e = omega (arith, ltb-true stop side e)
    go false e = omega arith

pub lowered_lt : (stop side : ℕ) → 1 ≤ stop → stop < side → lowered stop side < side
lowered_lt stop side one above = go (ltb stop side) refl
  where
    go : (t : Bool) → ltb stop side ≡ t → cond t (halved side) side < side
    go true e = omega arith
    go false e = omega (arith, ltb-false stop side e)

-- the test of a turn: where it fails no side is above the stopping side, and where it holds the turn lowers w + h
abbrev pub goes_on : ℕ → ℕ → ℕ → Bool
goes_on stop w h = ltb stop w || ltb stop h

pub turns_over : (stop w h : ℕ) → goes_on stop w h ≡ false → (w ≤ stop) × (h ≤ stop)
turns_over stop w h = go (ltb stop w) (ltb stop h) refl refl
  where
    go : (x y : Bool) → ltb stop w ≡ x → ltb stop h ≡ y → (x || y) ≡ false → (w ≤ stop) × (h ≤ stop)
    go true y ex ey e = absurd (true≢false e)
    go false true ex ey e = absurd (true≢false e)
    go false false ex ey e = (ltb-false stop w ex, ltb-false stop h ey)

pub turn_lowers : (stop w h : ℕ) → 1 ≤ stop → goes_on stop w h ≡ true → lowered stop w + lowered stop h < w + h
turn_lowers stop w h one = go (ltb stop w) (ltb stop h) refl refl
  where
    go : (x y : Bool) → ltb stop w ≡ x → ltb stop h ≡ y → (x || y) ≡ true → lowered stop w + lowered stop h < w + h
    go true y ex ey e = omega (arith, lowered_lt stop w one (ltb-true stop w ex), lowered_le stop h one)
    go false true ex ey e = omega (arith, lowered_le stop w one, lowered_lt stop h one (ltb-true stop h ey))
    go false false ex ey e = absurd (true≢false (sym e))

-- of a halvings that are enough for a side, those that are left once the side has taken its step, if it takes one
pub record Lowered (stop side a : ℕ) (s : Step) : Type 0 where
  pub left : ℕ
  pub under : lowered stop side ≤ stop * 2 ^ left
  pub paid : length (when (ltb stop side) s) + left ≤ a

pub doubled : (stop a : ℕ) → stop * 2 ^ suc a ≡ 2 * (stop * 2 ^ a)
doubled stop a = rw pow-succ' (mul_left_comm stop 2 (2 ^ a))

pub halvings : (stop side a : ℕ) (s : Step) → side ≤ stop * 2 ^ a → Lowered stop side a s
halvings stop side a s h =
    let r = go (ltb stop side) refl a h in
    record { left = r.0; under = r.1; paid = r.2 }
  where
    go : (t : Bool) → ltb stop side ≡ t → (a : ℕ) → side ≤ stop * 2 ^ a
        → (left : ℕ) × (cond t (halved side) side ≤ stop * 2 ^ left) × (length (when t s) + left ≤ a)
    go true e zero h = absurd (omega (arith, ltb-true stop side e))
    go true e (suc a) h = (a, omega (arith, doubled stop a), omega arith)
    go false e a h = (a, h, omega arith)

-- ---- the turns
module _ (stop m n : ℕ) where
  pub rounds_length : (turns w h a b : ℕ) → w ≤ stop * 2 ^ a → h ≤ stop * 2 ^ b → length (rounds turns stop m n w h) ≤ a + b
  unfolding rounds
  rounds_length zero w h a b p q = omega arith
  rounds_length (suc turns) w h a b p q =
      let f = halvings stop w a (step true true m n) p in
      let g = halvings stop h b (step false true m n) q in
      let r = rounds_length turns (lowered stop w) (lowered stop h) f.left g.left f.under g.under in
      simp length-append (omega arith)

  -- no side is above the stopping side: no step
  pub rounds_done : (turns w h : ℕ) → w ≤ stop → h ≤ stop → rounds turns stop m n w h ≡ []
  unfolding rounds
  rounds_done zero w h p q = refl
  rounds_done (suc turns) w h p q = rw (le-ltb stop w p, le-ltb stop h q) (rounds_done turns w h p q)

  -- any two numbers of turns, each at least w + h, give the same steps
  pub rounds_enough : (t u w h : ℕ) → 1 ≤ stop → w + h ≤ t → w + h ≤ u → rounds t stop m n w h ≡ rounds u stop m n w h
  unfolding rounds
  rounds_enough zero u w h one p q = sym (rounds_done u w h (omega arith) (omega arith))
  rounds_enough (suc t) zero w h one p q = rounds_done (suc t) w h (omega arith) (omega arith)
  rounds_enough (suc t) (suc u) w h one p q =
      by_test (goes_on stop w h)
      (λ e.
      let l = turn_lowers stop w h one e in
      rw (rounds_enough t u (lowered stop w) (lowered stop h) one (omega arith) (omega arith)))
      (λ e.
      let o = turns_over stop w h e in
      rounds_done (suc t) w h o.0 o.1 ∙ sym (rounds_done (suc u) w h o.0 o.1))

  -- w + h turns are one turn and as many as the lowered sides want
  pub rounds_turn : (w h : ℕ) → 1 ≤ stop
      → rounds (w + h) stop m n w h
      ≡ when (ltb stop w) (step true true m n)
      ++ (when (ltb stop h) (step false true m n) ++ rounds (lowered stop w + lowered stop h) stop m n (lowered stop w) (lowered stop h))
  unfolding rounds
  rounds_turn w h one =
      let fits : lowered stop w + lowered stop h ≤ w + h = omega (arith, lowered_le stop w one, lowered_le stop h one) in
      rounds_enough (w + h) (suc (w + h)) w h one (omega arith) (omega arith)
      ∙ rw (rounds_enough (w + h) (lowered stop w + lowered stop h) (lowered stop w) (lowered stop h) one fits (omega arith))
