-- Steps added to the arrays (`appended` of specs/Adding.antt): the count and the order, and a turn of the default plan as two such additions.
-- Assumes nothing.
use mathlib.Core.Bool.{true, false}
use mathlib.Core.Path.{◌≡◌, refl, sym, ap, ◌∙◌}
use mathlib.Core.List.{List, [], ◌∷◌, ◌++◌}
use Prim.Native.Nat.{ℕ, ◌+◌, ◌<◌, ◌≤◌}
use native.Mathlib.Omega.{arith}
use lib.Dec.{ltb}
use borrow.Author.Tests.{lt-ltb}
use lib.ListN.{length, length-append}
use Rattle.list.specs.declared.Step.{Step}
use Rattle.list.specs.Lists.{max_steps}
use Rattle.plan.specs.declared.Steps.{Steps}
use Rattle.plan.specs.Adding.{pushed, added, appended}
use Rattle.plan.specs.Default.{when, step, lowered, rounds}
use Rattle.plan.proofs.Turns.{goes_on, turns_over, rounds_done, rounds_turn}

appended_count : (s : Steps) (xs : List Step) → (appended s xs).count ≡ s.count + length xs
unfolding pushed appended
appended_count s [] = omega arith
appended_count s (x ∷ xs) = omega (arith, appended_count (pushed s x) xs)

appended_append : (s : Steps) (xs ys : List Step) → appended s (xs ++ ys) ≡ appended (appended s xs) ys
unfolding appended
appended_append s [] ys = refl
appended_append s (x ∷ xs) ys = appended_append (pushed s x) xs ys

pub added_room : (s : Steps) (x : Step) → s.count < max_steps → added s x ≡ pushed s x
unfolding added
added_room s x h = rw (lt-ltb s.count max_steps h)

pub counted : (s t : Steps) (xs : List Step) → t ≡ appended s xs → t.count ≡ s.count + length xs
counted s t xs e = ap (λ (x : Steps). x.count) e ∙ appended_count s xs

pub pushed_one : (s t : Steps) (x : Step) → t ≡ pushed s x → t ≡ appended s (x ∷ [])
unfolding appended
pushed_one s t x e = e

pub appended_after : (s t r : Steps) (xs ys : List Step) → t ≡ appended s xs → r ≡ appended t ys → r ≡ appended s (xs ++ ys)
appended_after s t r xs ys et er = er ∙ ap (λ (x : Steps). appended x ys) et ∙ sym (appended_append s xs ys)

-- the two steps of a turn
abbrev across : ℕ → ℕ → ℕ → ℕ → List Step
across stop m n w = when (ltb stop w) (step true true m n)

abbrev down : ℕ → ℕ → ℕ → ℕ → List Step
down stop m n h = when (ltb stop h) (step false true m n)

-- the turns that are left from `s` on fit, and give `whole`
pub record Left (stop m n : ℕ) (whole s : Steps) (w h : ℕ) : Type 0 where
  pub room : s.count + length (rounds (w + h) stop m n w h) ≤ max_steps
  pub so : appended s (rounds (w + h) stop m n w h) ≡ whole

module _ (stop m n : ℕ) (one : 1 ≤ stop) (whole s : Steps) (w h : ℕ) (left : Left stop m n whole s w h) where
  turn_length : length (across stop m n w)
      + (length (down stop m n h) + length (rounds (lowered stop w + lowered stop h) stop m n (lowered stop w) (lowered stop h)))
      ≡ length (rounds (w + h) stop m n w h)
  turn_length = rw (rounds_turn stop m n w h one, length-append, length-append)

  pub left_across : s.count + length (across stop m n w) ≤ max_steps
  left_across = omega (arith, left.room, turn_length)

  module _ (s₁ : Steps) (e₁ : s₁ ≡ appended s (across stop m n w)) where
    pub left_down : s₁.count + length (down stop m n h) ≤ max_steps
    left_down = omega (arith, left.room, turn_length, counted s s₁ (across stop m n w) e₁)

    pub left_more : (s₂ : Steps) (w' h' : ℕ) → s₂ ≡ appended s₁ (down stop m n h) → w' ≡ lowered stop w → h' ≡ lowered stop h
        → Left stop m n whole s₂ w' h'
    left_more s₂ w' h' e₂ ew eh =
        rw (ew, eh)
        (record {
          room = omega (arith, left.room, turn_length, counted s s₁ (across stop m n w) e₁, counted s₁ s₂ (down stop m n h) e₂);
          so =
              rw (e₂, e₁, ← appended_append, ← appended_append)
              (sym (ap (appended s) (rounds_turn stop m n w h one)) ∙ left.so);
        })

  pub left_none : goes_on stop w h ≡ false → s ≡ whole
  unfolding appended
  left_none e =
      let o = turns_over stop w h e in
      sym (ap (appended s) (rounds_done stop m n (w + h) w h o.0 o.1)) ∙ left.so
