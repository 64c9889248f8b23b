-- How many steps the default plan has: two for the chroma, and no more than the halvings that bring the first other channel's sides down to the
-- stopping side. It never has more than a plan may have. Assumes nothing.
use mathlib.Core.Bool.{Bool, true, false, cond, ◌&&◌}
use mathlib.Core.Path.{◌≡◌, refl}
use mathlib.Core.List.{List, [], ◌∷◌, ◌++◌}
use Prim.Native.Nat.{ℕ, ◌+◌, ◌*◌, ◌^◌, ◌≤◌}
use native.Mathlib.Nat.{add-le-add}
use native.Mathlib.Omega.{arith}
use lib.Dec.{eqb, leb, ltb}
use lib.ListN.{length, length-append}
use Rattle.channel.specs.declared.Channel.{Channel}
use Rattle.channel.specs.Channel.{sides_fit}
use Rattle.channel.proofs.Sides.{fit_sides}
use Rattle.list.specs.declared.Step.{Step}
use Rattle.list.specs.Lists.{halved, max_steps}
use Rattle.plan.specs.declared.DefaultRule.{DefaultRule}
use Rattle.plan.specs.Default.{first_other, when, step, chroma, rounds, all_channels, default_steps}
use Rattle.plan.proofs.Turns.{halvings, rounds_length}

pub when_length : (t : Bool) (s : Step) → length (when t s) ≤ 1
when_length true s = omega arith
when_length false s = omega arith

pub chroma_length : (wanted : Bool) (m n w h : ℕ) (second : Channel) → length (chroma wanted m n w h second) ≤ 2
unfolding chroma
chroma_length wanted m n w h second = go (wanted && (ltb 2 n && (eqb second.width w && eqb second.height h)))
  where
    horizontal : Step
    horizontal = step true false (m + 1) 2

    vertical : Step
    vertical = step false false (m + 1) 2

    go : (t : Bool) → length (cond t (when (ltb 1 w) horizontal ++ when (ltb 1 h) vertical) []) ≤ 2
    go true = simp length-append (omega (arith, when_length (ltb 1 w) horizontal, when_length (ltb 1 h) vertical))
    go false = omega arith

module _ (stop m n w h a b : ℕ) (p : w ≤ stop * 2 ^ a) (q : h ≤ stop * 2 ^ b) where
  pub all_channels_length : length (all_channels stop m n w h) ≤ a + b
  unfolding all_channels
  all_channels_length = go (leb w h) (ltb stop h) refl
    where
      go : (x y : Bool) → ltb stop h ≡ y
          → length (cond (x && y) (step false true m n ∷ rounds (w + h) stop m n w (halved h)) (rounds (w + h) stop m n w h)) ≤ a + b
      go true true e =
          let f = halvings stop h b (step false true m n) q in
          let under : halved h ≤ stop * 2 ^ f.left = rw e at f.under in
          let paid : 1 + f.left ≤ b = rw e at f.paid in
          let r = rounds_length stop m n (w + h) w (halved h) a f.left p under in
          omega arith
      go true false e = rounds_length stop m n (w + h) w h a b p q
      go false y e = rounds_length stop m n (w + h) w h a b p q

pub default_length : (rule : DefaultRule) (a b : ℕ) (cs : List Channel) → (first_other cs).width ≤ rule.stop * 2 ^ a → (first_other cs).height ≤ rule.stop * 2 ^ b
    → length (default_steps rule cs) ≤ 2 + (a + b)
unfolding default_steps
default_length rule a b cs p q = rw length-append (add-le-add (chroma_length _ _ _ _ _ _) (all_channels_length rule.stop _ _ _ _ a b p q))

-- at any stopping side, since a side is below 2 ^ 20
pub default_fits : (rule : DefaultRule) (cs : List Channel) → 1 ≤ rule.stop → sides_fit (first_other cs) ≡ true → length (default_steps rule cs) ≤ max_steps
default_fits rule cs one fit =
    let f = fit_sides (first_other cs) fit in
    omega (arith, default_length rule 20 20 cs (omega arith) (omega arith))
