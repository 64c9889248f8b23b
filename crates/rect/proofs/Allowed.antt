-- What questions 4 and 13 tell of the numbers that they let through: a channel that is not meta has shifts up to 30, and a group dimension is at most 1,024.
-- Assumes nothing.
use mathlib.Core.Bool.{Bool, true, false, ◌||◌, and-eq-true_iff}
use mathlib.Core.Path.{◌≡◌, refl}
use mathlib.Core.Logic.{◌⊎◌, inl, inr, ⊎_elim}
use Prim.Native.Nat.{ℕ, ◌≤◌}
use native.Mathlib.Omega.{arith}
use lib.Dec.{eqb}
use borrow.Author.Tests.{eqb-true}
use Rattle.channel.specs.declared.Channel.{Channel}
use Rattle.channel.specs.Channel as Spec
use Rattle.channel.proofs.Shifts.{plain_shifts}
use Rattle.rect.specs.Rect.{group_allowed}
use Rattle.rect.specs.Parts.{max_group}

one : (p q : Bool) → p || q ≡ true → (p ≡ true) ⊎ (q ≡ true)
one true q e = inl refl
one false q e = inr e

pub shifts_small : (c : Channel) → Spec.is_meta c ≡ false → Spec.is_allowed c ≡ true → (c.hshift ≤ Spec.max_shift) × (c.vshift ≤ Spec.max_shift)
unfolding Spec.is_allowed
shifts_small c m e = plain_shifts c ((and-eq-true_iff (Spec.shifts_allowed c) (Spec.sides_fit c)).0 e).0 m

pub group_small : (group : ℕ) → group_allowed group ≡ true → group ≤ max_group
unfolding group_allowed
group_small group e =
    let is : (n : ℕ) → n ≤ max_group → eqb group n ≡ true → group ≤ max_group = λ n h t. omega (arith, eqb-true group n t) in
    ⊎_elim
    (λ e. ⊎_elim (λ e. ⊎_elim (is 128 (omega arith)) (is 256 (omega arith)) (one _ _ e)) (is 512 (omega arith)) (one _ _ e))
    (is 1024 (omega arith))
    (one _ _ e)
