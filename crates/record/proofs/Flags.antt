-- A step's flags: as a byte they are allowed and give the step's two answers back, and an allowed byte is that of the step it gives.
-- Assumes nothing.
use mathlib.Core.Path.{◌≡◌, refl}
use mathlib.Core.Bool.{Bool, true, false}
use mathlib.Core.List.{List}
use Prim.Native.Nat.{ℕ, zero, suc, ◌+◌, ◌/◌, ◌%◌, ◌<◌}
use native.Mathlib.Omega.{arith}
use lib.Dec.{eqb}
use Rattle.list.specs.declared.Step.{Step}
use Rattle.plan.specs.Steps as S
use Rattle.plan.specs.Steps.{bit, flags_of, flags_allowed}
use Rattle.record.specs.Reading.{flags_at, field_step}

module _ (s : Step) where
  pub flags_allowed_lem : flags_allowed (flags_of s) ≡ true
  unfolding S.flags_of S.flags_allowed
  flags_allowed_lem = go s.horizontal s.inplace
    where
      go : (h i : Bool) → flags_allowed (bit h 1 + bit i 2) ≡ true
      go true true = refl
      go true false = refl
      go false true = refl
      go false false = refl

  pub flags_back : (eqb (flags_of s % 2) 1 ≡ s.horizontal) × (eqb (flags_of s / 2 % 2) 1 ≡ s.inplace)
  unfolding S.flags_of
  flags_back = go s.horizontal s.inplace
    where
      go : (h i : Bool) → (eqb ((bit h 1 + bit i 2) % 2) 1 ≡ h) × (eqb ((bit h 1 + bit i 2) / 2 % 2) 1 ≡ i)
      go true true = (refl, refl)
      go true false = (refl, refl)
      go false true = (refl, refl)
      go false false = (refl, refl)

bits : (f : ℕ) → f < 4 → bit (eqb (f % 2) 1) 1 + bit (eqb (f / 2 % 2) 1) 2 ≡ f
bits zero h = refl
bits (suc zero) h = refl
bits (suc (suc zero)) h = refl
bits (suc (suc (suc zero))) h = refl
bits (suc (suc (suc (suc f)))) h = absurd (omega arith)

pub flags_read : (bytes : List ℕ) → flags_at bytes < 4 → flags_of (field_step bytes) ≡ flags_at bytes
unfolding S.flags_of
flags_read bytes h = bits (flags_at bytes) h
