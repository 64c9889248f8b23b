-- Two stores into a slice of two samples, and none into any other (`both` of specs/Probe.antt). Assumes nothing.
use mathlib.Core.Path.{◌≡◌}
use mathlib.Core.List.{List, [], ◌∷◌}
use native.Mathlib.Omega.{arith}
use borrow.Author.Tests.{ne_eqb}
use lib.IntN.{ℤ}
use lib.ListN.{length, set}
use Rattle.probe.specs.Probe.{both}

pub kept : (x y : ℤ) (out : List ℤ) → (length out ≡ 2 → ⊥) → out ≡ both x y out
unfolding both
kept x y out n = rw (ne_eqb (length out) 2 n)

pub written : {x y x' y' : ℤ} (out : List ℤ) → length out ≡ 2 → x' ≡ x → y' ≡ y → set (set out 0 x') 1 y' ≡ both x y out
unfolding both
written [] n ex ey = absurd (omega arith)
written (a ∷ []) n ex ey = absurd (omega arith)
written (a ∷ b ∷ []) n ex ey = rw (ex, ey)
written (a ∷ b ∷ c ∷ out) n ex ey = absurd (omega arith)
