-- Laws of `some_outside` (specs/Range.antt): it is false exactly where each sample lies inside, and over two slices one after the other it is
-- that of the one or of the other. Assumes nothing.
use mathlib.Core.Path.{◌≡◌, refl, sym}
use mathlib.Core.Bool.{false, ◌||◌}
use mathlib.Core.List.{List, [], ◌∷◌, ◌++◌}
use Prim.Native.Nat.{ℕ, zero, suc, ◌<◌}
use native.Mathlib.Omega.{arith}
use Rattle.std.proofs.Math.Bool.{or_assoc}
use lib.IntN.{ℤ, pos}
use lib.ListN.{length, get_or}
use Rattle.range.specs.Range.{outside, some_outside}
use Rattle.range.proofs.Some.{left_false, right_false, both_false}

-- each sample lies inside
abbrev pub AllInside : List ℤ → Type 0
AllInside xs = (i : ℕ) → i < length xs → outside (get_or xs i (pos 0)) ≡ false

pub inside : (xs : List ℤ) → some_outside xs ≡ false → AllInside xs
inside [] e i l = absurd (omega arith)
inside (x ∷ xs) e zero l = left_false (outside x) (some_outside xs) e
inside (x ∷ xs) e (suc i) l = inside xs (right_false (outside x) (some_outside xs) e) i (omega arith)

pub none_outside : (xs : List ℤ) → AllInside xs → some_outside xs ≡ false
none_outside [] h = refl
none_outside (x ∷ xs) h =
    both_false (outside x) (some_outside xs) (h 0 (omega arith)) (none_outside xs (λ i l. h (suc i) (omega arith)))

pub one_after_other : (xs ys : List ℤ) → some_outside (xs ++ ys) ≡ (some_outside xs || some_outside ys)
one_after_other [] ys = refl
one_after_other (x ∷ xs) ys =
    rw (one_after_other xs ys) (sym (or_assoc (outside x) (some_outside xs) (some_outside ys)))
