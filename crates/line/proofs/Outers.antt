-- An outer line (`outer` of the crate line): what stands in for it where it is absent, and its sample for line k. Assumes nothing.
use mathlib.Core.Path.{◌≡◌}
use mathlib.Core.List.{List, [], ◌∷◌}
use Prim.Native.Nat.{ℕ, ◌<◌}
use native.Mathlib.Omega.{arith}
use lib.IntN.{ℤ, pos}
use lib.ListN.{length, get_or}
use lib.Seq.{drop-cons, drop-nil}
use Rattle.line.specs.Line.{or_else}
use Rattle.line.specs.Uncut.{outer}

pub outer_none : (xs : List ℤ) (k : ℕ) (other : ℤ) → length xs ≡ 0 → or_else (outer xs k) other ≡ other
outer_none [] k other e = rw (drop-nil {A = ℤ} k)
outer_none (x ∷ xs) k other e = absurd (omega arith)

pub outer_some : (xs : List ℤ) (k : ℕ) (other : ℤ) → k < length xs → or_else (outer xs k) other ≡ get_or xs k (pos 0)
outer_some xs k other h = rw (drop-cons xs k (pos 0) h)
