-- What is told of samples, part by part: `m` is whether a call tells at all, and what it tells of parts is put together by `or`. Assumes nothing.
use mathlib.Core.Path.{◌≡◌, refl, sym, ap, ◌∙◌}
use mathlib.Core.Bool.{Bool, true, false, ◌||◌, ◌&&◌}
use mathlib.Core.List.{List}
use Prim.Native.Nat.{ℕ, ◌+◌}
use Rattle.std.proofs.Math.Bool.{and-or_distrib_left, or_assoc}
use lib.IntN.{ℤ}
use lib.ListN.{take, drop}
use lib.Seq.{take-add}
use Rattle.range.specs.Range.{some_outside}
use Rattle.range.proofs.Slices.{one_after_other}

-- of no part
pub nothing : (m : Bool) → false ≡ (m && false)
nothing true = refl
nothing false = refl

-- of two parts each of two slices, and of one part behind others
pub gather : (m a b c d : Bool) → ((m && (a || b)) || (m && (c || d))) ≡ (m && ((a || c) || (b || d)))
gather false a b c d = refl
gather true true b c d = refl
gather true false true true d = refl
gather true false false true d = refl
gather true false b false d = refl

pub one_behind : (m a b c : Bool) → ((m && (a || b)) || (m && c)) ≡ (m && (a || (b || c)))
one_behind m a b c = sym (and-or_distrib_left m (a || b) c) ∙ ap (λ (x : Bool). m && x) (or_assoc a b c)

-- the first n of a slice, and w behind them
pub samples_more : (n w : ℕ) (xs : List ℤ) → some_outside (take (n + w) xs) ≡ (some_outside (take n xs) || some_outside (take w (drop n xs)))
samples_more n w xs = rw (take-add n w xs) (one_after_other (take n xs) (take w (drop n xs)))
