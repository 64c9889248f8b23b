-- "other flag bits 0" (question 4), put by the library's test of every index. Assumes nothing.
use mathlib.Core.Bool.{Bool, true, false, ◌&&◌}
use mathlib.Core.Path.{◌≡◌, refl, sym, ap, ◌∙◌}
use Prim.Native.Nat.{ℕ, zero, suc, min}
use native.Mathlib.Omega.{arith}
use native.Mathlib.Numerals.{add-one}
use lib.Dec.{leb, ltb}
use lib.ListN.{get_or}
use borrow.Author.Tests.{leb-true, leb-false, lt-ltb, le-ltb}
use Rattle.std.specs.List.{list_all, range_with_len}
use Rattle.list.specs.Tables.{table, all}
use Rattle.list.specs.Lists.{max_steps}
use Rattle.plan.specs.declared.Steps.{Steps}
use Rattle.plan.specs.Steps.{flags_allowed, all_flags}

abbrev flags_at : Steps → ℕ → ℕ
flags_at s k = get_or s.flags k 0

three : (n : ℕ) → leb n 3 ≡ flags_allowed n
unfolding flags_allowed
three n = go (leb n 3) refl
  where
    go : (b : Bool) → leb n 3 ≡ b → b ≡ ltb n 4
    go true h = sym (lt-ltb n 4 (omega (arith, leb-true n 3 h)))
    go false h = sym (le-ltb n 4 (omega (arith, leb-false n 3 h)))

-- the flags that f gives, each tested by the library
pub three_ranged : (f : ℕ → ℕ) (k n : ℕ) → list_all (λ j. leb (f j) 3) (range_with_len k n) ≡ all flags_allowed (table f k n)
three_ranged f k zero = refl
three_ranged f k (suc n) = rw (add-one, three (f k)) (ap (λ (b : Bool). flags_allowed (f k) && b) (three_ranged f (suc k) n))

pub flags_ranged : (s : Steps) (n : ℕ) → n ≡ min s.count max_steps → list_all (λ j. leb (flags_at s j) 3) (range_with_len 0 n) ≡ all flags_allowed (all_flags s)
unfolding all_flags
flags_ranged s n e = three_ranged (flags_at s) 0 n ∙ rw e
