-- The two positions whose samples stand for the pair after pair i of a line (`next_first` of specs/Rows.antt, and the one behind it unless the line
-- ends there): they lie inside the line, and the average of their samples is the one after that of pair i (`next_at` of crate line), at the line's
-- end too, since the average of a sample with itself is that sample. Assumes nothing.
use mathlib.Core.Path.{◌≡◌, sym, ◌∙◌}
use mathlib.Core.Logic.{◌⊎◌, inl, inr}
use Prim.Native.Nat.{ℕ, ◌+◌, ◌-◌, ◌<◌, ◌≤◌, min}
use native.Mathlib.Omega.{arith}
use borrow.Author.Tests.{lt-ltb, le-ltb}
use lib.IntN.{ℤ, pos, ◌-ℤ◌}
use Rattle.arith32.specs.Arith.{Sample}
use Rattle.arith32.proofs.Whole.{natural, equal, difference_law}
use Rattle.arith32.proofs.Residues.{wrap_id}
use Rattle.pair.specs.Pair as P
use Rattle.line.specs.Forward.{next_at}
use Rattle.std.proofs.lemmas.Bool.{cases_lt}
use Rattle.forward.specs.Rows.{next_first}
use Rattle.line.proofs.Alone.{average_pair, average_tail}
use Rattle.forward.proofs.Entries.{next_inside, next_last}

-- ---- a sample with itself
nothing_off : (x : ℤ) → x -ℤ pos 0 ≡ x
nothing_off x = equal (x -ℤ pos 0) x (omega (arith, difference_law x (pos 0), (natural 0).0, (natural 0).1))

self_off : (x : ℤ) → x -ℤ x ≡ pos 0
self_off x = equal (x -ℤ x) (pos 0) (omega (arith, difference_law x x, (natural 0).0, (natural 0).1))

average_same : (x : ℤ) → Sample x → P.average x x ≡ x
unfolding P.average
average_same x f = rw (self_off x, wrap_id (pos 0) (record { sfits = omega arith }), nothing_off x) (wrap_id x f)

-- ---- the positions, case by case
module _ (size i : ℕ) where
  pub first_after : i + i + 2 < size → next_first size i ≡ i + i + 2
  unfolding next_first
  first_after h = rw (lt-ltb (i + i + 2) size h)

  pub first_own : size ≤ i + i + 2 → next_first size i ≡ i + i
  unfolding next_first
  first_own h = rw (le-ltb (i + i + 2) size h)

pub first_inside : (size i : ℕ) → i + i + 1 < size → next_first size i < size
first_inside size i h = by (cases_lt (i + i + 2) size)
  where
    by : (i + i + 2 < size) ⊎ (size ≤ i + i + 2) → next_first size i < size
    by (inl l) = rw (first_after size i l) l
    by (inr l) = rw (first_own size i l) (omega arith)

abbrev pub next_second : ℕ → ℕ → ℕ
next_second size first = min (first + 1) (size - 1)

-- ---- their average
pub next_average_lem : (x : ℕ → ℤ) (size i : ℕ) → i + i + 1 < size → Sample (x (next_first size i))
    → next_at x size i ≡ P.average (x (next_first size i)) (x (next_second size (next_first size i)))
next_average_lem x size i h f = by (cases_lt (i + i + 2) size) (cases_lt (i + i + 3) size)
  where
    by : (i + i + 2 < size) ⊎ (size ≤ i + i + 2) → (i + i + 3 < size) ⊎ (size ≤ i + i + 3)
        → next_at x size i ≡ P.average (x (next_first size i)) (x (next_second size (next_first size i)))
    by (inl l) (inl m) =
        let e : i + 1 + (i + 1) ≡ i + i + 2 = omega arith in
        let f : next_second size (i + i + 2) ≡ i + i + 2 + 1 = omega arith in
        rw (first_after size i l, f)
        (next_inside x size i l ∙ rw e at (average_pair x size (i + 1) (omega arith)))
    by (inl l) (inr m) =
        let e : i + 1 + (i + 1) ≡ i + i + 2 = omega arith in
        let f' : next_second size (i + i + 2) ≡ i + i + 2 = omega arith in
        rw (first_after size i l, f')
        (next_inside x size i l ∙ rw e at (average_tail x size (i + 1) (omega arith))
        ∙ sym (average_same (x (i + i + 2)) (rw (first_after size i l) at f)))
    by (inr l) m =
        let f' : next_second size (i + i) ≡ i + i + 1 = omega arith in
        rw (first_own size i l, f') (next_last x size i l ∙ average_pair x size i h)
