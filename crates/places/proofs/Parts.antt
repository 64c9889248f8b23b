-- Parts of a slice after a part of it was written: the part itself, its front and its back, and one that lies apart. Assumes nothing.
use mathlib.Core.Path.{◌≡◌, refl, sym, ap, ◌∙◌}
use mathlib.Core.List.{List, ◌++◌}
use mathlib.Core.Logic.{inl, inr}
use Prim.Native.Nat.{ℕ, ◌+◌, ◌-◌, ◌<◌, ◌≤◌}
use native.Mathlib.Omega.{arith}
use lib.IntN.{ℤ, pos}
use lib.ListN.{length, get_or, take, drop, length-append, length-take, length-drop}
use lib.Seq.{length-take-le, take_at, drop_at, get_or-take, get_or-drop, ext_get_or}
use Rattle.list.proofs.Maps.{left_at, right_at}
use Rattle.places.specs.Laid.{Apart, part, written}

pub written_length : (at : ℕ) (ys xs : List ℤ) → at + length ys ≤ length xs → length (written at ys xs) ≡ length xs
unfolding written
written_length at ys xs h = simp (length-append, length-take, length-drop) (omega arith)

pub part_length : (at n : ℕ) (xs : List ℤ) → at + n ≤ length xs → length (part at n xs) ≡ n
unfolding part
part_length at n xs h = simp (length-take, length-drop) (omega arith)

pub part_at : (at n : ℕ) (xs : List ℤ) (i : ℕ) → i < n → get_or (part at n xs) i (pos 0) ≡ get_or xs (at + i) (pos 0)
unfolding part
part_at at n xs i h = get_or-take n (drop at xs) i (pos 0) h ∙ get_or-drop at xs i (pos 0)

-- what is written starts at its place
written_from : (at : ℕ) (ys xs : List ℤ) → at + length ys ≤ length xs → drop at (written at ys xs) ≡ ys ++ drop (at + length ys) xs
unfolding written
written_from at ys xs h = drop_at (take at xs) (ys ++ drop (at + length ys) xs) at (length-take-le at xs (omega arith))

pub part_own : (at : ℕ) (ys xs : List ℤ) → at + length ys ≤ length xs → part at (length ys) (written at ys xs) ≡ ys
unfolding part
part_own at ys xs h = rw (written_from at ys xs h) (take_at ys (drop (at + length ys) xs) (length ys) refl)

-- ---- outside of what is written nothing changes
written_before : (at : ℕ) (ys xs : List ℤ) (k : ℕ) → at + length ys ≤ length xs → k < at → get_or (written at ys xs) k (pos 0) ≡ get_or xs k (pos 0)
unfolding written
written_before at ys xs k h l =
    left_at (take at xs) (ys ++ drop (at + length ys) xs) at k (pos 0) (length-take-le at xs (omega arith)) l ∙ get_or-take at xs k (pos 0) l

written_behind : (at : ℕ) (ys xs : List ℤ) (k : ℕ) → at + length ys ≤ length xs → at + length ys ≤ k → get_or (written at ys xs) k (pos 0) ≡ get_or xs k (pos 0)
unfolding written
written_behind at ys xs k h l =
    let z : at + length ys + (k - at - length ys) ≡ k = omega arith in
    right_at (take at xs) (ys ++ drop (at + length ys) xs) at k (pos 0) (length-take-le at xs (omega arith)) (omega arith)
    ∙ right_at ys (drop (at + length ys) xs) (length ys) (k - at) (pos 0) refl (omega arith)
    ∙ get_or-drop (at + length ys) xs (k - at - length ys) (pos 0)
    ∙ ap (λ (j : ℕ). get_or xs j (pos 0)) z

pub part_other : (at n from : ℕ) (ys xs : List ℤ) → from + length ys ≤ length xs → at + n ≤ length xs → Apart at n from (length ys)
    → part at n (written from ys xs) ≡ part at n xs
part_other at n from ys xs h l a =
    let w = written_length from ys xs h in
    let p = part_length at n (written from ys xs) (omega arith) in
    let q = part_length at n xs l in
    ext_get_or (pos 0) (part at n (written from ys xs)) (part at n xs) (p ∙ sym q)
    (λ i b. part_at at n (written from ys xs) i (omega arith) ∙ same a i (omega arith) ∙ sym (part_at at n xs i (omega arith)))
  where
    same : Apart at n from (length ys) → (i : ℕ) → i < n → get_or (written from ys xs) (at + i) (pos 0) ≡ get_or xs (at + i) (pos 0)
    same (inl b) i s = written_before from ys xs (at + i) h (omega arith)
    same (inr b) i s = written_behind from ys xs (at + i) h (omega arith)
