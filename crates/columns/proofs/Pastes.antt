-- What a slice holds after a row is copied into it (`paste` of lib.Seq): the row's samples at its place, and elsewhere the old ones.
-- Assumes nothing.
use mathlib.Core.Path.{◌≡◌, ap, ◌∙◌}
use mathlib.Core.List.{List, ◌++◌, append_assoc}
use mathlib.Core.Logic.{◌⊎◌, inl, inr}
use Prim.Native.Nat.{ℕ, ◌+◌, ◌-◌, ◌<◌, ◌≤◌}
use native.Mathlib.Omega.{arith}
use lib.IntN.{ℤ, pos}
use lib.ListN.{length, get_or, take, drop, get_or-append}
use lib.Seq.{paste, get_or-take, get_or-drop, get_or-append-add, length-take-le, length-paste, length_paste_head, take_all, drop-drop}
use Rattle.line.proofs.Lines.{lt_or_ge}

-- the slice afterwards
abbrev pub pasted : List ℤ → ℕ → List ℤ → List ℤ
pasted d at row = paste d at row (length row)

-- as a part of the slice that was lent leaves it
pub put_in : (d : List ℤ) (at n : ℕ) (row : List ℤ) → n ≡ length row → take at d ++ (row ++ drop n (drop at d)) ≡ pasted d at row
put_in d at n row e =
    rw (e, drop-drop (length row) at d, take_all (length row) row (omega arith), append_assoc (take at d) row (drop (at + length row) d))

module _ (d : List ℤ) (at : ℕ) (row : List ℤ) (inside : at + length row ≤ length d) where
  pub pasted_length : length (pasted d at row) ≡ length d
  pasted_length = length-paste d at row (length row) inside (omega arith)

  pub pasted_in : (k : ℕ) → k < length row → get_or (pasted d at row) (at + k) (pos 0) ≡ get_or row k (pos 0)
  pasted_in k h =
      let n = length row in
      let t : length (take at d) ≡ at = length-take-le at d (omega arith) in
      let u : length (take n row) ≡ n = length-take-le n row (omega arith) in
      let e : at + k ≡ length (take at d) + k = omega arith in
      rw (append_assoc (take at d) (take n row) (drop (at + n) d))
      (ap (λ (q : ℕ). get_or (take at d ++ (take n row ++ drop (at + n) d)) q (pos 0)) e
      ∙ get_or-append-add (take at d) (take n row ++ drop (at + n) d) k (pos 0)
      ∙ get_or-append (take n row) (drop (at + n) d) (pos 0) k (omega arith)
      ∙ get_or-take n row k (pos 0) h)

  pub pasted_below : (q : ℕ) → q < at → get_or (pasted d at row) q (pos 0) ≡ get_or d q (pos 0)
  pasted_below q h =
      let n = length row in
      let t : length (take at d) ≡ at = length-take-le at d (omega arith) in
      rw (append_assoc (take at d) (take n row) (drop (at + n) d))
      (get_or-append (take at d) (take n row ++ drop (at + n) d) (pos 0) q (omega arith) ∙ get_or-take at d q (pos 0) h)

  pasted_above : (q : ℕ) → at + length row ≤ q → get_or (pasted d at row) q (pos 0) ≡ get_or d q (pos 0)
  pasted_above q h =
      let n = length row in
      let t : length (take at d ++ take n row) ≡ at + n = length_paste_head d at row n (omega arith) (omega arith) in
      let e : q ≡ length (take at d ++ take n row) + (q - (at + n)) = omega arith in
      let f : at + n + (q - (at + n)) ≡ q = omega arith in
      ap (λ (p : ℕ). get_or (pasted d at row) p (pos 0)) e
      ∙ get_or-append-add (take at d ++ take n row) (drop (at + n) d) (q - (at + n)) (pos 0)
      ∙ get_or-drop (at + n) d (q - (at + n)) (pos 0)
      ∙ ap (λ (p : ℕ). get_or d p (pos 0)) f

  pub pasted_off : (q : ℕ) → ((k : ℕ) → k < length row → q ≡ at + k → ⊥) → get_or (pasted d at row) q (pos 0) ≡ get_or d q (pos 0)
  pasted_off q off = by_place (lt_or_ge q at) (lt_or_ge q (at + length row))
    where
      by_place : (q < at) ⊎ (at ≤ q) → (q < at + length row) ⊎ (at + length row ≤ q) → get_or (pasted d at row) q (pos 0) ≡ get_or d q (pos 0)
      by_place (inl l) _ = pasted_below q l
      by_place (inr g) (inl l) = absurd (off (q - at) (omega arith) (omega arith))
      by_place (inr g) (inr h) = pasted_above q h
