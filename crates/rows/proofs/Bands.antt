-- A slice that is overwritten with a list of as many rows, some rows at a time, from row 0 on or from a later one (`Down`): the front is the
-- new list's and the rest is as it was (`patch`). What is written is a part of the slice that was lent. Assumes nothing.
use mathlib.Core.Path.{◌≡◌, sym, ap, ◌∙◌}
use mathlib.Core.List.{List, ◌++◌, append_assoc, append-nil}
use Prim.Native.Nat.{ℕ, ◌+◌, ◌-◌, ◌*◌, ◌≤◌}
use native.Mathlib.Omega.{arith}
use native.Mathlib.Nat.{add-mul, mul-le-mul_right}
use lib.IntN.{ℤ}
use lib.ListN.{length, take, drop, length-append, length-drop, take-append-drop, drop_of_length-le}
use lib.Seq.{take_at, drop_at, take-add, drop-drop, take_all, length-take-le}
use Rattle.rows.proofs.Strips.{rows_room}

-- ---- the first k elements of one list, and the rest of another
abbrev pub patch : List ℤ → List ℤ → ℕ → List ℤ
patch new old k = take k new ++ drop k old

module _ (new old : List ℤ) (k : ℕ) (h : k ≤ length new) where
  patch_front : take k (patch new old k) ≡ take k new
  patch_front = take_at (take k new) (drop k old) k (length-take-le k new h)

  patch_rest : (w : ℕ) → drop (k + w) (patch new old k) ≡ drop (k + w) old
  patch_rest w =
      rw (← drop-drop w k (patch new old k), ← drop-drop w k old)
      (ap (drop w) (drop_at (take k new) (drop k old) k (length-take-le k new h)))

  patch_length : length old ≡ length new → length (patch new old k) ≡ length new
  patch_length e =
      let t = length-take-le k new h in
      let d = length-drop k old in
      length-append (take k new) (drop k old) ∙ omega arith

  -- the rest of the new list, too
  pub patch_both : patch (patch new old k) new k ≡ new
  patch_both = rw patch_front (take-append-drop k new)

  -- w elements more
  patch_more : (w : ℕ) → take k (patch new old k) ++ (take w (drop k new) ++ drop w (drop k (patch new old k))) ≡ patch new old (k + w)
  patch_more w =
      rw (patch_front, drop-drop w k (patch new old k), patch_rest w, take-add k w new)
      (sym (append_assoc (take k new) (take w (drop k new)) (drop (k + w) old)))

-- ---- y rows are done
pub record Down (lines size : ℕ) (new old out : List ℤ) (y : ℕ) : Type 0 where
  pub inside : y ≤ lines
  pub long : length out ≡ lines * size
  pub so : out ≡ patch new old (y * size)

module _ (lines size : ℕ) (new old : List ℤ) (ln : length new ≡ lines * size) (lo : length old ≡ lines * size) where
  pub down_none : (y : ℕ) → y ≤ lines → take (y * size) new ≡ take (y * size) old → Down lines size new old old y
  down_none y h e = record { inside = h; long = lo; so = sym (rw e (take-append-drop (y * size) old)) }

  pub down_more : (out part : List ℤ) (y c : ℕ) → y + c ≤ lines → part ≡ take (c * size) (drop (y * size) new)
      → Down lines size new old out y
      → Down lines size new old (take (y * size) out ++ (part ++ drop (c * size) (drop (y * size) out))) (y + c)
  down_more out part y c h e d =
      let r = rows_room y c lines size h in
      let k : y * size ≤ length new = omega arith in
      let w : y * size + c * size ≤ length new = omega arith in
      let f : take (y * size) out ++ (part ++ drop (c * size) (drop (y * size) out)) ≡ patch new old (y * size + c * size) =
      rw (e, d.so) (patch_more new old (y * size) k (c * size)) in
      record { inside = h; long = rw f (patch_length new old (y * size + c * size) w (omega arith) ∙ ln); so = rw (add-mul y c size) f }

  pub down_all : (out : List ℤ) (y : ℕ) → lines ≤ y → Down lines size new old out y → out ≡ new
  down_all out y h d =
      let i = d.inside in
      let e : y ≡ lines = omega arith in
      let a : length new ≤ lines * size = omega arith in
      let b : length old ≤ lines * size = omega arith in
      d.so ∙ rw (e, take_all (lines * size) new a, drop_of_length-le old b) (append-nil new)

-- ---- the rows before `from` stay as they were
module _ (lines size : ℕ) (new old : List ℤ) (ln : length new ≡ lines * size) (lo : length old ≡ lines * size) (from : ℕ) (h : from ≤ lines) where
  room : from * size ≤ length old
  room = rw lo (mul-le-mul_right size h)

  long : length (patch old new (from * size)) ≡ lines * size
  long = patch_length old new (from * size) room (omega arith) ∙ lo

  pub rest_none : Down lines size (patch old new (from * size)) old old from
  rest_none = down_none lines size (patch old new (from * size)) old long lo from h (patch_front old new (from * size) room)

  pub rest_more : (out part : List ℤ) (y c : ℕ) → from ≤ y → y + c ≤ lines → part ≡ take (c * size) (drop (y * size) new)
      → Down lines size (patch old new (from * size)) old out y
      → Down lines size (patch old new (from * size)) old (take (y * size) out ++ (part ++ drop (c * size) (drop (y * size) out))) (y + c)
  rest_more out part y c p q e d =
      let k : from * size ≤ y * size = mul-le-mul_right size p in
      let s : y * size ≡ from * size + (y * size - from * size) = omega arith in
      let r : drop (y * size) (patch old new (from * size)) ≡ drop (y * size) new = rw s (patch_rest old new (from * size) room (y * size - from * size)) in
      down_more lines size (patch old new (from * size)) old long lo out part y c q (rw r e) d

  pub rest_all : (out : List ℤ) (y : ℕ) → lines ≤ y → Down lines size (patch old new (from * size)) old out y → out ≡ patch old new (from * size)
  rest_all = down_all lines size (patch old new (from * size)) old long lo
