-- What a call with a mark comes to (specs/Marked.antt), by the call without one: refused, it leaves every slice; without room for a number it is refused
-- by that question where no other refuses it; else its answer and slices are the same, and the number is the mark. Assumes nothing.
use mathlib.Core.Path.{◌≡◌, refl, sym, ◌∙◌}
use mathlib.Core.Bool.{Bool, true, false, cond}
use mathlib.Core.List.{List, [], ◌∷◌}
use Prim.Native.Nat.{ℕ, zero, suc, ◌≤◌}
use native.Mathlib.Omega.{arith}
use lib.Dec.{eqb}
use lib.IntN.{ℤ}
use lib.ListN.{length, drop, set}
use mir.Val.{bool_byte}
use borrow.Author.Tests.{eqb-true, eq-eqb, ne_eqb, le-leb, lt-leb}
use Rattle.numbers.specs.Numbers.{refused_length}
use Rattle.list.specs.Questions.{ask}
use Rattle.squeeze.specs.Marked.{with_mark, slice_after, mark_after}

-- u is the answer of the call without a mark, and a that of the call with one
module _ (u a : ℕ) (mark : List ℕ) (e : a ≡ with_mark u mark) where
  -- a refused call
  module _ (h : a ≡ 0 → ⊥) where
    stays : eqb (with_mark u mark) 0 ≡ false
    stays = ne_eqb (with_mark u mark) 0 (λ z. h (e ∙ z))

    pub slice_kept : (before after : List ℤ) → before ≡ slice_after u mark after before
    unfolding slice_after
    slice_kept before after = rw stays refl

    pub mark_kept : (marked : Bool) → mark ≡ mark_after u mark marked
    unfolding mark_after
    mark_kept marked = rw stays refl

-- a call that another question refuses, or that has room for a number
pub refused_anyway : (u : ℕ) (mark : List ℕ) → (u ≡ 0 → ⊥) → u ≡ with_mark u mark
unfolding with_mark
refused_anyway u mark h = rw (ne_eqb u 0 h) refl

pub with_room : (u : ℕ) (mark : List ℕ) → (length mark ≡ 0 → ⊥) → u ≡ with_mark u mark
unfolding with_mark
with_room u mark h = by (eqb u 0) refl
  where
    room : 1 ≤ length mark
    room = some (length mark) h
      where
        some : (n : ℕ) → (n ≡ 0 → ⊥) → 1 ≤ n
        some zero k = absurd (k refl)
        some (suc n) k = omega arith

    by : (b : Bool) → eqb u 0 ≡ b → u ≡ with_mark u mark
    by true e = let z = eqb-true u 0 e in rw (e, le-leb 1 (length mark) room) z
    by false e = rw e refl

-- no room: j are the questions before the slices', and the slices' is asked of all of them
pub no_room : (j u a : ℕ) (fits : Bool) (mark : List ℕ) → length mark ≡ 0 → u ≡ ask (eqb j 0) j (ask fits refused_length 0)
    → a ≡ ask (eqb j 0) j refused_length → a ≡ with_mark u mark
unfolding with_mark
no_room j u a fits mark z eu ea = rw (eu, ea) (by (eqb j 0) fits refl)
  where
    by : (b d : Bool) → eqb j 0 ≡ b → ask (eqb j 0) j refused_length ≡ with_mark (ask (eqb j 0) j (ask d refused_length 0)) mark
    by true true e = rw (e, lt-leb 1 (length mark) (omega arith)) refl
    by true false e = rw e refl
    by false d e = rw (e, e) refl

pub no_room_left : (u : ℕ) (mark : List ℕ) → length mark ≡ 0 → 0 ≡ u → refused_length ≡ with_mark u mark
unfolding with_mark
no_room_left u mark z e = rw (eq-eqb u 0 (sym e), lt-leb 1 (length mark) (omega arith)) refl

-- a slice that stays as it was where the call without a mark is refused
pub slice_same : (u : ℕ) (mark : List ℕ) → u ≡ with_mark u mark → (after before : List ℤ)
    → cond (eqb u 0) after before ≡ slice_after u mark (cond (eqb u 0) after before) before
unfolding slice_after
slice_same u mark e after before = rw (← e) (by (eqb u 0))
  where
    by : (b : Bool) → cond b after before ≡ cond b (cond b after before) before
    by true = refl
    by false = refl

-- the mark as the first number of its slice
pub mark_stored : (u : ℕ) (mark : List ℕ) → 0 ≡ with_mark u mark → (length mark ≡ 0 → ⊥) → (marked : Bool)
    → set mark 0 (bool_byte marked) ≡ mark_after u mark marked
unfolding mark_after
mark_stored u mark e h marked = rw (eq-eqb (with_mark u mark) 0 (sym e)) (first_set mark h marked)
  where
    first_set : (ns : List ℕ) → (length ns ≡ 0 → ⊥) → (b : Bool) → set ns 0 (bool_byte b) ≡ cond b 1 0 ∷ drop 1 ns
    first_set [] k b = absurd (k refl)
    first_set (n ∷ ns) k true = refl
    first_set (n ∷ ns) k false = refl
