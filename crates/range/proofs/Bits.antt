-- A sample counted from the range's lowest on: it lies in the range exactly if that is below 2^29, and of some numbers put together by `or` one is at
-- least 2^29 exactly if the result is. Assumes nothing.
use mathlib.Core.Path.{◌≡◌, refl, sym, ap, ◌∙◌}
use mathlib.Core.List.{List, [], ◌∷◌}
use lib.ListN.{length, get_or, take}
use lib.Seq.{take-suc}
use mir.Syntax.{w32}
use mir.Val.{of_z}
use mathlib.Core.Bool.{Bool, true, false, ◌||◌}
use mathlib.Core.Logic.{◌⊎◌, inl, inr}
use Prim.Native.Nat.{ℕ, suc, ◌+◌, ◌%◌, ◌<◌, ◌≤◌}
use native.Mathlib.Omega.{arith}
use borrow.Author.Tests.{lt-leb, le-leb}
use lib.Dec.{leb}
use lib.IntN.{ℤ, pos, negsuc, ◌+ℤ◌}
use Rattle.std.specs.Int.Bits.{bit_or}
use Rattle.std.proofs.lemmas.Nat.{or_lt, le_or_l, le_or_r}
use Rattle.std.proofs.lemmas.Bool.{cases_lt}
use Rattle.arith32.specs.Arith.{Sample, modulus, residue, ◌⊕◌}
use Rattle.arith32.proofs.Residues.{residue_sum, residue_wrap, residue_bits}
use Rattle.arith32.proofs.Whole.{above, below, is_less, is_not_less, range32}
use Rattle.range.specs.Range.{lowest, highest, outside, some_outside}
use Rattle.range.proofs.Slices.{one_after_other}

counted : (z : ℤ) → residue (z ⊕ pos 268435456) ≡ (residue z + 268435456) % modulus
unfolding residue
counted z = residue_wrap (z +ℤ pos 268435456) ∙ residue_sum z (pos 268435456)

-- a sample inside counts up to 2^29, and one outside from there on
inside_low : (z : ℤ) → Sample z → below z ≤ above z + 268435456 → above z < below z + 268435456 → residue (z ⊕ pos 268435456) < 536870912
unfolding residue above below
inside_low (pos n) f l h = let e = counted (pos n) in omega arith
inside_low (negsuc n) f l h = let e = counted (negsuc n) in omega arith

outside_high : (z : ℤ) → Sample z → (above z + 268435456 < below z) ⊎ (below z + 268435456 ≤ above z) → 536870912 ≤ residue (z ⊕ pos 268435456)
unfolding residue above below
outside_high (pos n) f (inl h) = absurd (omega arith)
outside_high (pos n) f (inr h) = let e = counted (pos n) in let r = range32 (pos n) f in omega arith
outside_high (negsuc n) f (inl h) = let e = counted (negsuc n) in let r = range32 (negsuc n) f in omega arith
outside_high (negsuc n) f (inr h) = absurd (omega arith)

pub counts : (z : ℤ) → Sample z → leb 536870912 (residue (z ⊕ pos 268435456)) ≡ outside z
unfolding outside above below
counts z f = by (cases_lt (above z + 268435456) (below z)) (cases_lt (above z) (below z + 268435456))
  where
    by : (above z + 268435456 < below z) ⊎ (below z ≤ above z + 268435456) → (above z < below z + 268435456) ⊎ (below z + 268435456 ≤ above z)
        → leb 536870912 (residue (z ⊕ pos 268435456)) ≡ outside z
    by (inl l) h =
        rw (le-leb 536870912 (residue (z ⊕ pos 268435456)) (outside_high z f (inl l)), is_less z lowest (omega arith)) refl
    by (inr l) (inr h) =
        rw (le-leb 536870912 (residue (z ⊕ pos 268435456)) (outside_high z f (inr h)), is_not_less z lowest (omega arith), is_less highest z (omega arith)) refl
    by (inr l) (inl h) =
        rw (lt-leb 536870912 (residue (z ⊕ pos 268435456)) (inside_low z f l h), is_not_less z lowest (omega arith), is_not_less highest z (omega arith)) refl

-- the bits of a sample are its residue
pub bits : (z : ℤ) → Sample z → of_z w32 z ≡ residue z
bits z f = sym (residue_bits z f)

-- ---- or
pub put_together : (a b : ℕ) → leb 536870912 (bit_or a b) ≡ (leb 536870912 a || leb 536870912 b)
put_together a b = by (cases_lt a 536870912) (cases_lt b 536870912)
  where
    by : (a < 536870912) ⊎ (536870912 ≤ a) → (b < 536870912) ⊎ (536870912 ≤ b)
        → leb 536870912 (bit_or a b) ≡ (leb 536870912 a || leb 536870912 b)
    by (inl l) (inl m) =
        rw (lt-leb 536870912 (bit_or a b) (or_lt 29 a b l m), lt-leb 536870912 a l, lt-leb 536870912 b m) refl
    by (inl l) (inr m) =
        rw (le-leb 536870912 (bit_or a b) (omega (arith, le_or_r a b)), lt-leb 536870912 a l, le-leb 536870912 b m) refl
    by (inr l) m = rw (le-leb 536870912 (bit_or a b) (omega (arith, le_or_l a b)), le-leb 536870912 a l) refl

pub one_more : (xs : List ℤ) (i all : ℕ) → i < length xs → Sample (get_or xs i (pos 0)) → leb 536870912 all ≡ some_outside (take i xs)
    → leb 536870912 (bit_or all (residue (get_or xs i (pos 0) ⊕ pos 268435456))) ≡ some_outside (take (i + 1) xs)
one_more xs i all l f e =
    let x = get_or xs i (pos 0) in
    let n : i + 1 ≡ suc i = omega arith in
    rw (n, take-suc xs i (pos 0) l, one_after_other (take i xs) (x ∷ []), put_together all (residue (x ⊕ pos 268435456)), counts x f, e)
    (ap (λ (b : Bool). some_outside (take i xs) || b) (sym (or_false (outside x))))
  where
    or_false : (b : Bool) → (b || false) ≡ b
    or_false true = refl
    or_false false = refl
