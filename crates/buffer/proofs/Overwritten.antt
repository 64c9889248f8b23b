-- A slice whose front is overwritten from another, sample by sample, and what callers ask of a slice after a copy and after it was cleared. Assumes
-- nothing.
use mathlib.Core.Path.{◌≡◌, sym, ap, ◌∙◌}
use mathlib.Core.List.{List, ◌++◌, append-nil}
use Prim.Native.Nat.{ℕ, suc, ◌+◌, ◌<◌, ◌≤◌}
use native.Mathlib.Omega.{arith}
use native.Mathlib.Numerals.{add-one}
use lib.IntN.{ℤ, pos}
use lib.ListN.{length, get_or, set, take, drop}
use lib.Seq.{take-suc, drop-cons, set_at, append_snoc, take_all, length-take-le, drop-length}
use Rattle.buffer.specs.Buffer.{both, copied, zeros}

-- the first k samples of xs, and from there on the slice as it was
abbrev pub overwritten : List ℤ → ℕ → List ℤ → List ℤ
overwritten xs k out = take k xs ++ drop k out

pub overwritten_more : (xs out : List ℤ) (k : ℕ) (v : ℤ) → k < length xs → k < length out → v ≡ get_or xs k (pos 0)
    → set (overwritten xs k out) k v ≡ overwritten xs (k + 1) out
overwritten_more xs out k v hx ho e =
    rw (add-one, e, drop-cons out k (pos 0) ho, take-suc xs k (pos 0) hx)
    (set_at (take k xs) (get_or out k (pos 0)) (drop (suc k) out) (get_or xs k (pos 0)) k (length-take-le k xs (omega arith))
    ∙ sym (append_snoc (take k xs) (get_or xs k (pos 0)) (drop (suc k) out)))

pub overwritten_copied : (from to : List ℤ) (k : ℕ) → k ≡ both from to → overwritten from k to ≡ copied from to
unfolding copied
overwritten_copied from to k e = rw e

-- zeros go by the length
pub zeros_same : (xs ys : List ℤ) → length xs ≡ length ys → zeros xs ≡ zeros ys
unfolding zeros
zeros_same xs ys e = rw e

-- a slice with room for all of the other
pub copied_front : (from to : List ℤ) → length from ≤ length to → copied from to ≡ from ++ drop (length from) to
unfolding copied
copied_front from to h =
    let e : both from to ≡ length from = omega arith in
    rw e (ap (λ (l : List ℤ). l ++ drop (length from) to) (take_all (length from) from (omega arith)))

-- slices of the same length
pub copied_all : (from to : List ℤ) → length from ≡ length to → copied from to ≡ from
copied_all from to h =
    copied_front from to (omega arith) ∙ rw (h, drop-length to) (append-nil from)
