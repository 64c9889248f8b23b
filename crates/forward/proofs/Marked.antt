-- The mark row by row: of rows of residuals and of the samples that they are made of, whether some sample lies outside the plain range; one row more,
-- in a part that was lent, and the first. Assumes nothing.
use mathlib.Core.Path.{◌≡◌, ap, ◌∙◌}
use mathlib.Core.Bool.{Bool, ◌||◌, ◌&&◌}
use mathlib.Core.List.{List, ◌++◌}
use Prim.Native.Nat.{ℕ, ◌+◌, ◌*◌, ◌≤◌}
use native.Mathlib.Omega.{arith}
use native.Mathlib.Nat.{add-mul}
use lib.IntN.{ℤ}
use lib.ListN.{length, take, drop}
use lib.Seq.{take_all, length-take-le, take-append_seam, take-append-add}
use Rattle.range.specs.Range.{some_outside}
use Rattle.range.proofs.Slices.{one_after_other}
use Rattle.range.proofs.Told.{gather, one_behind, samples_more}

-- ---- in slices
-- a part behind s entries that stayed
part_more : (s n k : ℕ) (old part : List ℤ) → s ≤ length old → length part ≡ n
    → take (s + n) (take s old ++ (part ++ drop k (drop s old))) ≡ take s old ++ part
part_more s n k old part h e =
    let rest = drop k (drop s old) in
    rw (length-take-le s old h) at (take-append-add (take s old) (part ++ rest) n) ∙ ap (λ (l : List ℤ). take s old ++ l) (rw e at (take-append_seam part rest))

-- n residuals more, made of w samples more
pub more : (m far turn : Bool) (s n s' t w t' k : ℕ) (old part xs : List ℤ) → s ≤ length old → length part ≡ n → s' ≡ s + n → t' ≡ t + w
    → far ≡ (m && (some_outside (take s old) || some_outside (take t xs)))
    → turn ≡ (m && (some_outside part || some_outside (take w (drop t xs))))
    → (far || turn) ≡ (m && (some_outside (take s' (take s old ++ (part ++ drop k (drop s old)))) || some_outside (take t' xs)))
more m far turn s n s' t w t' k old part xs h e es et ef eu =
    rw (es, et, part_more s n k old part h e, one_after_other (take s old) part, samples_more t w xs, ef, eu)
    (gather m (some_outside (take s old)) (some_outside (take t xs)) (some_outside part) (some_outside (take w (drop t xs))))

-- ---- rows of w across all lines
-- the two rows of samples behind those of y pairs
pub two_rows : (y w : ℕ) → (y + 1 + (y + 1)) * w ≡ (y + y) * w + (w + w)
two_rows y w = let e : y + 1 + (y + 1) ≡ y + y + 2 = omega arith in rw e (add-mul (y + y) 2 w ∙ omega arith)

-- a row of residuals behind those of y pairs
pub row_more : (m far turn : Bool) (y n w k : ℕ) (old row xs : List ℤ) → y * w ≤ length old → length row ≡ w → n ≡ y + 1
    → far ≡ (m && (some_outside (take (y * w) old) || some_outside (take ((y + y) * w) xs)))
    → turn ≡ (m && (some_outside row || some_outside (take (w + w) (drop ((y + y) * w) xs))))
    → (far || turn) ≡ (m && (some_outside (take (n * w) (take (y * w) old ++ (row ++ drop k (drop (y * w) old)))) || some_outside (take ((n + n) * w) xs)))
row_more m far turn y n w k old row xs h e en =
    rw en (more m far turn (y * w) w ((y + 1) * w) ((y + y) * w) (w + w) ((y + 1 + (y + 1)) * w) k old row xs h e (add-mul y 1 w ∙ omega arith) (two_rows y w))

-- the first row
pub row_first : (m turn : Bool) (n w : ℕ) (row others xs : List ℤ) → length row ≡ w → n ≡ 1
    → turn ≡ (m && (some_outside row || some_outside (take (w + w) (drop ((0 + 0) * w) xs))))
    → turn ≡ (m && (some_outside (take (n * w) (row ++ others)) || some_outside (take ((n + n) * w) xs)))
row_first m turn n w row others xs e en eu =
    let a : n * w ≡ length row = rw en (omega arith) in
    let b : (n + n) * w ≡ w + w = rw en (omega arith) in
    let z : (0 + 0) * w ≡ 0 = omega arith in
    rw (a, b, take-append_seam row others) (rw z at eu)

-- rows of residuals, each of two rows of samples, and a row of tails
pub with_tails : (m far turn : Bool) (n w : ℕ) (res xs : List ℤ) → length res ≡ n * w → length xs ≡ (n + n) * w + w
    → far ≡ (m && (some_outside (take (n * w) res) || some_outside (take ((n + n) * w) xs)))
    → turn ≡ (m && some_outside (take w (drop ((n + n) * w) xs)))
    → (far || turn) ≡ (m && (some_outside res || some_outside xs))
with_tails m far turn n w res xs er ex ef eu =
    let t = (n + n) * w in
    let all = rw (take_all (t + w) xs (omega arith)) at (samples_more t w xs) in
    rw (ef, eu, take_all (n * w) res (omega arith), all) (one_behind m (some_outside res) (some_outside (take t xs)) (some_outside (take w (drop t xs))))

-- and without tails
pub no_tails : (m far : Bool) (n w : ℕ) (res xs : List ℤ) → length res ≡ n * w → length xs ≡ (n + n) * w
    → far ≡ (m && (some_outside (take (n * w) res) || some_outside (take ((n + n) * w) xs)))
    → far ≡ (m && (some_outside res || some_outside xs))
no_tails m far n w res xs er ex ef = rw (take_all (n * w) res (omega arith), take_all ((n + n) * w) xs (omega arith)) at ef
