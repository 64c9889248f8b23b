-- What stands in the lines of a squeeze and in its uncut output (specs/Uncut.antt), in a part of a slice, and in a strip's part of an outer line. Assumes nothing.
use mathlib.Core.Path.{◌≡◌, refl, ◌∙◌}
use mathlib.Core.List.{List, [], ◌∷◌}
use mathlib.Core.Logic.{◌⊎◌, inl, inr}
use Prim.Native.Nat.{ℕ, ◌+◌, ◌-◌, ◌*◌, ◌<◌, ◌≤◌}
use native.Mathlib.Omega.{arith}
use lib.IntN.{ℤ, pos}
use lib.ListN.{length, get_or, take, drop, length-take, length-drop}
use lib.Seq.{get_or-take, get_or-drop, drop-cons, drop-drop, drop-nil, take-take}
use Rattle.std.proofs.lemmas.List.{drop-take}
use Rattle.line.specs.Line.{sample}
use Rattle.line.specs.Uncut.{Squeeze, place, size, outer, line_of, output_at, uncut}
use Rattle.line.proofs.Tables.{table_length}
use Rattle.line.proofs.Places.{entry_at}

-- ---- what lies at a place of the uncut output
pub uncut_length : (s : Squeeze) → length (uncut s) ≡ s.lines * size s
unfolding uncut
uncut_length s = table_length (output_at s) 0 (s.lines * size s)

pub uncut_at : (s : Squeeze) (k j : ℕ) → k < s.lines → j < size s
    → get_or (uncut s) (place s.horizontal s.lines (size s) k j) (pos 0) ≡ sample (line_of s k) j
unfolding uncut output_at
uncut_at s k j hk hj = entry_at s.horizontal s.lines (size s) (λ k i. sample (line_of s k) i) k j hk hj

-- ---- the entries of a line
module _ (s : Squeeze) (k : ℕ) where
  pub line_averages : (line_of s k).averages ≡ s.averages
  unfolding line_of
  line_averages = refl

  pub line_residuals : (line_of s k).residuals ≡ s.residuals
  unfolding line_of
  line_residuals = refl

  pub line_avg : (i : ℕ) → (line_of s k).avg i ≡ get_or s.avg (place s.horizontal s.lines s.averages k i) (pos 0)
  unfolding line_of
  line_avg i = refl

  pub line_res : (i : ℕ) → (line_of s k).res i ≡ get_or s.res (place s.horizontal s.lines s.residuals k i) (pos 0)
  unfolding line_of
  line_res i = refl

  pub line_next : (line_of s k).next ≡ outer s.next k
  unfolding line_of
  line_next = refl

  pub line_prev : (line_of s k).prev ≡ outer s.prev k
  unfolding line_of
  line_prev = refl

-- ---- outer lines
-- the sample of a line that is there
pub outer_at : (xs : List ℤ) (k : ℕ) → k < length xs → outer xs k ≡ get_or xs k (pos 0) ∷ []
outer_at xs k h = rw (drop-cons xs k (pos 0) h)

-- an absent line has none
pub outer_none : (k : ℕ) → outer [] k ≡ []
outer_none k = rw (drop-nil {A = ℤ} k)

-- a part of a slice, its entries, and a strip's part of an outer line that is absent or whole
pub part_length : (start n : ℕ) (xs : List ℤ) → start + n ≤ length xs → length (take n (drop start xs)) ≡ n
part_length start n xs h = simp (length-take, length-drop) (omega arith)

pub part_at : (start n i : ℕ) (xs : List ℤ) → i < n → get_or (take n (drop start xs)) i (pos 0) ≡ get_or xs (start + i) (pos 0)
part_at start n i xs h = get_or-take n (drop start xs) i (pos 0) h ∙ get_or-drop start xs i (pos 0)

pub outer_length : (start lines whole : ℕ) (xs : List ℤ) → start + lines ≤ whole → (length xs ≡ 0) ⊎ (length xs ≡ whole)
    → (length (take lines (drop start xs)) ≡ 0) ⊎ (length (take lines (drop start xs)) ≡ lines)
outer_length start lines whole xs h (inl e) = inl (simp (length-take, length-drop) (omega arith))
outer_length start lines whole xs h (inr e) = inr (part_length start lines xs (omega arith))

-- a strip's part of an outer line gives the strip's lines what the whole gives them
pub outer_part : (xs : List ℤ) (start lines k : ℕ) → k < lines → outer (take lines (drop start xs)) k ≡ outer xs (start + k)
outer_part xs start lines k h =
    let e : k + (lines - k) ≡ lines = omega arith in
    let d : drop k (take lines (drop start xs)) ≡ take (lines - k) (drop k (drop start xs)) = rw e at (drop-take k (lines - k) (drop start xs)) in
    rw (d, drop-drop k start xs) (take-take 1 (lines - k) (drop (start + k) xs) (omega arith))
