-- Parts of slices and lines across them (specs/Cut.antt): how long they are, and what stands at a place of one. Assumes nothing.
use mathlib.Core.Path.{◌≡◌, ◌∙◌}
use mathlib.Core.Bool.{Bool}
use mathlib.Core.List.{List}
use Prim.Native.Nat.{ℕ, ◌+◌, ◌*◌, ◌<◌}
use native.Mathlib.Omega.{arith}
use lib.IntN.{ℤ, pos}
use lib.ListN.{length, get_or}
use Rattle.line.specs.Uncut.{place}
use Rattle.cuts.specs.Cut.{part, line_across}
use Rattle.line.proofs.Tables.{table_length, table_at}
use Rattle.line.proofs.Places.{entry_at}

-- ---- a part
module _ (horizontal : Bool) (whole size start lines from n : ℕ) (xs : List ℤ) where
  pub part_length : length (part horizontal whole size start lines from n xs) ≡ lines * n
  unfolding part
  part_length = table_length _ 0 (lines * n)

  pub part_at : (k i : ℕ) → k < lines → i < n
      → get_or (part horizontal whole size start lines from n xs) (place horizontal lines n k i) (pos 0)
      ≡ get_or xs (place horizontal whole size (start + k) (from + i)) (pos 0)
  unfolding part
  part_at = entry_at horizontal lines n (λ k i. get_or xs (place horizontal whole size (start + k) (from + i)) (pos 0))

-- ---- a line across
module _ (horizontal : Bool) (whole size start lines i : ℕ) (xs : List ℤ) where
  pub across_length : length (line_across horizontal whole size start lines i xs) ≡ lines
  unfolding line_across
  across_length = table_length _ 0 lines

  pub across_at : (k : ℕ) → k < lines
      → get_or (line_across horizontal whole size start lines i xs) k (pos 0) ≡ get_or xs (place horizontal whole size (start + k) i) (pos 0)
  unfolding line_across
  across_at k h =
      let z : 0 + k ≡ k = omega arith in
      table_at (λ k. get_or xs (place horizontal whole size (start + k) i) (pos 0)) 0 lines k h ∙ rw z
