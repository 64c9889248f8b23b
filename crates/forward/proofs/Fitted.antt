-- Slices filled with the entries of all lines are the averages and the residuals, also of lines of one sample; and what callers ask of
-- `squeezed_into` and `marked_into` (specs/Into.antt). Assumes nothing.
use mathlib.Core.Path.{◌≡◌, refl, sym, ◌∙◌}
use mathlib.Core.Bool.{Bool, true, false}
use mathlib.Core.List.{List, ◌++◌}
use mathlib.Core.Logic.{◌⊎◌, inl, inr}
use Prim.Native.Nat.{ℕ, ◌+◌, ◌*◌, ◌/◌, ◌<◌, ◌≤◌}
use native.Mathlib.Omega.{arith}
use native.Mathlib.Nat.{mul_comm}
use borrow.Author.Tests.{eq-eqb, le-leb}
use lib.IntN.{ℤ, pos}
use lib.ListN.{length, get_or}
use Rattle.numbers.specs.Numbers.{max_side}
use Rattle.line.specs.Uncut.{table}
use Rattle.line.specs.Forward as F
use Rattle.line.specs.Forward.{average_count, residual_count, averages_of, residuals_of, line_in}
use Rattle.std.proofs.lemmas.Bool.{cases_lt}
use Rattle.forward.specs.Rows.{average_entry, residual_entry, Filled}
use Rattle.line.specs.Marks.{lines_marked}
use Rattle.forward.specs.Into.{slices_fit, squeezed_into, marked_into}
use Rattle.line.proofs.Alone.{average_tail}
use Rattle.forward.proofs.Entries.{average_entry_lem}
use Rattle.forward.proofs.Filled.{filled_all}

-- ---- all entries
module _ (d : Bool) (lines size : ℕ) (xs : List ℤ) where
  averages_entries : table (average_entry d lines size xs) 0 (lines * average_count size) ≡ averages_of d lines size xs
  unfolding F.averages_of average_entry
  averages_entries = refl

  residuals_entries : table (residual_entry d lines size xs) 0 (lines * residual_count size) ≡ residuals_of d lines size xs
  unfolding F.residuals_of residual_entry
  residuals_entries = refl

  pub averages_all : (out : List ℤ) → length out ≡ lines * average_count size → Filled (average_entry d lines size xs) (lines * average_count size) out
      → out ≡ averages_of d lines size xs
  averages_all out e p = filled_all (average_entry d lines size xs) (lines * average_count size) out e p ∙ averages_entries

  pub residuals_all : (out : List ℤ) → length out ≡ lines * residual_count size → Filled (residual_entry d lines size xs) (lines * residual_count size) out
      → out ≡ residuals_of d lines size xs
  residuals_all out e p = filled_all (residual_entry d lines size xs) (lines * residual_count size) out e p ∙ residuals_entries

-- ---- rows of a vertical squeeze: of residuals as many as there are pairs, of averages too where the lines have no tail
module _ (count width : ℕ) (xs out : List ℤ) where
  pub all_averages : count ≤ count / 2 + count / 2 → length out ≡ width * average_count count → Filled (average_entry false width count xs) (count / 2 * width) out
      → out ≡ averages_of false width count xs
  all_averages h e p =
      let k : average_count count ≡ count / 2 = omega arith in
      let m : count / 2 * width ≡ width * average_count count = rw k (mul_comm (count / 2) width) in
      averages_all false width count xs out e (rw m at p)

  pub all_residuals : length out ≡ width * residual_count count → Filled (residual_entry false width count xs) (count / 2 * width) out
      → out ≡ residuals_of false width count xs
  all_residuals e p =
      let k : residual_count count ≡ count / 2 = omega arith in
      let m : count / 2 * width ≡ width * residual_count count = rw k (mul_comm (count / 2) width) in
      residuals_all false width count xs out e (rw m at p)

-- ---- lines of one sample: their averages are the samples, and there are no residuals
module _ (lines size : ℕ) (xs : List ℤ) (h : size < 2) where
  pub tails_alone : length xs ≡ lines * size → xs ≡ averages_of true lines size xs
  tails_alone whole =
      let e : average_count size ≡ size = omega arith in
      averages_all true lines size xs xs (rw e whole) (λ j l. by j (cases_lt 0 size) l)
    where
      by : (j : ℕ) → (0 < size) ⊎ (size ≤ 0) → j < lines * average_count size → get_or xs j (pos 0) ≡ average_entry true lines size xs j
      by j (inl p) l =
          let a : average_count size ≡ 1 = omega arith in
          let one : size ≡ 1 = omega arith in
          let e : j * average_count size + 0 ≡ j = rw a (omega arith) in
          let s : j * size + (0 + 0) ≡ j = rw one (omega arith) in
          rw s at (sym (average_tail (line_in true lines size xs j) size 0 (omega arith))) ∙ rw e at (average_entry_lem true lines size xs j 0 (omega arith))
      by j (inr p) l =
          let a : average_count size ≡ 0 = omega arith in
          absurd (let none : j < lines * 0 = rw a at l in omega arith)

  pub no_residuals : (out : List ℤ) → length out ≡ lines * residual_count size → out ≡ residuals_of true lines size xs
  no_residuals out e =
      residuals_all true lines size xs out e
      (λ j l.
      let a : residual_count size ≡ 0 = omega arith in
      absurd (let none : j < lines * 0 = rw a at l in omega arith))

-- ---- slices that fit
pub into_fit : (d : Bool) (lines size : ℕ) (xs out : List ℤ) → slices_fit lines size xs out ≡ true
    → squeezed_into d lines size xs out ≡ averages_of d lines size xs ++ residuals_of d lines size xs
unfolding squeezed_into
into_fit d lines size xs out e = rw e

pub told_fit : (d : Bool) (lines size : ℕ) (xs out : List ℤ) → slices_fit lines size xs out ≡ true → marked_into d lines size xs out ≡ lines_marked d lines size xs
unfolding marked_into
told_fit d lines size xs out e = rw e

-- what callers ask: slices of the lengths that the sides ask for
pub fitting : (lines size : ℕ) (xs out : List ℤ) → lines ≤ max_side → size ≤ max_side → length xs ≡ lines * size → length out ≡ lines * size
    → slices_fit lines size xs out ≡ true
unfolding slices_fit
fitting lines size xs out p q ex eo =
    rw (le-leb lines max_side p, le-leb size max_side q, eq-eqb (length xs) (lines * size) ex, eq-eqb (length out) (lines * size) eo)
