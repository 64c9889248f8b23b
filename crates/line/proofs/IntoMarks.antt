-- The mark of a call that writes a squeeze into a slice (`marked_into` of specs/Marks.antt): the squeeze's where sizes fit, and none where they do not,
-- or where the slice has no sample. `marks` is whether the call tells at all. Assumes nothing.
use mathlib.Core.Path.{◌≡◌, refl, sym, ap, ◌∙◌}
use mathlib.Core.Bool.{Bool, true, false, ◌||◌, ◌&&◌}
use mathlib.Core.List.{List}
use Prim.Native.Nat.{ℕ, ◌*◌, ◌≤◌}
use native.Mathlib.Omega.{arith}
use native.Mathlib.Nat.{mul-le-mul_right}
use borrow.Author.Tests.{le-ltb}
use lib.IntN.{ℤ}
use lib.ListN.{length}
use Rattle.range.specs.Range.{some_outside}
use Rattle.range.proofs.Some.{both_false, none}
use Rattle.range.proofs.Slices.{none_outside}
use Rattle.line.specs.Line.{Line}
use Rattle.line.specs.Uncut.{Squeeze, Fitting, line_of, size, uncut}
use Rattle.line.specs.Forward.{Samples}
use Rattle.line.specs.Into.{fits}
use Rattle.line.specs.Marks.{pair_at_marked, copied_marked, line_marked, squeeze_marked, marked_into, outers_outside}
use Rattle.line.proofs.Outputs.{line_averages, line_residuals}
use Rattle.line.proofs.Into.{fitted}
use Rattle.line.proofs.Pairs.{averages_are_all}
use Rattle.line.proofs.Marks.{marked_by_samples}

-- without a pair there is no residual, and the output is the averages
pub unpaired_marked : (marks : Bool) (s : Squeeze) {told : Bool} → Fitting s → s.residuals ≡ 0 → told ≡ (marks && some_outside s.avg)
    → told ≡ (marks && (some_outside s.res || some_outside (uncut s)))
unpaired_marked marks s f none e =
    let l : length s.res ≡ 0 = f.res_length ∙ ap (λ (x : ℕ). s.lines * x) none ∙ omega arith in
    rw (none_outside s.res (λ i h. absurd (omega arith)), ← averages_are_all f none) e

-- a line of nothing
empty_unmarked : (l : Line) → l.averages ≡ 0 → l.residuals ≡ 0 → line_marked l ≡ false
unfolding line_marked copied_marked
empty_unmarked l em en =
    both_false _ _ (none (pair_at_marked l) l.residuals (λ i h. absurd (omega arith))) (rw (le-ltb l.residuals l.averages (omega arith)) refl)

-- a squeeze of no sample has no line, or lines of nothing
nothing_unmarked : (s : Squeeze) → s.lines * size s ≡ 0 → squeeze_marked s ≡ false
unfolding squeeze_marked
nothing_unmarked s e =
    none (λ k. line_marked (line_of s k)) s.lines
    (λ k h.
    let o : 1 ≤ s.lines = omega arith in
    let p = mul-le-mul_right (size s) o in
    empty_unmarked (line_of s k) (omega (arith, line_averages s k)) (omega (arith, line_residuals s k)))

module _ (marks : Bool) (s : Squeeze) (out : List ℤ) where
  abbrev Fits : Bool
  Fits = fits s.lines s.averages s.residuals s.avg s.res s.next s.prev out

  unmarked_none : marked_into s out ≡ false → false ≡ (marks && marked_into s out)
  unmarked_none e = by_mark marks
    where
      by_mark : (m : Bool) → false ≡ (m && marked_into s out)
      by_mark true = sym e
      by_mark false = refl

  pub marked_kept : Fits ≡ false → false ≡ (marks && marked_into s out)
  unfolding marked_into
  marked_kept e = unmarked_none (rw e refl)

  pub marked_none : length out ≡ 0 → false ≡ (marks && marked_into s out)
  unfolding marked_into
  marked_none z = by_test Fits refl
    where
      by_test : (t : Bool) → Fits ≡ t → false ≡ (marks && marked_into s out)
      by_test false e = marked_kept e
      by_test true e = unmarked_none (rw (e, nothing_unmarked s (omega (arith, (fitted s out e).1))) refl)

  -- as code tells it
  pub marked_fits : Fits ≡ true → (marks ≡ true → Samples s.avg)
      → (marks && (some_outside s.res || (some_outside (uncut s) || outers_outside s))) ≡ (marks && marked_into s out)
  unfolding marked_into
  marked_fits e = by_mark marks
    where
      by_mark : (m : Bool) → (m ≡ true → Samples s.avg)
          → (m && (some_outside s.res || (some_outside (uncut s) || outers_outside s))) ≡ (m && marked_into s out)
      by_mark true f = rw (e, marked_by_samples s (fitted s out e).0 (f refl)) refl
      by_mark false f = refl
