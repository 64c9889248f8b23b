-- The test whether sizes and slices fit (`fits` of specs/Into.antt): its value by its parts, and that it says what `Fitting` says, in either
-- direction. So `uncut_into` is the uncut squeeze where sizes fit, and what was there where they do not. Assumes nothing.
use mathlib.Core.Path.{◌≡◌, refl, ap, ◌∙◌}
use mathlib.Core.Bool.{Bool, true, false, ◌&&◌, ◌||◌}
use mathlib.Core.List.{List}
use mathlib.Core.Logic.{◌⊎◌, inl, inr}
use Prim.Native.Nat.{ℕ, ◌+◌, ◌*◌, ◌<◌, ◌≤◌}
use native.Mathlib.Omega.{arith}
use borrow.Author.Tests.{leb-true, eqb-true, le-leb, lt-leb, eq-eqb}
use lib.Dec.{eqb, leb}
use lib.IntN.{ℤ, pos}
use lib.ListN.{length}
use lib.Seq.{ext_get_or}
use Rattle.line.specs.Uncut.{Squeeze, squeeze, Fitting, uncut}
use Rattle.line.specs.Into.{outer_fits, fits, uncut_into}
use Rattle.std.proofs.lemmas.Bool.{and_parts, cases_lt}
use Rattle.line.proofs.Outputs.{uncut_length}

-- ---- both parts of a conjunction
pub and_true : (a b : Bool) → a && b ≡ true → (a ≡ true) × (b ≡ true)
and_true = and_parts

-- ---- an outer line
pub outer_line : (lines : ℕ) (xs : List ℤ) → outer_fits lines xs ≡ true → (length xs ≡ 0) ⊎ (length xs ≡ lines)
unfolding outer_fits
outer_line lines xs e = by_test (eqb (length xs) 0) refl e
  where
    by_test : (t : Bool) → eqb (length xs) 0 ≡ t → t || eqb (length xs) lines ≡ true → (length xs ≡ 0) ⊎ (length xs ≡ lines)
    by_test true q p = inl (eqb-true (length xs) 0 q)
    by_test false q p = inr (eqb-true (length xs) lines p)

pub is_outer : (lines : ℕ) (xs : List ℤ) → (length xs ≡ 0) ⊎ (length xs ≡ lines) → outer_fits lines xs ≡ true
unfolding outer_fits
is_outer lines xs (inl e) = rw (eq-eqb (length xs) 0 e)
is_outer lines xs (inr e) = right (eqb (length xs) 0) (eq-eqb (length xs) lines e)
  where
    right : (a : Bool) {b : Bool} → b ≡ true → a || b ≡ true
    right true q = refl
    right false q = q

module _ (lines m n : ℕ) (avg res next prev out : List ℤ) where
  -- ---- the value by the parts
  pub too_few : m < n → false ≡ fits lines m n avg res next prev out
  unfolding fits
  too_few h = rw (lt-leb n m h)

  pub too_many : n ≤ m → n + 1 < m → false ≡ fits lines m n avg res next prev out
  unfolding fits
  too_many l h = rw (le-leb n m l, lt-leb m (n + 1) h)

  pub no_area : n ≤ m → m ≤ n + 1 → eqb (length avg) (lines * m) && eqb (length res) (lines * n) ≡ false
      → false ≡ fits lines m n avg res next prev out
  unfolding fits
  no_area l h e = rw (le-leb n m l, le-leb m (n + 1) h, e)

  pub by_rest : n ≤ m → m ≤ n + 1 → eqb (length avg) (lines * m) && eqb (length res) (lines * n) ≡ true
      → (outer_fits lines next && outer_fits lines prev) && eqb (length out) (length avg + length res) ≡ fits lines m n avg res next prev out
  unfolding fits
  by_rest l h e =
      let a = eqb-true (length avg) (lines * m) (and_parts (eqb (length avg) (lines * m)) (eqb (length res) (lines * n)) e).0 in
      let r = eqb-true (length res) (lines * n) (and_parts (eqb (length avg) (lines * m)) (eqb (length res) (lines * n)) e).1 in
      let s : length avg + length res ≡ lines * (m + n) = omega arith in
      rw (le-leb n m l, le-leb m (n + 1) h, e, s)

  -- ---- what it says
  pub fits_fitting : (horizontal : Bool) → fits lines m n avg res next prev out ≡ true
      → Fitting (squeeze horizontal lines m n avg res next prev) × (length out ≡ lines * (m + n))
  unfolding fits
  fits_fitting horizontal e =
      let p = and_parts (leb n m && leb m (n + 1)) _ e in
      let q = and_parts (leb n m) (leb m (n + 1)) p.0 in
      let r = and_parts (eqb (length avg) (lines * m) && eqb (length res) (lines * n)) _ p.1 in
      let t = and_parts (eqb (length avg) (lines * m)) (eqb (length res) (lines * n)) r.0 in
      let u = and_parts (outer_fits lines next && outer_fits lines prev) _ r.1 in
      let v = and_parts (outer_fits lines next) (outer_fits lines prev) u.0 in (
        record {
          low = leb-true n m q.0;
          high = leb-true m (n + 1) q.1;
          avg_length = eqb-true (length avg) (lines * m) t.0;
          res_length = eqb-true (length res) (lines * n) t.1;
          next_length = outer_line lines next v.0;
          prev_length = outer_line lines prev v.1;
        },
        eqb-true (length out) (lines * (m + n)) u.1,
      )

  pub fitting_fits : {horizontal : Bool} → Fitting (squeeze horizontal lines m n avg res next prev) → length out ≡ lines * (m + n)
      → fits lines m n avg res next prev out ≡ true
  unfolding fits
  fitting_fits f e =
      rw (
        le-leb n m f.low,
        le-leb m (n + 1) f.high,
        eq-eqb (length avg) (lines * m) f.avg_length,
        eq-eqb (length res) (lines * n) f.res_length,
        is_outer lines next f.next_length,
        is_outer lines prev f.prev_length,
        eq-eqb (length out) (lines * (m + n)) e,
      )

-- ---- sizes that fit
module _ {horizontal : Bool} {lines m n : ℕ} {avg res next prev : List ℤ} (fitting : Fitting (squeeze horizontal lines m n avg res next prev)) where
  -- where there is a sample there are lines, and an average in each
  module _ (out : List ℤ) (long : length out ≡ lines * (m + n)) (some : length out ≡ 0 → ⊥) where
    pub some_averages : 0 < m
    some_averages = by_order (cases_lt 0 m)
      where
        by_order : (0 < m) ⊎ (m ≤ 0) → 0 < m
        by_order (inl l) = l
        by_order (inr g) = let z : m + n ≡ 0 = omega (arith, fitting.low) in absurd (some (long ∙ ap (λ (x : ℕ). lines * x) z ∙ omega arith))

    pub some_lines : 0 < lines
    some_lines = by_order (cases_lt 0 lines)
      where
        by_order : (0 < lines) ⊎ (lines ≤ 0) → 0 < lines
        by_order (inl l) = l
        by_order (inr g) = let z : lines ≡ 0 = omega arith in absurd (some (long ∙ ap (λ (x : ℕ). x * (m + n)) z ∙ omega arith))

-- the two of a squeeze
pub fitted : (s : Squeeze) (out : List ℤ) → fits s.lines s.averages s.residuals s.avg s.res s.next s.prev out ≡ true
    → Fitting s × (length out ≡ s.lines * (s.averages + s.residuals))
fitted s out e = fits_fitting s.lines s.averages s.residuals s.avg s.res s.next s.prev out s.horizontal e

-- ---- the slice afterwards
pub into_fits : (s : Squeeze) (out : List ℤ) → fits s.lines s.averages s.residuals s.avg s.res s.next s.prev out ≡ true
    → uncut s ≡ uncut_into s out
unfolding uncut_into
into_fits s out e = rw e

pub into_kept : (s : Squeeze) (out : List ℤ) → fits s.lines s.averages s.residuals s.avg s.res s.next s.prev out ≡ false
    → out ≡ uncut_into s out
unfolding uncut_into
into_kept s out e = rw e

-- an output without a sample stays
pub into_none : (s : Squeeze) (out : List ℤ) → length out ≡ 0 → out ≡ uncut_into s out
into_none s out z = by_test (fits s.lines s.averages s.residuals s.avg s.res s.next s.prev out) refl
  where
    by_test : (t : Bool) → fits s.lines s.averages s.residuals s.avg s.res s.next s.prev out ≡ t → out ≡ uncut_into s out
    by_test false e = into_kept s out e
    by_test true e =
        let l = (fits_fitting s.lines s.averages s.residuals s.avg s.res s.next s.prev out s.horizontal e).1 in
        let u = uncut_length s in
        ext_get_or (pos 0) out (uncut s) (omega arith) (λ k h. absurd (omega arith)) ∙ into_fits s out e
