-- On the domain of demand 2 the uncut squeeze without outer lines is the standard's inverse step over whole numbers without a bound: along a
-- line each pair's inputs lie in the domain, where pair and standard agree (crate standard), so the outputs before the pairs agree too.
-- Assumes nothing.
use mathlib.Core.Path.{◌≡◌, ◌∙◌}
use mathlib.Core.List.{[]}
use mathlib.Core.Logic.{◌⊎◌, inl, inr}
use Prim.Native.Nat.{ℕ, zero, suc, ◌+◌, ◌/◌, ◌<◌, ◌≤◌}
use native.Mathlib.Omega.{arith}
use borrow.Author.Tests.{le-ltb}
use Rattle.standard.specs.Domain.{InDomain}
use Rattle.standard.specs.Standard as Std
use Rattle.standard.proofs.Agree.{first_standard, second_standard}
use Rattle.line.specs.Line.{Line, next_average, before, sample}
use Rattle.line.specs.Uncut.{Squeeze, Fitting, size, uncut, line_of}
use Rattle.line.specs.Plain.{InDomainWhole, IsStandard}
use Rattle.std.proofs.lemmas.Bool.{cases_lt}
use Rattle.line.proofs.Lines.{Fits, sample_second, before_next, before_first, next_inside, next_last}
use Rattle.line.proofs.Places.{at_place}
use Rattle.line.proofs.Outputs.{outer_none, uncut_at, uncut_length, line_averages, line_residuals, line_avg, line_res, line_next, line_prev}

-- a line alone, all of whose samples lie in the domain
module _ (l : Line) (f : Fits l) (no-next : l.next ≡ []) (no-prev : l.prev ≡ [])
    (da : (i : ℕ) → i < l.averages → InDomain (l.avg i)) (dr : (i : ℕ) → i < l.residuals → InDomain (l.res i))
    (dm : (j : ℕ) → j < l.averages + l.residuals → InDomain (sample l j)) where
  next_is : (i : ℕ) → next_average l i ≡ Std.next l.avg l.averages i
  unfolding next_average Std.next
  next_is i = rw no-next

  next_domain : (i : ℕ) → i < l.residuals → InDomain (next_average l i)
  next_domain i h = by (cases_lt (i + 1) l.averages)
    where
      by : (i + 1 < l.averages) ⊎ (l.averages ≤ i + 1) → InDomain (next_average l i)
      by (inl p) = rw (next_inside l i p) (da (i + 1) p)
      by (inr p) = rw (next_last l i p, no-next) (da i (omega (arith, f.low)))

  before_domain : (i : ℕ) → i < l.residuals → InDomain (before l i)
  before_domain zero h = rw (before_first l, no-prev) (da 0 f.some)
  before_domain (suc i) h = rw (before_next l i, ← sample_second l i (omega arith)) (dm (i + i + 1) (omega (arith, f.low)))

  before_is : (i : ℕ) → i ≤ l.residuals → before l i ≡ Std.before l.avg l.res l.averages i
  unfolding Std.before
  before_is zero h = before_first l ∙ rw no-prev
  before_is (suc i) h =
      before_next l i
      ∙ second_standard (l.avg i) (l.res i) (next_average l i) (before l i) (da i (omega (arith, f.low))) (dr i h) (next_domain i h) (before_domain i h)
      ∙ rw (next_is i, before_is i (omega arith))

  pub line_standard : (j : ℕ) → sample l j ≡ Std.out l.avg l.res l.averages l.residuals j
  unfolding sample Std.out
  line_standard j = by (cases_lt (j / 2) l.residuals)
    where
      i : ℕ
      i = j / 2

      by : (j / 2 < l.residuals) ⊎ (l.residuals ≤ j / 2) → sample l j ≡ Std.out l.avg l.res l.averages l.residuals j
      by (inl p) =
          let a = da (j / 2) (omega (arith, f.low)) in
          let r = dr (j / 2) p in
          let n = next_domain (j / 2) p in
          let b = before_domain (j / 2) p in
          rw (
            first_standard (l.avg (j / 2)) (l.res (j / 2)) (next_average l (j / 2)) (before l (j / 2)) a r n b,
            second_standard (l.avg (j / 2)) (l.res (j / 2)) (next_average l (j / 2)) (before l (j / 2)) a r n b,
            next_is (j / 2),
            before_is (j / 2) (omega arith),
          )
      by (inr p) = rw (le-ltb (j / 2) l.residuals p)

-- ---- the whole squeeze
module _ (s : Squeeze) (fs : Fitting s) (no-next : s.next ≡ []) (no-prev : s.prev ≡ []) (d : InDomainWhole s) where
  alone_next : (k : ℕ) → (line_of s k).next ≡ []
  alone_next k = line_next s k ∙ rw no-next (outer_none k)

  alone_prev : (k : ℕ) → (line_of s k).prev ≡ []
  alone_prev k = line_prev s k ∙ rw no-prev (outer_none k)

  module _ (k : ℕ) (hk : k < s.lines) where
    avg_domain : (i : ℕ) → i < (line_of s k).averages → InDomain ((line_of s k).avg i)
    avg_domain i h =
        let n = line_averages s k in
        rw (line_avg s k i) (at_place s.horizontal s.lines s.averages InDomain s.avg fs.avg_length d.avg k i hk (omega arith))

    res_domain : (i : ℕ) → i < (line_of s k).residuals → InDomain ((line_of s k).res i)
    res_domain i h =
        let n = line_residuals s k in
        rw (line_res s k i) (at_place s.horizontal s.lines s.residuals InDomain s.res fs.res_length d.res k i hk (omega arith))

    out_domain : (j : ℕ) → j < (line_of s k).averages + (line_of s k).residuals → InDomain (sample (line_of s k) j)
    out_domain j h =
        let a = line_averages s k in
        let r = line_residuals s k in
        let hj : j < size s = omega arith in
        rw (← uncut_at s k j hk hj) (at_place s.horizontal s.lines (size s) InDomain (uncut s) (uncut_length s) d.out k j hk hj)

    line_fits_lem : 0 < size s → Fits (line_of s k)
    line_fits_lem h =
        let a = line_averages s k in
        let r = line_residuals s k in
        record { some = omega (arith, fs.low); low = omega (arith, fs.low); high = omega (arith, fs.high) }

  -- Demand 2, for the uncut squeeze
  pub uncut_standard : IsStandard s (uncut s)
  unfolding line_of
  uncut_standard k j hk hj =
      uncut_at s k j hk hj
      ∙ line_standard (line_of s k) (line_fits_lem k hk (omega arith)) (alone_next k) (alone_prev k) (avg_domain k hk) (res_domain k hk) (out_domain k hk) j
