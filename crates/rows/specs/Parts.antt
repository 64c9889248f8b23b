-- Rows `from` up to `to` of a squeeze: their parts of the slices, and whether one of their residuals or of the samples made of them lies outside the
-- plain range (document 02, A.3). Definitions only.
use Rattle.std.specs.Prelude.{◌≡◌, Bool, ◌||◌, List, ℕ, ◌-◌, ◌*◌, ℤ, take, drop}
use Rattle.range.specs.Range.{some_outside}
use Rattle.line.specs.Uncut.{Squeeze, size, uncut}
use Rattle.line.specs.declared.Squeezed.{Squeezed}

-- from a up to b
abbrev pub between : List ℤ → ℕ → ℕ → List ℤ
between xs a b = take (b - a) (drop a xs)

pub record IsPart (s part : Squeezed) (from to : ℕ) : Type 0 where
  pub averages : part.averages ≡ s.averages
  pub residuals : part.residuals ≡ s.residuals
  pub avg : part.avg.now ≡ between s.avg.now (from * s.averages) (to * s.averages)
  pub res : part.res.now ≡ between s.res.now (from * s.residuals) (to * s.residuals)
  pub next : part.next.now ≡ between s.next.now from to
  pub prev : part.prev.now ≡ between s.prev.now from to

unfoldable pub rows_outside : Squeeze → ℕ → ℕ → Bool
rows_outside s from to =
    some_outside (between s.res (from * s.residuals) (to * s.residuals))
    || some_outside (between (uncut s) (from * size s) (to * size s))
