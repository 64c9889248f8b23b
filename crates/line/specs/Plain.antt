-- Samples of the domain of demand 2, and the uncut squeeze without outer lines on them. Statements only.
use Rattle.std.specs.Prelude.{◌≡◌, List, ℕ, ◌<◌, ℤ, pos, length, get_or}
use Rattle.standard.specs.Domain.{InDomain}
use Rattle.standard.specs.Standard as Std
use Rattle.line.specs.Uncut.{Squeeze, place, size, uncut}

-- every sample lies in the domain
abbrev pub AllInDomain : List ℤ → Type 0
AllInDomain xs = (i : ℕ) → i < length xs → InDomain (get_or xs i (pos 0))

-- "every sample read or made" lies in the domain
pub record InDomainWhole (s : Squeeze) : Type 0 where
  pub avg : AllInDomain s.avg
  pub res : AllInDomain s.res
  pub out : AllInDomain (uncut s)

-- each line of an output is the standard's, of that line's averages and residuals
abbrev pub IsStandard : Squeeze → List ℤ → Type 0
IsStandard s out =
    (k j : ℕ) → k < s.lines → j < size s
    → get_or out (place s.horizontal s.lines (size s) k j) (pos 0)
    ≡ Std.out
    (λ i. get_or s.avg (place s.horizontal s.lines s.averages k i) (pos 0))
    (λ i. get_or s.res (place s.horizontal s.lines s.residuals k i) (pos 0))
    s.averages s.residuals j
