-- The list that a step leaves, entry by entry: the channel that an entry is made of, and what is made of it. Definitions only.
use Rattle.std.specs.Prelude.{Bool, true, cond, ◌&&◌, ◌||◌, ℕ, ◌+◌, ◌-◌, leb, ltb}
use Rattle.channel.specs.declared.Channel.{Channel}
use Rattle.list.specs.declared.Step.{Step}
use Rattle.list.specs.Lists.{average, residual}
use Rattle.list.specs.Questions.{shifts_kept}

-- k is one of `number` indices from `start` on
unfoldable pub is_inside : ℕ → ℕ → ℕ → Bool
is_inside start number k = leb start k && ltb (k - start) number

-- ---- entry k of the list that a step leaves, where the residuals start at r
-- the index of the channel that it is made of
unfoldable pub source : Step → ℕ → ℕ → ℕ
source s r k = cond (ltb k r) k (cond (ltb (k - r) s.number) (k - r + s.begin) (k - s.number))

-- what is made of x: an average by f inside the range, a residual by g inside the residuals, else x itself
abbrev pub entry_by {ℓ} : {A : Type ℓ} → (A → A) → (A → A) → Step → ℕ → ℕ → A → A
entry_by f g s r k x = cond (is_inside s.begin s.number k) (f x) (cond (is_inside r s.number k) (g x) x)

unfoldable pub entry : Step → ℕ → ℕ → Channel → Channel
entry s r k c = entry_by (average s.horizontal) (residual s.horizontal) s r k c

-- question 11 lets c through where it is not c itself
unfoldable pub entry_allowed : Step → ℕ → ℕ → Channel → Bool
entry_allowed s r k c = cond (is_inside s.begin s.number k || is_inside r s.number k) (shifts_kept s.horizontal c) true
