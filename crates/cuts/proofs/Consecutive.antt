-- Stretches of numbers one after the other, n of them from 0 up to `total` (the lines of a cut's strips, the positions of a strip's tiles): each
-- number below `total` lies in exactly one. Assumes nothing.
use mathlib.Core.Path.{◌≡◌, refl}
use mathlib.Core.Logic.{◌⊎◌, inl, inr}
use Prim.Native.Nat.{ℕ, zero, suc, ◌+◌, ◌-◌, ◌<◌, ◌≤◌}
use native.Mathlib.Omega.{arith}
use Rattle.std.proofs.lemmas.Bool.{cases_lt}

pub record Consecutive (start long : ℕ → ℕ) (n total : ℕ) : Type 0 where
  pub some : 0 < total → 0 < n
  pub first : 0 < n → start 0 ≡ 0
  pub follows : (i : ℕ) → i + 1 < n → start (i + 1) ≡ start i + long i
  pub last : (i : ℕ) → i + 1 ≡ n → start i + long i ≡ total

-- x lies in stretch i
pub record At (start long : ℕ → ℕ) (n x i : ℕ) : Type 0 where
  pub inside : i < n
  pub from : start i ≤ x
  pub below : x < start i + long i

pub record ExactlyOne (start long : ℕ → ℕ) (n x : ℕ) : Type 0 where
  pub index : ℕ
  pub at : At start long n x index
  pub only : (i : ℕ) → At start long n x i → i ≡ index

module _ (start long : ℕ → ℕ) (n total : ℕ) (c : Consecutive start long n total) where
  -- a later stretch starts where an earlier one has ended
  later : (i d : ℕ) → i + suc d < n → start i + long i ≤ start (i + suc d)
  later i zero h = let e : i + 1 ≡ i + suc 0 = omega arith in rw (← e, c.follows i (omega arith)) (omega arith)
  later i (suc d) h =
      let e : i + suc d + 1 ≡ i + suc (suc d) = omega arith in
      let l = later i d (omega arith) in
      rw (← e, c.follows (i + suc d) (omega arith)) (omega arith)

  apart : (x i j : ℕ) → At start long n x i → At start long n x j → i < j → ⊥
  apart x i j a b h = go (j - suc i) (omega arith)
    where
      go : (d : ℕ) → j ≡ i + suc d → ⊥
      go d e = let l = later i d (omega (arith, b.inside)) in let r = rw e at b.from in omega (arith, a.below)

  one_only : (x i j : ℕ) → At start long n x i → At start long n x j → i ≡ j
  one_only x i j a b = by (cases_lt i j) (cases_lt j i)
    where
      by : (i < j) ⊎ (j ≤ i) → (j < i) ⊎ (i ≤ j) → i ≡ j
      by (inl h) g = absurd (apart x i j a b h)
      by (inr h) (inl g) = absurd (apart x j i b a g)
      by (inr h) (inr g) = omega arith

  here : (x i : ℕ) → At start long n x i → ExactlyOne start long n x
  here x i a = record { index = i; at = a; only = λ j b. one_only x j i b a }

  -- what lies below the end of stretch i lies in it or in one before
  found : (x i : ℕ) → i < n → x < start i + long i → ExactlyOne start long n x
  found x zero hi h = here x 0 (record { inside = hi; from = omega (arith, c.first hi); below = h })
  found x (suc i) hi h = by (cases_lt x (start (suc i))) (found x i (omega arith))
    where
      by : (x < start (suc i)) ⊎ (start (suc i) ≤ x) → (x < start i + long i → ExactlyOne start long n x) → ExactlyOne start long n x
      by (inl l) rest =
          let e : i + 1 ≡ suc i = omega arith in
          let f = rw e at (c.follows i (omega arith)) in
          rest (omega arith)
      by (inr l) rest = here x (suc i) (record { inside = hi; from = l; below = h })

  pub exactly_one : (x : ℕ) → x < total → ExactlyOne start long n x
  exactly_one x h = by n refl
    where
      by : (m : ℕ) → m ≡ n → ExactlyOne start long n x
      by zero e = absurd (omega (arith, c.some (omega arith)))
      by (suc m) e = found x m (omega arith) (omega (arith, c.last m (omega arith)))
