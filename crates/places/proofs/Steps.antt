-- The places that a step leaves, one by one: what stands before the range, the averages, and on from there the residuals at their place among the
-- others; and the place that each of them comes from (`root`). Assumes nothing.
use mathlib.Core.Path.{◌≡◌, refl, ap, ◌∙◌}
use mathlib.Core.Bool.{Bool, true, false, cond}
use mathlib.Core.List.{List}
use Prim.Native.Nat.{ℕ, ◌+◌, ◌-◌, ◌<◌, ◌≤◌}
use native.Mathlib.Omega.{arith}
use lib.Dec.{ltb}
use lib.ListN.{length}
use borrow.Author.Tests.{ltb-true, ltb-false, lt-ltb, le-ltb}
use Rattle.list.specs.declared.Step.{Step}
use Rattle.list.proofs.Entries.{moved_length, moved_before, moved_average, moved_between, moved_residual, moved_after}
use Rattle.places.specs.declared.Place.{Place}
use Rattle.places.specs.Places.{average_place, residual_place, step_places, residuals_at, root, place_of}

-- the residuals start behind the range, and inside the list or at its end
pub residuals_inside : (count : ℕ) (s : Step) → s.begin + s.number ≤ count → (s.begin + s.number ≤ residuals_at count s) × (residuals_at count s ≤ count)
residuals_inside count s h = go s.inplace
  where
    go : (i : Bool) → (s.begin + s.number ≤ cond i (s.begin + s.number) count) × (cond i (s.begin + s.number) count ≤ count)
    go true = omega arith
    go false = omega arith

module _ (s : Step) (ps : List Place) (inside : s.begin + s.number ≤ length ps) where
  pub residuals_from_lem : (s.begin + s.number ≤ residuals_at (length ps) s) × (residuals_at (length ps) s ≤ length ps)
  residuals_from_lem = residuals_inside (length ps) s inside

  -- the list's laws of a step (list/proofs/Entries.antt)
  pub steps_length : length (step_places s ps) ≡ length ps + s.number
  unfolding step_places
  steps_length = moved_length s ps inside _ _

  pub step_before : (k : ℕ) → k < s.begin → place_of (step_places s ps) k ≡ place_of ps k
  unfolding step_places
  step_before k = moved_before s ps inside _ _ k _

  pub step_average : (k : ℕ) → s.begin ≤ k → k < s.begin + s.number → place_of (step_places s ps) k ≡ average_place s.horizontal (place_of ps k)
  unfolding step_places
  step_average k = moved_average s ps inside _ _ k _

  pub step_residual : (i : ℕ) → i < s.number → place_of (step_places s ps) (residuals_at (length ps) s + i) ≡ residual_place s.horizontal (place_of ps (s.begin + i))
  unfolding step_places
  step_residual i h =
      let f = residuals_from_lem in
      let r = residuals_at (length ps) s in
      let z : r + i - r + s.begin ≡ s.begin + i = omega arith in
      moved_residual s ps inside _ _ (r + i) _ r refl (omega arith) (omega arith) (omega arith) ∙ ap (λ (j : ℕ). residual_place s.horizontal (place_of ps j)) z

  -- not in place: what lies behind the range stays
  pub step_between : (k : ℕ) → s.begin + s.number ≤ k → k < residuals_at (length ps) s → place_of (step_places s ps) k ≡ place_of ps k
  unfolding step_places
  step_between k l h = (moved_between s ps inside _ _ k _ (residuals_at (length ps) s) refl l h).1

  -- in place: what lies behind the range moves on
  pub step_after : (k : ℕ) → residuals_at (length ps) s + s.number ≤ k → k < length ps + s.number → place_of (step_places s ps) k ≡ place_of ps (k - s.number)
  unfolding step_places
  step_after k l h = let f = residuals_from_lem in moved_after s ps inside _ _ k _ (residuals_at (length ps) s) refl (omega arith) l h

  -- ---- roots: an index before the residuals, one of them, or one behind them
  pub root_front : (k : ℕ) → k < residuals_at (length ps) s → root (length ps) s k ≡ k
  unfolding root
  root_front k h = rw (lt-ltb k (residuals_at (length ps) s) h)

  pub root_among : (k : ℕ) → residuals_at (length ps) s ≤ k → k < residuals_at (length ps) s + s.number
      → root (length ps) s k ≡ s.begin + (k - residuals_at (length ps) s)
  unfolding root
  root_among k l h = rw (le-ltb k (residuals_at (length ps) s) l, lt-ltb k (residuals_at (length ps) s + s.number) h)

  pub root_behind : (k : ℕ) → residuals_at (length ps) s + s.number ≤ k → root (length ps) s k ≡ k - s.number
  unfolding root
  root_behind k l =
      let f : residuals_at (length ps) s ≤ k = omega arith in
      rw (le-ltb k (residuals_at (length ps) s) f, le-ltb k (residuals_at (length ps) s + s.number) l)

  pub root_average : (k : ℕ) → k < s.begin + s.number → root (length ps) s k ≡ k
  root_average k h = let f = residuals_from_lem in root_front k (omega arith)

  pub root_residual : (i : ℕ) → i < s.number → root (length ps) s (residuals_at (length ps) s + i) ≡ s.begin + i
  root_residual i h =
      let e = root_among (residuals_at (length ps) s + i) (omega arith) (omega arith) in
      omega arith

  -- an index of the list after the step, by its root
  data Root (k : ℕ) : Type 0 where
    front : k < residuals_at (length ps) s → root (length ps) s k ≡ k → Root k
    among : (i : ℕ) → i < s.number → k ≡ residuals_at (length ps) s + i → root (length ps) s k ≡ s.begin + i → Root k
    back : residuals_at (length ps) s + s.number ≤ k → root (length ps) s k ≡ k - s.number → Root k

  root_is : (k : ℕ) → Root k
  root_is k = go (ltb k (residuals_at (length ps) s)) (ltb k (residuals_at (length ps) s + s.number)) refl refl
    where
      go : (a b : Bool) → ltb k (residuals_at (length ps) s) ≡ a → ltb k (residuals_at (length ps) s + s.number) ≡ b → Root k
      go true b ea eb = let h = ltb-true _ _ ea in front h (root_front k h)
      go false true ea eb =
          let l = ltb-false k (residuals_at (length ps) s) ea in
          let h = ltb-true k (residuals_at (length ps) s + s.number) eb in
          among (k - residuals_at (length ps) s) (omega arith) (omega arith) (root_among k l h)
      go false false ea eb = let h = ltb-false _ _ eb in back h (root_behind k h)

  pub root_inside : (k : ℕ) → k < length ps + s.number → root (length ps) s k < length ps
  root_inside k h = go (root_is k)
    where
      go : Root k → root (length ps) s k < length ps
      go (front l e) = let f = residuals_from_lem in omega arith
      go (among i l q e) = omega arith
      go (back l e) = omega arith

  -- two indices of one root: an average and its residual
  pub same_root : (i j : ℕ) → i < j → root (length ps) s i ≡ root (length ps) s j
      → (i < s.begin + s.number) × (s.begin ≤ i) × (j ≡ residuals_at (length ps) s + (i - s.begin))
  same_root i j h r = go (root_is i) (root_is j)
    where
      go : Root i → Root j → (i < s.begin + s.number) × (s.begin ≤ i) × (j ≡ residuals_at (length ps) s + (i - s.begin))
      go (front l e) (front m d) = absurd (omega arith)
      go (front l e) (among n m q d) = omega arith
      go (front l e) (back m d) = absurd (omega arith)
      go (among n m q d) (front l e) = absurd (omega arith)
      go (among n m q d) (among n' m' q' d') = absurd (omega arith)
      go (among n m q d) (back l e) = let f = residuals_from_lem in absurd (omega arith)
      go (back m d) (front l e) = absurd (omega arith)
      go (back m d) (among n l q e) = absurd (omega arith)
      go (back m d) (back l e) = absurd (omega arith)

-- ---- an index of the list after the step, by what stands there
pub data Entry (count : ℕ) (s : Step) (k : ℕ) : Type 0 where
  before : k < s.begin → Entry count s k
  average : s.begin ≤ k → k < s.begin + s.number → Entry count s k
  between : s.begin + s.number ≤ k → k < residuals_at count s → Entry count s k
  residual : (i : ℕ) → i < s.number → k ≡ residuals_at count s + i → Entry count s k
  after : residuals_at count s + s.number ≤ k → Entry count s k

pub entry_is : (count : ℕ) (s : Step) (k : ℕ) → Entry count s k
entry_is count s k = go (ltb k s.begin) (ltb k (s.begin + s.number)) (ltb k (residuals_at count s)) (ltb k (residuals_at count s + s.number)) refl refl refl refl
  where
    go : (a b c d : Bool) → ltb k s.begin ≡ a → ltb k (s.begin + s.number) ≡ b → ltb k (residuals_at count s) ≡ c
        → ltb k (residuals_at count s + s.number) ≡ d → Entry count s k
    go true b c d ea eb ec ed = before (ltb-true _ _ ea)
    go false true c d ea eb ec ed = average (ltb-false _ _ ea) (ltb-true _ _ eb)
    go false false true d ea eb ec ed = between (ltb-false _ _ eb) (ltb-true _ _ ec)
    go false false false true ea eb ec ed =
        let l = ltb-false k (residuals_at count s) ec in
        let h = ltb-true k (residuals_at count s + s.number) ed in
        residual (k - residuals_at count s) (omega arith) (omega arith)
    go false false false false ea eb ec ed = after (ltb-false _ _ ed)
