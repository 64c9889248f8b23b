-- Four blocks put in at neighbouring positions (`with_lanes` of specs/Lanes.antt, four times), lane by lane: the four samples of the next lane go past
-- the lanes that are there, which lie elsewhere. Assumes nothing.
use mathlib.Core.Path.{◌≡◌, refl, ap, sym, ◌∙◌}
use mathlib.Core.List.{List, [], ◌∷◌}
use Prim.Native.Nat.{ℕ, zero, suc, ◌+◌, ◌*◌, ◌<◌, ◌≤◌}
use native.Mathlib.Omega.{arith}
use native.Mathlib.Nat.{mul-le-mul_right}
use lib.IntN.{ℤ, pos}
use lib.ListN.{get_or, set}
use Rattle.eight_rows.specs.Lanes.{with_some, with_lanes}

-- ---- sets at different places
set_past : (s : List ℤ) (i j : ℕ) (x y : ℤ) → (i ≡ j → ⊥) → set (set s i x) j y ≡ set (set s j y) i x
set_past [] i j x y h = refl
set_past (a ∷ s) zero zero x y h = absurd (h refl)
set_past (a ∷ s) zero (suc j) x y h = refl
set_past (a ∷ s) (suc i) zero x y h = refl
set_past (a ∷ s) (suc i) (suc j) x y h = ap (λ (t : List ℤ). a ∷ t) (set_past s i j x y (λ e. h (ap suc e)))

some_past : (s : List ℤ) (at stride : ℕ) (b : List ℤ) (n q : ℕ) (v : ℤ) → ((k : ℕ) → k < n → q ≡ at + k * stride → ⊥)
    → with_some (set s q v) at stride b n ≡ set (with_some s at stride b n) q v
some_past s at stride b zero q v h = refl
some_past s at stride b (suc n) q v h =
    rw (some_past s at stride b n q v (λ k l. h k (omega arith)))
    (set_past (with_some s at stride b n) q (at + n * stride) v (get_or b n (pos 0)) (h n (omega arith)))

-- ---- four blocks
module _ (s : List ℤ) (at stride : ℕ) (a b c d : List ℤ) where
  -- n lanes of the first two, of three, of all four
  abbrev two : ℕ → List ℤ
  two n = with_some (with_some s at stride a n) (at + 1) stride b n

  abbrev three : ℕ → List ℤ
  three n = with_some (two n) (at + 2) stride c n

  unfoldable pub fours : ℕ → List ℤ
  fours n = with_some (three n) (at + 3) stride d n

  pub fours_none : s ≡ fours 0
  unfolding fours
  fours_none = refl

  pub fours_all : fours 8 ≡ with_lanes (with_lanes (with_lanes (with_lanes s at stride a) (at + 1) stride b) (at + 2) stride c) (at + 3) stride d
  unfolding fours with_lanes
  fours_all = refl

  module _ (n : ℕ) (wide : 4 ≤ stride) where
    -- where the samples of lane n lie
    abbrev o : ℕ
    o = at + n * stride

    -- they lie off the lanes before, at any of the four positions
    off : (i j : ℕ) → i < 4 → j < 4 → (k : ℕ) → k < n → o + i ≡ at + j + k * stride → ⊥
    off i j hi hj k h e = let m : suc k * stride ≤ n * stride = mul-le-mul_right stride h in omega arith

    off_first : (j : ℕ) → j < 4 → (k : ℕ) → k < n → o ≡ at + j + k * stride → ⊥
    off_first j hj k h e = off 0 j (omega arith) hj k h (omega arith)

    two_more : two (suc n) ≡ set (set (two n) o (get_or a n (pos 0))) (o + 1) (get_or b n (pos 0))
    two_more =
        let p : at + 1 + n * stride ≡ o + 1 = omega arith in
        rw (p, some_past (with_some s at stride a n) (at + 1) stride b n o (get_or a n (pos 0)) (off_first 1 (omega arith)))

    three_more : three (suc n) ≡ set (set (set (three n) o (get_or a n (pos 0))) (o + 1) (get_or b n (pos 0))) (o + 2) (get_or c n (pos 0))
    three_more =
        let p : at + 2 + n * stride ≡ o + 2 = omega arith in
        ap (λ (t : List ℤ). set (with_some t (at + 2) stride c n) (at + 2 + n * stride) (get_or c n (pos 0))) two_more ∙ rw (
          p,
          some_past (set (two n) o (get_or a n (pos 0))) (at + 2) stride c n (o + 1) (get_or b n (pos 0)) (off 1 2 (omega arith) (omega arith)),
          some_past (two n) (at + 2) stride c n o (get_or a n (pos 0)) (off_first 2 (omega arith)),
        )

    pub fours_more : set (set (set (set (fours n) o (get_or a n (pos 0))) (o + 1) (get_or b n (pos 0))) (o + 2) (get_or c n (pos 0))) (o + 3) (get_or d n (pos 0)) ≡ fours (n + 1)
    unfolding fours
    fours_more =
        let e : n + 1 ≡ suc n = omega arith in
        let p : at + 3 + n * stride ≡ o + 3 = omega arith in
        rw e (sym (ap (λ (t : List ℤ). set (with_some t (at + 3) stride d n) (at + 3 + n * stride) (get_or d n (pos 0))) three_more ∙ rw (
          p,
          some_past (set (set (three n) o (get_or a n (pos 0))) (o + 1) (get_or b n (pos 0))) (at + 3) stride d n (o + 2) (get_or c n (pos 0))
              (off 2 3 (omega arith) (omega arith)),
          some_past (set (three n) o (get_or a n (pos 0))) (at + 3) stride d n (o + 1) (get_or b n (pos 0)) (off 1 3 (omega arith) (omega arith)),
          some_past (three n) (at + 3) stride d n o (get_or a n (pos 0)) (off_first 3 (omega arith)),
        )))
