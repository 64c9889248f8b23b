-- The last pair of rows of a vertical squeeze and its row of tails: that they lie inside, and that what `row_pair` and the copied tails make of
-- them is the end of the lines (`Ended` of the crate line), whatever the previous line. Assumes nothing.
use mathlib.Core.Path.{◌≡◌, refl, sym, ap, ◌∙◌}
use mathlib.Core.Bool.{Bool, false, ◌&&◌, ◌||◌}
use mathlib.Core.List.{List, []}
use mathlib.Core.Logic.{◌⊎◌, inl, inr}
use Prim.Native.Nat.{ℕ, ◌+◌, ◌-◌, ◌*◌, ◌<◌, ◌≤◌}
use native.Mathlib.Omega.{arith}
use native.Mathlib.Nat.{mul-le-mul_right}
use lib.IntN.{ℤ, pos}
use lib.ListN.{length, get_or, take, drop, length-drop}
use lib.Seq.{get_or-drop}
use Rattle.range.specs.Range.{some_outside}
use Rattle.line.specs.Line.{next_average}
use Rattle.line.specs.Uncut.{Squeeze, squeeze, Fitting, line_of}
use Rattle.line.specs.Pairs.{inner, Ended}
use Rattle.line.proofs.Places.{row_room}
use Rattle.line.proofs.Lines.{lt_or_ge, next_inside, next_last}
use Rattle.line.proofs.Pairs.{OnePair, ended_pair, ended_tail}
use Rattle.line.proofs.Outputs.{part_length}
use Rattle.columns.specs.Rows.{row_after, Apart, Columns}
use Rattle.columns.proofs.OuterRows.{after_length, after_inside, after_last}
use Rattle.columns.proofs.Pastes.{pasted, pasted_length, pasted_in, pasted_below}
use Rattle.columns.proofs.RowPairs.{one_pair}
use Rattle.columns.proofs.Marks.{last_marked, tails_marked}

module _ {w m n : ℕ} {avg res next : List ℤ} (fitting : Fitting (squeeze false w m n avg res next [])) where
  -- there is a row of residuals, and no fewer of averages
  pub last_row_inside : 0 < n → w ≤ length res
  last_row_inside h = omega (arith, fitting.res_length, mul-le-mul_right w h)

  pub residuals_inside : length res ≤ length avg
  residuals_inside = omega (arith, fitting.avg_length, fitting.res_length, mul-le-mul_right w fitting.low)

  -- after the last row of residuals there is a whole row of averages or none
  pub after_room : (a : ℕ) → a + w ≡ length res → a + w < length avg → a + w + w ≤ length avg
  after_room a ea h = by_order (lt_or_ge n m)
    where
      by_order : (n < m) ⊎ (m ≤ n) → a + w + w ≤ length avg
      by_order (inl l) = omega (arith, fitting.avg_length, fitting.res_length, mul-le-mul_right w l)
      by_order (inr g) = absurd (omega (arith, fitting.avg_length, fitting.res_length, mul-le-mul_right w g))

  -- the row of tails: the averages after as many rows as there are of residuals
  module _ (h : n < m) where
    tail_length : length (drop (length res) avg) ≡ w
    tail_length =
        let d = length-drop (length res) avg in
        let e : m ≡ n + 1 = omega (arith, fitting.high) in
        omega (arith, fitting.avg_length, fitting.res_length, ap (λ (x : ℕ). w * x) e)

    pub tail_room : {room : ℕ} → room ≡ w * (m + n) → length res + length res + length (drop (length res) avg) ≤ room
    tail_room l =
        let t = tail_length in
        let e : m ≡ n + 1 = omega (arith, fitting.high) in
        omega (arith, fitting.res_length, ap (λ (x : ℕ). w * x) e)

    -- and no more room is left than it takes
    pub tail_left : {room : ℕ} → room ≡ w * (m + n) → room - (length res + length res) ≡ length (drop (length res) avg)
    tail_left l =
        let t = tail_length in
        let e : m ≡ n + 1 = omega (arith, fitting.high) in
        omega (arith, fitting.res_length, ap (λ (x : ℕ). w * x) e)

  -- the last pair, i, with its averages and residuals at a
  module _ (i a : ℕ) (last : i + 1 ≡ n) (ea : a + w ≡ length res) where
    row_at : a ≡ i * w
    row_at = omega (arith, fitting.res_length, ap (λ (x : ℕ). w * x) last)

    -- what `row_pair` asks
    pub last_asked : {from room : ℕ} → Apart from ((i + i) * w) w room
        → (length (take w (drop a res)) ≡ length (take w (drop a avg)))
        × (length (row_after avg next a w) ≡ length (take w (drop a avg)))
        × Apart from (a + a) (length (take w (drop a avg))) room
    last_asked {from} {room} p =
        let e = row_at in
        let q : a + a ≡ (i + i) * w = omega arith in
        let r = residuals_inside in
        let l = part_length a w avg (omega arith) in (
          part_length a w res (omega arith) ∙ sym l,
          after_length avg next a w ∙ sym l,
          rw (l, q) p,
        )

    -- ---- the mark: of the pair without a row of tails, and of both
    row_long : length (take w (drop a avg)) ≡ w
    row_long = let r = residuals_inside in part_length a w avg (omega arith)

    module _ (b : Bool) (mid : List ℤ) {pair : Bool} (long : length mid ≡ w * (m + n))
        (own : pair
        ≡ (b
        && (some_outside (take w (drop a res))
        || some_outside (take (length (take w (drop a avg)) + length (take w (drop a avg))) (drop (a + a) mid))))) where
      pub even_marked : m ≤ n → pair ≡ (b && (some_outside (drop (i * w) res) || some_outside (drop ((i + i) * w) mid)))
      even_marked h =
          let k = length (take w (drop a avg)) in
          let l = row_long in
          let e = row_at in
          let x : i * w ≡ a = omega arith in
          let y : (i + i) * w ≡ a + a = omega arith in
          let z : m ≡ n = omega (arith, fitting.low) in
          rw (x, y) (last_marked b a w (k + k) res mid ea (omega (arith, fitting.res_length, ap (λ (q : ℕ). w * q) z)) own)

      pub odd_marked : {tails : Bool} → n < m → tails ≡ (b && some_outside (drop (length res) avg))
          → (pair || tails)
          ≡ (b
          && (some_outside (drop (i * w) res)
          || some_outside (drop ((i + i) * w) (pasted mid (length res + length res) (drop (length res) avg)))))
      odd_marked h f =
          let k = length (take w (drop a avg)) in
          let tail = drop (length res) avg in
          let l = row_long in
          let t = tail_length h in
          let e = row_at in
          let x : i * w ≡ a = omega arith in
          let y : (i + i) * w ≡ a + a = omega arith in
          let z : length res + length res ≡ a + a + (k + k) = omega arith in
          let u : m ≡ n + 1 = omega (arith, fitting.high) in
          rw (x, y, z)
          (tails_marked b a w (k + k) res mid tail ea (omega (arith, fitting.res_length, ap (λ (q : ℕ). w * q) u)) own f)

    module _ {from : ℕ} {old mid : List ℤ}
        (c : Columns (take w (drop a avg)) (take w (drop a res)) (row_after avg next a w) old mid from (a + a) 0 (length (take w (drop a avg))))
        (prev : List ℤ) where
      abbrev s : Squeeze
      s = squeeze false w m n avg res next prev

      -- ---- the row of next averages, by the line rule
      after_is : (k : ℕ) → k < w → get_or (row_after avg next a w) k (pos 0) ≡ next_average (line_of s k) i
      unfolding line_of
      after_is k h = by_order (lt_or_ge (i + 1) m)
        where
          by_order : (i + 1 < m) ⊎ (m ≤ i + 1) → get_or (row_after avg next a w) k (pos 0) ≡ next_average (line_of s k) i
          by_order (inl l) =
              let e = row_at in
              let r = mul-le-mul_right w l in
              let q : a + w + k ≡ (i + 1) * w + k = omega arith in
              after_inside avg next a w k (omega (arith, fitting.avg_length)) h ∙ sym (next_inside (line_of s k) i l ∙ rw q refl)
          by_order (inr g) =
              let e = row_at in
              let r = mul-le-mul_right w g in
              after_last avg next a w k (omega (arith, fitting.avg_length)) h ∙ sym (next_last (line_of s k) i g ∙ rw e refl)

      pair : OnePair (inner s) (λ k. next_average (line_of s k) i) (λ k. get_or old (from + k) (pos 0)) old mid i
      pair =
          let e = row_at in
          let r = residuals_inside in
          one_pair e (omega arith) (omega arith) after_is c

      -- ---- the end of the lines, without a row of tails and with one
      pub ended_even : m ≤ n → Ended s (λ k. get_or old (from + k) (pos 0)) old mid i
      ended_even h = ended_pair s fitting.low last pair h

      pub ended_odd : n < m → length mid ≡ w * (m + n)
          → Ended s (λ k. get_or old (from + k) (pos 0)) old (pasted mid (length res + length res) (drop (length res) avg)) i
      ended_odd h l =
          let r = length res in
          let tail = drop r avg in
          let room = tail_room h l in
          let t = tail_length h in
          let e = fitting.res_length in
          ended_tail s fitting.low last pair
          (pasted_length mid (r + r) tail room)
          (λ k hk.
          let q : (i + i + 2) * w + k ≡ r + r + k = omega (arith, ap (λ (x : ℕ). w * x) last) in
          let p : r + k ≡ n * w + k = omega arith in
          rw q (pasted_in mid (r + r) tail room k (omega arith) ∙ get_or-drop r avg k (pos 0) ∙ ap (λ (x : ℕ). get_or avg x (pos 0)) p))
          (λ k j hk hj.
          let q = row_room j w k (n + n) (omega (arith, last)) hk in
          pasted_below mid (r + r) tail room (j * w + k) (omega arith))
