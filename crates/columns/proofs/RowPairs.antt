-- The pairs of rows of a vertical squeeze. What `row_pair` makes (`Columns` of specs/Rows.antt) is a pair of every line (`OnePair` of the crate
-- line); where its next averages are the next row, a turn of `ordinary_pairs` adds an ordinary pair (`Down`). Assumes nothing.
use mathlib.Core.Path.{◌≡◌, refl, ap, ◌∙◌}
use mathlib.Core.Bool.{false}
use mathlib.Core.List.{List}
use mathlib.Core.Logic.{◌⊎◌, inl, inr}
use Prim.Native.Nat.{ℕ, ◌+◌, ◌*◌, ◌<◌, ◌≤◌}
use native.Mathlib.Omega.{arith}
use native.Mathlib.Nat.{mul-le-mul_right}
use lib.IntN.{ℤ, pos}
use lib.ListN.{length, get_or, take, drop}
use Rattle.line.specs.Pairs.{lines_of, Ordinary}
use Rattle.line.proofs.Pairs.{OnePair, none, one, join}
use Rattle.line.proofs.Outputs.{part_length, part_at}
use Rattle.columns.specs.Rows.{Apart, Columns}

-- ---- one pair of rows, of the averages and residuals at a
pub one_pair : {w m n : ℕ} {avg res next old new : List ℤ} {from to a i : ℕ} {following : ℕ → ℤ}
    → a ≡ i * w → to ≡ (i + i) * w → a + w ≤ length avg → ((k : ℕ) → k < w → get_or next k (pos 0) ≡ following k)
    → Columns (take w (drop a avg)) (take w (drop a res)) next old new from to 0 (length (take w (drop a avg)))
    → OnePair (lines_of false w m n avg res) following (λ k. get_or old (from + k) (pos 0)) old new i
one_pair {w} {m} {n} {avg} {res} {next} {old} {new} {from} {to} {a} {i} {following} ea et room f c =
    let l = part_length a w avg room in
    record {
      long = c.long;
      firsts = λ k hk.
          rw et at (c.firsts k (omega arith) (omega arith)) ∙ rw (part_at a w k avg hk, part_at a w k res hk, f k hk, ea) refl;
      seconds = λ k hk.
          let e : (i + i + 1) * w + k ≡ to + length (take w (drop a avg)) + k = omega arith in
          rw e (c.seconds k (omega arith) (omega arith) ∙ rw (part_at a w k avg hk, part_at a w k res hk, f k hk, ea) refl);
      kept = λ q off.
          c.kept q
          (λ k g h.
          let o = off k (omega arith) in
          (λ e. o.0 (omega arith), λ e. o.1 (omega arith)));
    }

-- ---- ordinary pairs
-- after i turns: the row before the next pair is at `from`, the pair goes to `to`, its averages and residuals are at a
pub record Down (avg res : List ℤ) (count w : ℕ) (old new : List ℤ) (from to a i : ℕ) : Type 0 where
  pub inside : i ≤ count
  pub row_at : a ≡ i * w
  pub pair_at : to ≡ (i + i) * w
  pub away : (from ≡ to + w) ⊎ (from + w ≡ to)
  pub done : Ordinary (lines_of false w (count + 1) count avg res) (λ k. get_or old (w + k) (pos 0)) (λ k. get_or new (from + k) (pos 0)) old new 0 i

pub down_none : (avg res : List ℤ) (count w : ℕ) (out : List ℤ) → Down avg res count w out out w 0 0 0
down_none avg res count w out =
    record { inside = omega arith; row_at = omega arith; pair_at = omega arith; away = inl (omega arith); done = none }

module _ {avg res : List ℤ} {count w : ℕ} {old out : List ℤ} {from to a i : ℕ} (d : Down avg res count w old out from to a i) where
  -- ---- a turn's rows lie inside
  module _ (turn : i < count) where
    pub next_room : count * w + w ≤ length avg → a + w + w ≤ length avg
    next_room h = omega (arith, d.row_at, mul-le-mul_right w turn)

    -- ---- one pair more
    pub down_more : {new : List ℤ} → count * w + w ≤ length avg
        → Columns (take w (drop a avg)) (take w (drop a res)) (take w (drop (a + w) avg)) out new from to 0 (length (take w (drop a avg)))
        → Down avg res count w old new (to + w) (to + w + w) (a + w) (i + 1)
    down_more {new} h c =
        let ea = d.row_at in
        let et = d.pair_at in
        record {
          inside = omega arith;
          row_at = omega arith;
          pair_at = omega arith;
          away = inr refl;
          done =
              let z : 0 + i ≡ i = omega arith in
              join {a = 0} {c = i} {d = 1} (omega arith) (omega arith) d.done
              (rw z
              (one pair (λ k hk. refl)
              (λ k hk. let e : to + w + k ≡ (i + i + 1) * w + k = omega arith in rw e (pair.seconds k hk))));
        }
      where
        pair : OnePair (lines_of false w (count + 1) count avg res) (λ k. get_or avg ((i + 1) * w + k) (pos 0)) (λ k. get_or out (from + k) (pos 0))
            out new i
        pair =
            let ea = d.row_at in
            let r = next_room h in
            one_pair ea d.pair_at (omega arith)
            (λ k hk. let e : a + w + k ≡ (i + 1) * w + k = omega arith in part_at (a + w) w k avg hk ∙ ap (λ (q : ℕ). get_or avg q (pos 0)) e) c

  -- where the next pair goes
  pub down_apart : {room : ℕ} → (i + i) * w + w + w ≤ room → Apart from ((i + i) * w) w room
  down_apart h = record { inside = h; away = rw d.pair_at at d.away }
