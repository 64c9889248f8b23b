-- Columns lo to hi of two rows of output (`Columns` of specs/Rows.antt): none, one by two stores, eight by two blocks, and two ranges one
-- after the other. What the second range reads of the row before, the first has not written, since that row lies apart. Assumes nothing.
use mathlib.Core.Path.{◌≡◌, refl, ap, ◌∙◌}
use mathlib.Core.List.{List}
use mathlib.Core.Logic.{◌⊎◌, inl, inr}
use Prim.Native.Nat.{ℕ, ◌+◌, ◌-◌, ◌<◌, ◌≤◌}
use native.Mathlib.Omega.{arith}
use lib.IntN.{ℤ, pos}
use lib.ListN.{length, get_or, set, take, drop, length-set}
use lib.Seq.{get_or-set_same, get_or-set_other}
use Rattle.pair.specs.Pair.{first, second}
use Rattle.block.specs.Block.{lanes}
use Rattle.block.proofs.Lanes.{Laned, laned}
use Rattle.columns.specs.Rows.{Apart, Columns}
use Rattle.line.proofs.Lines.{lt_or_ge}
use Rattle.line.proofs.Outputs.{part_length, part_at}
use Rattle.columns.proofs.Pastes.{pasted, pasted_length, pasted_in, pasted_off}

-- the row before, from column x on, is off the columns before x
off_row : (from to w room x k : ℕ) → Apart from to w room → x ≤ k → k < w → (j : ℕ) → j < x
    → (from + k ≡ to + j → ⊥) × (from + k ≡ to + w + j → ⊥)
off_row from to w room x k a g l j h = by_place a.away
  where
    by_place : (from ≡ to + w) ⊎ (from + w ≡ to) → (from + k ≡ to + j → ⊥) × (from + k ≡ to + w + j → ⊥)
    by_place (inl e) = (λ q. omega arith, λ q. omega arith)
    by_place (inr e) = (λ q. omega arith, λ q. omega arith)

-- the row before lies inside
pub before_room : (from to w room x : ℕ) → Apart from to w room → x < w → from + x < room
before_room from to w room x a h = by_place a.away
  where
    by_place : (from ≡ to + w) ⊎ (from + w ≡ to) → from + x < room
    by_place (inl e) = omega arith
    by_place (inr e) = omega arith

-- f of eight columns from x on, and column by column
module _ (f : ℤ → ℤ → ℤ → ℤ → ℤ) (avg res next s : List ℤ) (from x : ℕ) where
  abbrev pub eight : List ℤ
  eight = lanes f (take 8 (drop x avg)) (take 8 (drop x res)) (take 8 (drop x next)) (take 8 (drop (from + x) s))

  module _ (ha : x + 8 ≤ length avg) (hr : x + 8 ≤ length res) (hn : x + 8 ≤ length next) (hs : from + x + 8 ≤ length s) where
    eight_laned : Laned f (take 8 (drop x avg)) (take 8 (drop x res)) (take 8 (drop x next)) (take 8 (drop (from + x) s)) 8
    eight_laned =
        laned f 8 (take 8 (drop x avg)) (take 8 (drop x res)) (take 8 (drop x next)) (take 8 (drop (from + x) s))
        (part_length x 8 avg ha) (part_length x 8 res hr) (part_length x 8 next hn) (part_length (from + x) 8 s hs)

    pub eight_length : length eight ≡ 8
    eight_length = eight_laned.long

    pub eight_at : (k : ℕ) → x ≤ k → k < x + 8
        → get_or eight (k - x) (pos 0) ≡ f (get_or avg k (pos 0)) (get_or res k (pos 0)) (get_or next k (pos 0)) (get_or s (from + k) (pos 0))
    eight_at k g h =
        let i : k - x < 8 = omega arith in
        let e : x + (k - x) ≡ k = omega arith in
        let d : from + x + (k - x) ≡ from + k = omega arith in
        eight_laned.at (k - x) i
        ∙ rw (part_at x 8 (k - x) avg i, part_at x 8 (k - x) res i, part_at x 8 (k - x) next i, part_at (from + x) 8 (k - x) s i, e, d) refl

module _ {avg res next : List ℤ} {from to : ℕ} where
  -- ---- two ranges
  pub columns_join : {old mid new : List ℤ} {room lo x hi : ℕ} → Apart from to (length avg) room → lo ≤ x → x ≤ hi → hi ≤ length avg
      → Columns avg res next old mid from to lo x → Columns avg res next mid new from to x hi → Columns avg res next old new from to lo hi
  columns_join {old} {mid} {new} {room} {lo} {x} {hi} a l h i c d =
      record {
        long = d.long ∙ c.long;
        firsts = λ k g p. first_at k g p (lt_or_ge k x);
        seconds = λ k g p. second_at_lem k g p (lt_or_ge k x);
        kept = λ q off. d.kept q (λ k g p. off k (omega arith) p) ∙ c.kept q (λ k g p. off k g (omega arith));
      }
    where
      row_kept : (k : ℕ) → x ≤ k → k < length avg → get_or mid (from + k) (pos 0) ≡ get_or old (from + k) (pos 0)
      row_kept k g p = c.kept (from + k) (λ j _ q. off_row from to (length avg) room x k a g p j q)

      first_at : (k : ℕ) → lo ≤ k → k < hi → (k < x) ⊎ (x ≤ k)
          → get_or new (to + k) (pos 0) ≡ first (get_or avg k (pos 0)) (get_or res k (pos 0)) (get_or next k (pos 0)) (get_or old (from + k) (pos 0))
      first_at k g p (inl e) = d.kept (to + k) (λ j f q. (λ r. omega arith, λ r. omega arith)) ∙ c.firsts k g e
      first_at k g p (inr e) = d.firsts k e p ∙ rw (row_kept k e (omega arith)) refl

      second_at_lem : (k : ℕ) → lo ≤ k → k < hi → (k < x) ⊎ (x ≤ k)
          → get_or new (to + length avg + k) (pos 0)
          ≡ second (get_or avg k (pos 0)) (get_or res k (pos 0)) (get_or next k (pos 0)) (get_or old (from + k) (pos 0))
      second_at_lem k g p (inl e) = d.kept (to + length avg + k) (λ j f q. (λ r. omega arith, λ r. omega arith)) ∙ c.seconds k g e
      second_at_lem k g p (inr e) = d.seconds k e p ∙ rw (row_kept k e (omega arith)) refl

  -- ---- one column
  pub columns_one : (s : List ℤ) (x : ℕ) (u v : ℤ) → x < length avg → to + length avg + length avg ≤ length s
      → u ≡ first (get_or avg x (pos 0)) (get_or res x (pos 0)) (get_or next x (pos 0)) (get_or s (from + x) (pos 0))
      → v ≡ second (get_or avg x (pos 0)) (get_or res x (pos 0)) (get_or next x (pos 0)) (get_or s (from + x) (pos 0))
      → Columns avg res next s (set (set s (to + x) u) (to + length avg + x) v) from to x (x + 1)
  columns_one s x u v l room eu ev =
      let p = length-set s (to + x) u in
      let t = set s (to + x) u in
      record {
        long = length-set t (to + length avg + x) v ∙ p;
        firsts =
            λ k g h.
            let e : k ≡ x = omega arith in
            rw e
            (get_or-set_other t (to + length avg + x) (to + x) v (pos 0) (λ q. omega arith)
            ∙ get_or-set_same s (to + x) u (pos 0) (omega arith)
            ∙ eu);
        seconds = λ k g h. let e : k ≡ x = omega arith in rw e (get_or-set_same t (to + length avg + x) v (pos 0) (omega arith) ∙ ev);
        kept =
            λ q off.
            let o = off x (omega arith) (omega arith) in
            get_or-set_other t (to + length avg + x) q v (pos 0) o.1 ∙ get_or-set_other s (to + x) q u (pos 0) o.0;
      }

  -- ---- eight columns
  pub columns_eight : (s new : List ℤ) (x : ℕ) → x + 8 ≤ length avg → length res ≡ length avg → length next ≡ length avg
      → Apart from to (length avg) (length s)
      → new ≡ pasted (pasted s (to + x) (eight first avg res next s from x)) (to + length avg + x) (eight second avg res next s from x)
      → Columns avg res next s new from to x (x + 8)
  columns_eight s new x l er en a e =
      let room = a.inside in
      let b = before_room from to (length avg) (length s) (x + 7) a (omega arith) in
      let firsts = eight first avg res next s from x in
      let seconds = eight second avg res next s from x in
      let lf = eight_length first avg res next s from x l (omega arith) (omega arith) (omega arith) in
      let ls = eight_length second avg res next s from x l (omega arith) (omega arith) (omega arith) in
      let t = pasted s (to + x) firsts in
      let p = pasted_length s (to + x) firsts (omega arith) in
      rw e
      (record {
        long = pasted_length t (to + length avg + x) seconds (omega arith) ∙ p;
        firsts =
            λ k g h.
            let d : to + k ≡ to + x + (k - x) = omega arith in
            pasted_off t (to + length avg + x) seconds (omega arith) (to + k) (λ j i q. omega arith)
            ∙ ap (λ (q : ℕ). get_or t q (pos 0)) d
            ∙ pasted_in s (to + x) firsts (omega arith) (k - x) (omega arith)
            ∙ eight_at first avg res next s from x l (omega arith) (omega arith) (omega arith) k g h;
        seconds =
            λ k g h.
            let d : to + length avg + k ≡ to + length avg + x + (k - x) = omega arith in
            ap (λ (q : ℕ). get_or (pasted t (to + length avg + x) seconds) q (pos 0)) d
            ∙ pasted_in t (to + length avg + x) seconds (omega arith) (k - x) (omega arith)
            ∙ eight_at second avg res next s from x l (omega arith) (omega arith) (omega arith) k g h;
        kept =
            λ q off.
            pasted_off t (to + length avg + x) seconds (omega arith) q (λ j i e. (off (x + j) (omega arith) (omega arith)).1 (omega arith))
            ∙ pasted_off s (to + x) firsts (omega arith) q (λ j i e. (off (x + j) (omega arith) (omega arith)).0 (omega arith));
      })
