-- A pair of one row, by two samples set one after the other: it is the pair (`row_pair`), and an ordinary one where the next average is the next of the
-- averages (`row_ordinary`). With the next average that is chosen, and the tail after it, it is the row's end (`row_end`, `row_end_tail`). Assumes nothing.
use mathlib.Core.Path.{◌≡◌, sym, ◌∙◌}
use mathlib.Core.Bool.{true, cond}
use mathlib.Core.List.{List}
use Prim.Native.Nat.{ℕ, ◌+◌, ◌*◌, ◌<◌, ◌≤◌}
use native.Mathlib.Omega.{arith}
use lib.Dec.{ltb}
use lib.IntN.{ℤ, pos}
use lib.ListN.{length, get_or, set, length-set}
use lib.Seq.{get_or-set_same, get_or-set_other}
use Rattle.pair.specs.Pair.{first, second}
use Rattle.line.specs.Line.{or_else, next_average, before}
use Rattle.line.specs.Uncut.{Squeeze, squeeze, outer, line_of}
use Rattle.line.specs.Pairs.{Lines, lines_of, inner, avg_at, res_at, at, Ordinary, Ended}
use Rattle.line.proofs.Lines.{before_first}
use Rattle.line.proofs.Pairs.{OnePair, one, following_same, next_chosen, ended_pair, ended_tail}

module _ (m n : ℕ) (avg res : List ℤ) where
  abbrev pub row : Lines
  row = lines_of true 1 m n avg res

  -- the only line is line 0
  pub own_average : (k i : ℕ) → k < 1 → get_or avg i (pos 0) ≡ avg_at row k i
  own_average k i hk = let z : k ≡ 0 = omega arith in let p : 0 * m + i ≡ i = omega arith in rw (z, p)

  own_residual : (k i : ℕ) → k < 1 → get_or res i (pos 0) ≡ res_at row k i
  own_residual k i hk = let z : k ≡ 0 = omega arith in let p : 0 * n + i ≡ i = omega arith in rw (z, p)

  pub own_place : (k j : ℕ) → k < 1 → at row k j ≡ j
  own_place k j hk = let z : k ≡ 0 = omega arith in rw z (omega arith)

  -- the output before the row
  pub row_before_lem : (next prev : List ℤ) (v : ℤ) → v ≡ or_else (outer prev 0) (get_or avg 0 (pos 0)) → (k : ℕ) → k < 1
      → v ≡ before (line_of (squeeze true 1 m n avg res next prev) k) 0
  unfolding line_of
  row_before_lem next prev v e k hk =
      let z : k ≡ 0 = omega arith in
      rw z (e ∙ rw (own_average 0 0 (omega arith)) (sym (before_first (line_of (squeeze true 1 m n avg res next prev) 0))))

  module _ (out : List ℤ) (following prior u v : ℤ) (i : ℕ) (h : i < n) (low : n ≤ m) (room : length out ≡ m + n)
      (eu : u ≡ first (get_or avg i (pos 0)) (get_or res i (pos 0)) following prior)
      (ev : v ≡ second (get_or avg i (pos 0)) (get_or res i (pos 0)) following prior) where
    abbrev mid : List ℤ
    mid = set out (i + i) u

    pub row_pair : OnePair row (λ _. following) (λ _. prior) out (set mid (i + i + 1) v) i
    row_pair =
        let l = length-set out (i + i) u in
        record {
          long = length-set mid (i + i + 1) v ∙ l;
          firsts = λ k hk.
              rw (own_place k (i + i) hk)
              (get_or-set_other mid (i + i + 1) (i + i) v (pos 0) (λ (q : i + i ≡ i + i + 1). omega arith)
              ∙ get_or-set_same out (i + i) u (pos 0) (omega arith)
              ∙ eu ∙ rw (own_average k i hk, own_residual k i hk));
          seconds = λ k hk.
              rw (own_place k (i + i + 1) hk)
              (get_or-set_same mid (i + i + 1) v (pos 0) (omega arith) ∙ ev ∙ rw (own_average k i hk, own_residual k i hk));
          kept = λ q off.
              let o = off 0 (omega arith) in
              get_or-set_other mid (i + i + 1) q v (pos 0) (λ e. o.1 (e ∙ omega arith))
              ∙ get_or-set_other out (i + i) q u (pos 0) (λ e. o.0 (e ∙ omega arith));
        }

    pub row_ordinary : following ≡ get_or avg (i + 1) (pos 0) → Ordinary row (λ _. prior) (λ _. v) out (set mid (i + i + 1) v) i 1
    row_ordinary ef =
        one row_pair (λ k hk. ef ∙ own_average k (i + 1) hk) (λ k hk. ev ∙ rw (own_average k i hk, own_residual k i hk))

  -- the row's end: its last pair, made with the next average that was chosen, and the tail
  module _ (next prev out : List ℤ) (following prior u v : ℤ) (i : ℕ) (last : i + 1 ≡ n) (low : n ≤ m) (room : length out ≡ m + n)
      (ef : following ≡ cond (ltb n m) (get_or avg n (pos 0)) (or_else (outer next 0) (get_or avg i (pos 0))))
      (eu : u ≡ first (get_or avg i (pos 0)) (get_or res i (pos 0)) following prior)
      (ev : v ≡ second (get_or avg i (pos 0)) (get_or res i (pos 0)) following prior) where
    abbrev whole : Squeeze
    whole = squeeze true 1 m n avg res next prev

    abbrev pair : List ℤ
    pair = set (set out (i + i) u) (i + i + 1) v

    chosen : (k : ℕ) → k < 1 → following ≡ next_average (line_of whole k) i
    chosen k hk =
        let z : k ≡ 0 = omega arith in
        rw z (ef ∙ rw (own_average 0 n (omega arith), own_average 0 i (omega arith)) (next_chosen whole 0 i last))

    last_pair : OnePair (inner whole) (λ k. next_average (line_of whole k) i) (λ _. prior) out pair i
    last_pair = following_same chosen (row_pair out following prior u v i (omega arith) low room eu ev)

    pub row_end : m ≤ n → Ended whole (λ _. prior) out pair i
    row_end h = ended_pair whole low last last_pair h

    pub row_end_tail : (t : ℤ) → n < m → t ≡ get_or avg n (pos 0) → Ended whole (λ _. prior) out (set pair (n + n) t) i
    row_end_tail t h et =
        let l = last_pair.long in
        ended_tail whole low last last_pair (length-set pair (n + n) t)
        (λ k hk.
        let e : i + i + 2 ≡ n + n = omega arith in
        rw (own_place k (i + i + 2) hk, e) (get_or-set_same pair (n + n) t (pos 0) (omega arith) ∙ et ∙ own_average k n hk))
        (λ k j hk hj. rw (own_place k j hk) (get_or-set_other pair (n + n) j t (pos 0) (λ (q : j ≡ n + n). omega arith)))
