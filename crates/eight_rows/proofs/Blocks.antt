-- Pairs of eight rows by blocks (specs/Lanes.antt): the two samples of pair i, put in as two blocks of lanes, are the pair in every row (`block_pair`), and
-- an ordinary one where the next averages are the next of the averages (`block_ordinary`); four of them make a turn (`four_ordinary`). With the next
-- averages that are chosen, and the tails after it, it is the rows' end (`block_end`, `block_end_tail`). Assumes nothing.
use mathlib.Core.Path.{◌≡◌, refl, sym, ◌∙◌}
use mathlib.Core.Bool.{true, cond}
use mathlib.Core.List.{List}
use Prim.Native.Nat.{ℕ, ◌+◌, ◌*◌, ◌<◌, ◌≤◌}
use native.Mathlib.Omega.{arith}
use lib.Dec.{ltb}
use lib.IntN.{ℤ, pos}
use lib.ListN.{length, get_or}
use Rattle.pair.specs.Pair.{first, second}
use Rattle.block.specs.Block.{lanes}
use Rattle.block.proofs.Lanes.{laned}
use Rattle.line.specs.Line.{or_else, next_average, before}
use Rattle.line.specs.Uncut.{Squeeze, squeeze, outer, line_of}
use Rattle.line.specs.Pairs.{Lines, lines_of, inner, avg_at, res_at, at, Ordinary, Ended}
use Rattle.line.proofs.Lines.{before_first}
use Rattle.line.proofs.Pairs.{OnePair, apart, one, join, following_same, next_chosen, ended_pair, ended_tail}
use Rattle.eight_rows.specs.Lanes.{lanes_at, with_lanes, lane}
use Rattle.eight_rows.proofs.Strides.{lanes_at_lem, lanes_length, lanes_put_length, lanes_put_on, lanes_put_off}

module _ (m n : ℕ) (avg res : List ℤ) where
  abbrev pub eight : Lines
  eight = lines_of true 8 m n avg res

  -- lanes of the averages and the residuals are theirs, row by row
  pub own_lane : (k i : ℕ) → k < 8 → get_or (lanes_at avg i m) k (pos 0) ≡ avg_at eight k i
  own_lane k i hk = let c : i + k * m ≡ k * m + i = omega arith in lanes_at_lem avg i m k hk ∙ rw c

  -- the outputs before the rows
  pub block_before : (next prev own prior : List ℤ) → own ≡ lanes_at avg 0 m
      → ((k : ℕ) → k < 8 → get_or prior k (pos 0) ≡ or_else (outer prev k) (get_or own k (pos 0)))
      → (k : ℕ) → k < 8 → lane prior k ≡ before (line_of (squeeze true 8 m n avg res next prev) k) 0
  unfolding line_of
  block_before next prev own prior eo ep k hk =
      ep k hk ∙ rw (eo, own_lane k 0 hk) (sym (before_first (line_of (squeeze true 8 m n avg res next prev) k)))

  res_lane : (k i : ℕ) → k < 8 → get_or (lanes_at res i n) k (pos 0) ≡ res_at eight k i
  res_lane k i hk = let c : i + k * n ≡ k * n + i = omega arith in lanes_at_lem res i n k hk ∙ rw c

  module _ (own rest following prior : List ℤ) (i : ℕ) (h : i < n) (low : n ≤ m) (lf : length following ≡ 8) (lp : length prior ≡ 8)
      (eo : own ≡ lanes_at avg i m) (er : rest ≡ lanes_at res i n) where
    -- f of the blocks, lane by lane
    lane_of : (f : ℤ → ℤ → ℤ → ℤ → ℤ) (k : ℕ) → k < 8
        → get_or (lanes f own rest following prior) k (pos 0) ≡ f (avg_at eight k i) (res_at eight k i) (lane following k) (lane prior k)
    lane_of f k hk =
        rw (eo, er)
        ((laned f 8 (lanes_at avg i m) (lanes_at res i n) following prior (lanes_length avg i m) (lanes_length res i n) lf lp).at k hk
        ∙ rw (own_lane k i hk, res_lane k i hk))

    pub block_length : (f : ℤ → ℤ → ℤ → ℤ → ℤ) → length (lanes f own rest following prior) ≡ 8
    block_length f = rw (eo, er) (laned f 8 (lanes_at avg i m) (lanes_at res i n) following prior (lanes_length avg i m) (lanes_length res i n) lf lp).long

    module _ (out firsts seconds : List ℤ) (room : length out ≡ 8 * (m + n)) (e1 : firsts ≡ lanes first own rest following prior)
        (e2 : seconds ≡ lanes second own rest following prior) where
      abbrev mid : List ℤ
      mid = with_lanes out (i + i) (m + n) firsts

      abbrev new : List ℤ
      new = with_lanes mid (i + i + 1) (m + n) seconds

      pub block_pair : OnePair eight (lane following) (lane prior) out new i
      block_pair =
          let l = lanes_put_length out (i + i) (m + n) firsts in
          record {
            long = lanes_put_length mid (i + i + 1) (m + n) seconds ∙ l;
            firsts = λ k hk.
                let c : k * (m + n) + (i + i) ≡ i + i + k * (m + n) = omega arith in
                lanes_put_off mid (i + i + 1) (m + n) seconds (at eight k (i + i))
                (λ j hj q.
                let d : i + i + 1 + j * (m + n) ≡ at eight j (i + i + 1) = omega arith in
                apart eight k j (i + i) (i + i + 1) hk hj (omega arith) (omega arith) (λ e. omega arith) (q ∙ d))
                ∙ rw c (lanes_put_on out (i + i) (m + n) firsts k (omega arith) (omega arith) hk ∙ rw e1 (lane_of first k hk));
            seconds = λ k hk.
                let c : k * (m + n) + (i + i + 1) ≡ i + i + 1 + k * (m + n) = omega arith in
                rw c (lanes_put_on mid (i + i + 1) (m + n) seconds k (omega arith) (omega arith) hk ∙ rw e2 (lane_of second k hk));
            kept = λ q off.
                lanes_put_off mid (i + i + 1) (m + n) seconds q (λ j hj e. (off j hj).1 (omega arith))
                ∙ lanes_put_off out (i + i) (m + n) firsts q (λ j hj e. (off j hj).0 (omega arith));
          }

      pub block_ordinary : following ≡ lanes_at avg (i + 1) m → Ordinary eight (lane prior) (lane seconds) out new i 1
      block_ordinary ef =
          one block_pair (λ k hk. rw ef (own_lane k (i + 1) hk)) (λ k hk. rw e2 (lane_of second k hk))

  -- two ordinary pairs, of which the second has the first one's seconds before it
  module _ (own rest middle rest' following prior out : List ℤ) (i : ℕ) (h : i + 1 < n) (low : n ≤ m) (lp : length prior ≡ 8)
      (eo : own ≡ lanes_at avg i m) (er : rest ≡ lanes_at res i n) (em : middle ≡ lanes_at avg (i + 1) m) (er' : rest' ≡ lanes_at res (i + 1) n)
      (ef : following ≡ lanes_at avg (i + 2) m) (room : length out ≡ 8 * (m + n)) where
    abbrev a0 : List ℤ
    a0 = lanes first own rest middle prior

    abbrev pub a1 : List ℤ
    a1 = lanes second own rest middle prior

    abbrev b0 : List ℤ
    b0 = lanes first middle rest' following a1

    abbrev pub b1 : List ℤ
    b1 = lanes second middle rest' following a1

    abbrev pub half : List ℤ
    half = with_lanes (with_lanes out (i + i) (m + n) a0) (i + i + 1) (m + n) a1

    lm : length middle ≡ 8
    lm = rw em (lanes_length avg (i + 1) m)

    lf : length following ≡ 8
    lf = rw ef (lanes_length avg (i + 2) m)

    a1_length : length a1 ≡ 8
    a1_length = block_length own rest middle prior i (omega arith) low lm lp eo er second

    pub b1_length : length b1 ≡ 8
    b1_length = block_length middle rest' following a1 (i + 1) h low lf a1_length em er' second

    pub blocks_ordinary : Ordinary eight (lane prior) (lane b1) out (with_lanes (with_lanes half (i + i + 2) (m + n) b0) (i + i + 3) (m + n) b1) i 2
    blocks_ordinary =
        let one_pair = block_ordinary own rest middle prior i (omega arith) low lm lp eo er out a0 a1 room refl refl em in
        let e : i + 1 + (i + 1) ≡ i + i + 2 = omega arith in
        let f : i + i + 2 + 1 ≡ i + i + 3 = omega arith in
        let g : i + 1 + 1 ≡ i + 2 = omega arith in
        let more = block_ordinary middle rest' following a1 (i + 1) h low lf a1_length em er' half b0 b1 (one_pair.long ∙ room) refl refl (rw g ef) in
        join low (omega arith) one_pair (rw (e, f) at more)

  -- four ordinary pairs, two and two
  module _ (x0 r0 x1 r1 x2 r2 x3 r3 x4 prior out : List ℤ) (i : ℕ) (h : i + 3 < n) (low : n ≤ m) (lp : length prior ≡ 8)
      (e0 : x0 ≡ lanes_at avg i m) (e1 : x1 ≡ lanes_at avg (i + 1) m) (e2 : x2 ≡ lanes_at avg (i + 2) m) (e3 : x3 ≡ lanes_at avg (i + 3) m)
      (e4 : x4 ≡ lanes_at avg (i + 4) m) (s0 : r0 ≡ lanes_at res i n) (s1 : r1 ≡ lanes_at res (i + 1) n) (s2 : r2 ≡ lanes_at res (i + 2) n)
      (s3 : r3 ≡ lanes_at res (i + 3) n) (room : length out ≡ 8 * (m + n)) where
    -- what the first two leave
    abbrev seconds : List ℤ
    seconds = lanes second x1 r1 x2 (lanes second x0 r0 x1 prior)

    abbrev halfway : List ℤ
    halfway =
        with_lanes
        (with_lanes (with_lanes (with_lanes out (i + i) (m + n) (lanes first x0 r0 x1 prior)) (i + i + 1) (m + n) (lanes second x0 r0 x1 prior)) (i + i + 2)
        (m + n) (lanes first x1 r1 x2 (lanes second x0 r0 x1 prior)))
        (i + i + 3) (m + n) seconds

    pub four_ordinary : Ordinary eight (lane prior) (lane (lanes second x3 r3 x4 (lanes second x2 r2 x3 seconds))) out
        (with_lanes
        (with_lanes
        (with_lanes (with_lanes halfway (i + i + 4) (m + n) (lanes first x2 r2 x3 seconds)) (i + i + 4 + 1) (m + n) (lanes second x2 r2 x3 seconds))
        (i + i + 4 + 2) (m + n) (lanes first x3 r3 x4 (lanes second x2 r2 x3 seconds)))
        (i + i + 4 + 3) (m + n) (lanes second x3 r3 x4 (lanes second x2 r2 x3 seconds)))
        i 4
    four_ordinary =
        let two = blocks_ordinary x0 r0 x1 r1 x2 prior out i (omega arith) low lp e0 s0 e1 s1 e2 room in
        let long = b1_length x0 r0 x1 r1 x2 prior out i (omega arith) low lp e0 s0 e1 s1 e2 room in
        let p : i + 2 + 1 ≡ i + 3 = omega arith in
        let q : i + 2 + 2 ≡ i + 4 = omega arith in
        let e : i + 2 + (i + 2) ≡ i + i + 4 = omega arith in
        let more = blocks_ordinary x2 r2 x3 r3 x4 seconds halfway (i + 2) (omega arith) low long e2 s2 (rw p e3) (rw p s3) (rw q e4) (two.long ∙ room) in
        join low (omega arith) two (rw e at more)

  -- the rows' end: their last pair, made with the next averages that were chosen, and the tails
  module _ (next prev own rest following prior out firsts seconds : List ℤ) (i : ℕ) (last : i + 1 ≡ n) (low : n ≤ m) (lf : length following ≡ 8)
      (lp : length prior ≡ 8) (eo : own ≡ lanes_at avg i m) (er : rest ≡ lanes_at res i n) (room : length out ≡ 8 * (m + n))
      (ef : (k : ℕ) → k < 8 → get_or following k (pos 0) ≡ cond (ltb n m) (get_or avg (k * m + n) (pos 0)) (or_else (outer next k) (get_or own k (pos 0))))
      (e1 : firsts ≡ lanes first own rest following prior) (e2 : seconds ≡ lanes second own rest following prior) where
    abbrev whole : Squeeze
    whole = squeeze true 8 m n avg res next prev

    abbrev pair : List ℤ
    pair = with_lanes (with_lanes out (i + i) (m + n) firsts) (i + i + 1) (m + n) seconds

    chosen : (k : ℕ) → k < 8 → lane following k ≡ next_average (line_of whole k) i
    chosen k hk = ef k hk ∙ rw (eo, own_lane k i hk) (next_chosen whole k i last)

    last_pair : OnePair (inner whole) (λ k. next_average (line_of whole k) i) (lane prior) out pair i
    last_pair = following_same chosen (block_pair own rest following prior i (omega arith) low lf lp eo er out firsts seconds room e1 e2)

    pub block_end : m ≤ n → Ended whole (lane prior) out pair i
    block_end h = ended_pair whole low last last_pair h

    pub block_end_tail : (tails : List ℤ) → n < m → tails ≡ lanes_at avg n m → Ended whole (lane prior) out (with_lanes pair (n + n) (m + n) tails) i
    block_end_tail tails h et =
        let l = last_pair.long in
        let e : i + i + 2 ≡ n + n = omega arith in
        ended_tail whole low last last_pair (lanes_put_length pair (n + n) (m + n) tails)
        (λ k hk.
        let c : k * (m + n) + (n + n) ≡ n + n + k * (m + n) = omega arith in
        rw (e, c) (lanes_put_on pair (n + n) (m + n) tails k (omega arith) (omega arith) hk ∙ rw et (own_lane k n hk)))
        (λ k j hk hj.
        lanes_put_off pair (n + n) (m + n) tails (at eight k j)
        (λ x hx q.
        let d : n + n + x * (m + n) ≡ at eight x (n + n) = omega arith in
        apart eight k x j (n + n) hk hx (omega arith) (omega arith) (λ z. omega arith) (q ∙ d)))
