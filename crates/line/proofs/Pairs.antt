-- Laws of the pairs that loops make (specs/Pairs.antt), in either direction. Ordinary pairs join (`join`), so that a loop's turn adds its own; one
-- pair (`OnePair`) made with the next of the averages is ordinary (`one`). And the way to the line rule: where the positions before are written, ordinary
-- pairs write theirs (`after_ordinary`); with the end of the lines after them the slice is the uncut squeeze (`put_together`). Assumes nothing.
use mathlib.Core.Path.{◌≡◌, refl, sym, ap, ◌∙◌}
use mathlib.Core.Bool.{cond}
use mathlib.Core.List.{List}
use mathlib.Core.Logic.{◌⊎◌, inl, inr}
use Prim.Native.Nat.{ℕ, zero, suc, ◌+◌, ◌-◌, ◌*◌, ◌<◌, ◌≤◌}
use native.Mathlib.Omega.{arith}
use lib.Dec.{ltb}
use lib.IntN.{ℤ, pos}
use lib.ListN.{length, get_or}
use Rattle.pair.specs.Pair.{first, second}
use Rattle.line.specs.Line.{or_else, next_average, before, sample}
use Rattle.line.specs.Uncut.{Squeeze, Fitting, position_at, outer, line_of, size, output_at, uncut}
use Rattle.line.specs.Pairs.{Lines, inner, avg_at, res_at, at, output_before, Ordinary, Ended}
use Rattle.line.proofs.Places.{position_back, is_entries}
use Rattle.std.proofs.lemmas.Bool.{cases_lt}
use Rattle.line.proofs.Lines.{Half, even, odd, half, sample_first, sample_second, sample_tail, before_next, next_inside}

-- ---- places
-- different positions of lines lie apart
pub apart : (t : Lines) (k l i j : ℕ) → k < t.lines → l < t.lines → i < t.averages + t.residuals → j < t.averages + t.residuals → (i ≡ j → ⊥)
    → at t k i ≡ at t l j → ⊥
apart t k l i j hk hl hi hj d e =
    let n = t.averages + t.residuals in
    d
    (sym (position_back t.horizontal t.lines n k i hk hi)
    ∙ ap (λ (q : ℕ). position_at t.horizontal t.lines n q) e
    ∙ position_back t.horizontal t.lines n l j hl hj)

-- a position before pair b is none of the pairs from b on
earlier : (t : Lines) (k j b c : ℕ) → k < t.lines → j < b + b → t.residuals ≤ t.averages → b + c ≤ t.residuals
    → (l n : ℕ) → l < t.lines → n < c → (at t k j ≡ at t l (b + n + (b + n)) → ⊥) × (at t k j ≡ at t l (b + n + (b + n) + 1) → ⊥)
earlier t k j b c hk hj low room l n hl hn = (
  apart t k l j (b + n + (b + n)) hk hl (omega arith) (omega arith) (λ e. omega arith),
  apart t k l j (b + n + (b + n) + 1) hk hl (omega arith) (omega arith) (λ e. omega arith),
)

-- ---- one pair
-- pair i of every line, made with the next averages and the outputs before it that are given, and nothing else changed
pub record OnePair (t : Lines) (following prior : ℕ → ℤ) (old new : List ℤ) (i : ℕ) : Type 0 where
  pub long : length new ≡ length old
  pub firsts : (k : ℕ) → k < t.lines → get_or new (at t k (i + i)) (pos 0) ≡ first (avg_at t k i) (res_at t k i) (following k) (prior k)
  pub seconds : (k : ℕ) → k < t.lines → get_or new (at t k (i + i + 1)) (pos 0) ≡ second (avg_at t k i) (res_at t k i) (following k) (prior k)
  pub kept : (q : ℕ) → ((k : ℕ) → k < t.lines → (q ≡ at t k (i + i) → ⊥) × (q ≡ at t k (i + i + 1) → ⊥)) → get_or new q (pos 0) ≡ get_or old q (pos 0)

-- ---- ordinary pairs
-- the output before, counted from a pair further on
before_join : (avg res : ℕ → ℤ) (prior mid : ℤ) (a c n : ℕ) → mid ≡ output_before avg res prior a c
    → output_before avg res mid (a + c) n ≡ output_before avg res prior a (c + n)
before_join avg res prior mid a c zero e = let z : c + 0 ≡ c = omega arith in rw z e
before_join avg res prior mid a c (suc n) e =
    let z : c + suc n ≡ suc (c + n) = omega arith in
    let y : a + c + n ≡ a + (c + n) = omega arith in
    rw (z, y, before_join avg res prior mid a c n e)

module _ {t : Lines} where
  pub none : {prior : ℕ → ℤ} {out : List ℤ} {a : ℕ} → Ordinary t prior prior out out a 0
  none =
      record {
        long = refl;
        firsts = λ k n hk hn. absurd (omega arith);
        seconds = λ k n hk hn. absurd (omega arith);
        handed = λ k hk. refl;
        kept = λ q off. refl;
      }

  -- a pair whose next averages are the next of the averages
  pub one : {following prior after : ℕ → ℤ} {old new : List ℤ} {i : ℕ} → OnePair t following prior old new i
      → ((k : ℕ) → k < t.lines → following k ≡ avg_at t k (i + 1))
      → ((k : ℕ) → k < t.lines → after k ≡ second (avg_at t k i) (res_at t k i) (following k) (prior k))
      → Ordinary t prior after old new i 1
  one {following} {prior} {after} {old} {new} {i} p f a =
      record {
        long = p.long;
        firsts = λ k n hk hn. let z : n ≡ 0 = omega arith in let e : i + 0 ≡ i = omega arith in rw (z, e) (p.firsts k hk ∙ rw (f k hk));
        seconds = λ k n hk hn. let z : n ≡ 0 = omega arith in let e : i + 0 ≡ i = omega arith in rw (z, e) (p.seconds k hk ∙ rw (f k hk));
        handed = λ k hk. let e : i + 0 ≡ i = omega arith in rw e (a k hk ∙ rw (f k hk));
        kept = λ q off. let e : i + 0 ≡ i = omega arith in p.kept q (λ k hk. rw e at (off k 0 hk (omega arith)));
      }

  pub join : {prior mid after : ℕ → ℤ} {old between new : List ℤ} {a c d : ℕ} → t.residuals ≤ t.averages → a + c + d ≤ t.residuals
      → Ordinary t prior mid old between a c → Ordinary t mid after between new (a + c) d → Ordinary t prior after old new a (c + d)
  join {prior} {mid} {after} {old} {between} {new} {a} {c} {d} low room o p =
      record {
        long = p.long ∙ o.long;
        firsts = λ k n hk hn. first_at k n hk hn (cases_lt n c);
        seconds = λ k n hk hn. second_at_lem k n hk hn (cases_lt n c);
        handed = λ k hk. p.handed k hk ∙ before_join (avg_at t k) (res_at t k) (prior k) (mid k) a c d (o.handed k hk);
        kept = λ q off.
            p.kept q (λ k n hk hn. let e : a + c + n ≡ a + (c + n) = omega arith in rw e (off k (c + n) hk (omega arith)))
            ∙ o.kept q (λ k n hk hn. off k n hk (omega arith));
      }
    where
      -- the output before a later pair, counted from the first
      prior_of : (k n : ℕ) → k < t.lines → c ≤ n
          → output_before (avg_at t k) (res_at t k) (mid k) (a + c) (n - c) ≡ output_before (avg_at t k) (res_at t k) (prior k) a n
      prior_of k n hk g =
          let e : c + (n - c) ≡ n = omega arith in
          rw e at (before_join (avg_at t k) (res_at t k) (prior k) (mid k) a c (n - c) (o.handed k hk))

      first_at : (k n : ℕ) → k < t.lines → n < c + d → (n < c) ⊎ (c ≤ n)
          → get_or new (at t k (a + n + (a + n))) (pos 0)
          ≡ first (avg_at t k (a + n)) (res_at t k (a + n)) (avg_at t k (a + n + 1)) (output_before (avg_at t k) (res_at t k) (prior k) a n)
      first_at k n hk hn (inl l) = p.kept _ (earlier t k (a + n + (a + n)) (a + c) d hk (omega arith) low room) ∙ o.firsts k n hk l
      first_at k n hk hn (inr g) =
          let f : a + c + (n - c) ≡ a + n = omega arith in
          rw f at (p.firsts k (n - c) hk (omega arith)) ∙ rw (prior_of k n hk g)

      second_at_lem : (k n : ℕ) → k < t.lines → n < c + d → (n < c) ⊎ (c ≤ n)
          → get_or new (at t k (a + n + (a + n) + 1)) (pos 0)
          ≡ second (avg_at t k (a + n)) (res_at t k (a + n)) (avg_at t k (a + n + 1)) (output_before (avg_at t k) (res_at t k) (prior k) a n)
      second_at_lem k n hk hn (inl l) = p.kept _ (earlier t k (a + n + (a + n) + 1) (a + c) d hk (omega arith) low room) ∙ o.seconds k n hk l
      second_at_lem k n hk hn (inr g) =
          let f : a + c + (n - c) ≡ a + n = omega arith in
          rw f at (p.seconds k (n - c) hk (omega arith)) ∙ rw (prior_of k n hk g)

-- ---- to the line rule
-- the positions before j are written in every line
pub record Upto (s : Squeeze) (out : List ℤ) (j : ℕ) : Type 0 where
  pub long : length out ≡ s.lines * size s
  pub done : (k i : ℕ) → k < s.lines → i < j → get_or out (at (inner s) k i) (pos 0) ≡ sample (line_of s k) i

-- the outputs before ordinary pairs are the lines'
same_before : (s : Squeeze) (k : ℕ) (prior : ℤ) (a n : ℕ) → a + n < s.averages → prior ≡ before (line_of s k) a
    → output_before (avg_at (inner s) k) (res_at (inner s) k) prior a n ≡ before (line_of s k) (a + n)
unfolding line_of
same_before s k prior a zero h e = let z : a + 0 ≡ a = omega arith in rw z e
same_before s k prior a (suc n) h e =
    let z : a + suc n ≡ suc (a + n) = omega arith in
    rw (z, before_next (line_of s k) (a + n))
    (rw (next_inside (line_of s k) (a + n) (omega arith), same_before s k prior a n (omega arith) e) refl)

pub upto_none : (s : Squeeze) (out : List ℤ) → length out ≡ s.lines * size s → Upto s out 0
upto_none s out e = record { long = e; done = λ k i hk hi. absurd (omega arith) }

module _ {s : Squeeze} (fitting : Fitting s) where
  -- ordinary pairs write theirs, and hand on the lines' outputs before the next one
  pub after_ordinary : {prior after : ℕ → ℤ} {old new : List ℤ} {a count : ℕ} → a + count ≤ s.residuals → a + count < s.averages
      → ((k : ℕ) → k < s.lines → prior k ≡ before (line_of s k) a)
      → Ordinary (inner s) prior after old new a count → Upto s old (a + a)
      → Upto s new (a + count + (a + count)) × ((k : ℕ) → k < s.lines → after k ≡ before (line_of s k) (a + count))
  unfolding line_of
  after_ordinary {prior} {after} {old} {new} {a} {count} room sight eb o u = (
    record { long = o.long ∙ u.long; done = λ k i hk hi. by_place k i hk hi (cases_lt i (a + a)) (half i) },
    λ k hk. o.handed k hk ∙ same_before s k (prior k) a count sight (eb k hk),
  )
    where
      by_place : (k i : ℕ) → k < s.lines → i < a + count + (a + count) → (i < a + a) ⊎ (a + a ≤ i) → Half i
          → get_or new (at (inner s) k i) (pos 0) ≡ sample (line_of s k) i
      by_place k i hk hi (inl l) _ = o.kept _ (earlier (inner s) k i a count hk l fitting.low room) ∙ u.done k i hk l
      by_place k i hk hi (inr g) (even p e) =
          let n = p - a in
          let f : i ≡ a + n + (a + n) = omega arith in
          rw f
          (o.firsts k n hk (omega arith)
          ∙ rw (same_before s k (prior k) a n (omega arith) (eb k hk))
          (sym (sample_first (line_of s k) (a + n) (omega arith) ∙ rw (next_inside (line_of s k) (a + n) (omega arith)) refl)))
      by_place k i hk hi (inr g) (odd p e) =
          let n = p - a in
          let f : i ≡ a + n + (a + n) + 1 = omega arith in
          rw f
          (o.seconds k n hk (omega arith)
          ∙ rw (same_before s k (prior k) a n (omega arith) (eb k hk))
          (sym (sample_second (line_of s k) (a + n) (omega arith) ∙ rw (next_inside (line_of s k) (a + n) (omega arith)) refl)))

-- every position is written
pub all : (s : Squeeze) (out : List ℤ) (j : ℕ) → size s ≤ j → Upto s out j → out ≡ uncut s
unfolding uncut output_at
all s out j h u =
    is_entries s.horizontal s.lines (size s) (λ k i. sample (line_of s k) i) out u.long (λ k i hk hi. u.done k i hk (omega arith))

-- the next averages of a pair by other names
pub following_same : {t : Lines} {following other prior : ℕ → ℤ} {old new : List ℤ} {i : ℕ} → ((k : ℕ) → k < t.lines → following k ≡ other k)
    → OnePair t following prior old new i → OnePair t other prior old new i
following_same e p =
    record {
      long = p.long;
      firsts = λ k hk. p.firsts k hk ∙ rw (e k hk);
      seconds = λ k hk. p.seconds k hk ∙ rw (e k hk);
      kept = p.kept;
    }

-- the next average of the last pair, by the number of residuals
pub next_chosen : (s : Squeeze) (k i : ℕ) → i + 1 ≡ s.residuals
    → cond (ltb s.residuals s.averages) (avg_at (inner s) k s.residuals) (or_else (outer s.next k) (avg_at (inner s) k i)) ≡ next_average (line_of s k) i
unfolding next_average line_of
next_chosen s k i e = rw e

-- the end of the lines, after the last pair and after the tail
module _ (s : Squeeze) (low : s.residuals ≤ s.averages) {prior : ℕ → ℤ} {old mid : List ℤ} {i : ℕ} (last : i + 1 ≡ s.residuals)
    (p : OnePair (inner s) (λ k. next_average (line_of s k) i) prior old mid i) where
  -- the pair keeps what stands before it
  before_kept : (k j : ℕ) → k < s.lines → j < i + i → get_or mid (at (inner s) k j) (pos 0) ≡ get_or old (at (inner s) k j) (pos 0)
  before_kept k j hk hj =
      p.kept (at (inner s) k j)
      (λ x hx. (
        apart (inner s) k x j (i + i) hk hx (omega arith) (omega arith) (λ e. omega arith),
        apart (inner s) k x j (i + i + 1) hk hx (omega arith) (omega arith) (λ e. omega arith),
      ))

  pub ended_pair : s.averages ≤ s.residuals → Ended s prior old mid i
  ended_pair h =
      record {
        last = last;
        long = p.long;
        firsts = p.firsts;
        seconds = p.seconds;
        tails = λ k hk l. absurd (omega arith);
        kept = before_kept;
      }

  pub ended_tail : {new : List ℤ} → length new ≡ length mid
      → ((k : ℕ) → k < s.lines → get_or new (at (inner s) k (i + i + 2)) (pos 0) ≡ avg_at (inner s) k s.residuals)
      → ((k j : ℕ) → k < s.lines → j < i + i + 2 → get_or new (at (inner s) k j) (pos 0) ≡ get_or mid (at (inner s) k j) (pos 0))
      → Ended s prior old new i
  ended_tail {new} long on off =
      record {
        last = last;
        long = long ∙ p.long;
        firsts = λ k hk. off k (i + i) hk (omega arith) ∙ p.firsts k hk;
        seconds = λ k hk. off k (i + i + 1) hk (omega arith) ∙ p.seconds k hk;
        tails = λ k hk l. on k hk;
        kept = λ k j hk hj. off k j hk (omega arith) ∙ before_kept k j hk hj;
      }

-- a line is its ordinary pairs and its end put together
pub put_together : {s : Squeeze} {prior after : ℕ → ℤ} {old mid new : List ℤ} {i : ℕ} → Fitting s → length old ≡ s.lines * size s
    → ((k : ℕ) → k < s.lines → prior k ≡ before (line_of s k) 0)
    → Ordinary (inner s) prior after old mid 0 i → Ended s after mid new i → new ≡ uncut s
unfolding line_of
put_together {s} {prior} {after} {old} {mid} {new} {i} fitting room eb o e =
    all s new (size s) (omega arith) (record { long = e.long ∙ written.0.long; done = by_order })
  where
    written : Upto s mid (0 + i + (0 + i)) × ((k : ℕ) → k < s.lines → after k ≡ before (line_of s k) (0 + i))
    written =
        let l = e.last in
        let low = fitting.low in
        after_ordinary fitting (omega arith) (omega arith) eb o (upto_none s old room)

    handed : (k : ℕ) → k < s.lines → after k ≡ before (line_of s k) i
    handed k hk = let z : 0 + i ≡ i = omega arith in rw z at (written.1 k hk)

    by_place : (k j : ℕ) → k < s.lines → j < size s → (j < i + i) ⊎ (i + i ≤ j) → (j < i + i + 1) ⊎ (i + i + 1 ≤ j) → (j < i + i + 2) ⊎ (i + i + 2 ≤ j)
        → get_or new (at (inner s) k j) (pos 0) ≡ sample (line_of s k) j
    by_place k j hk hj (inl l) _ _ = e.kept k j hk l ∙ written.0.done k j hk (omega arith)
    by_place k j hk hj (inr g) (inl l) _ =
        let f : j ≡ i + i = omega arith in
        let h : i < s.residuals = omega (arith, e.last) in
        rw f (e.firsts k hk ∙ rw (handed k hk) (sym (sample_first (line_of s k) i h)))
    by_place k j hk hj (inr g) (inr l) (inl m) =
        let f : j ≡ i + i + 1 = omega arith in
        let h : i < s.residuals = omega (arith, e.last) in
        rw f (e.seconds k hk ∙ rw (handed k hk) (sym (sample_second (line_of s k) i h)))
    by_place k j hk hj (inr g) (inr l) (inr m) =
        let b = e.last in
        let high = fitting.high in
        let f : j ≡ i + i + 2 = omega arith in
        let t : i + i + 2 ≡ s.residuals + s.residuals = omega arith in
        let h : s.residuals < s.averages = omega arith in
        rw f (e.tails k hk h ∙ rw t (sym (sample_tail (line_of s k) s.residuals (omega arith))))

    by_order : (k j : ℕ) → k < s.lines → j < size s → get_or new (at (inner s) k j) (pos 0) ≡ sample (line_of s k) j
    by_order k j hk hj = by_place k j hk hj (cases_lt j (i + i)) (cases_lt j (i + i + 1)) (cases_lt j (i + i + 2))

-- without a pair the averages are copied
pub copied : {s : Squeeze} {new : List ℤ} → Fitting s → s.residuals ≡ 0 → length new ≡ s.lines * size s
    → ((k : ℕ) → k < s.lines → 0 < s.averages → get_or new (at (inner s) k 0) (pos 0) ≡ avg_at (inner s) k 0) → new ≡ uncut s
unfolding line_of
copied {s} {new} fitting none room on =
    all s new (size s) (omega arith)
    (record {
      long = room;
      done = λ k j hk hj.
          let high = fitting.high in
          let z : j ≡ 0 + 0 = omega arith in
          let y : 0 + 0 ≡ 0 = omega arith in
          rw z (rw y (on k hk (omega arith)) ∙ sym (sample_tail (line_of s k) 0 (omega arith)));
    })

-- so they are all of the output, in either direction
pub averages_are_all : {s : Squeeze} → Fitting s → s.residuals ≡ 0 → s.avg ≡ uncut s
averages_are_all {s} fitting none =
    let z : s.averages + s.residuals ≡ s.averages = omega (arith, none) in
    copied fitting none (rw z fitting.avg_length) (λ k hk h. rw z refl)
