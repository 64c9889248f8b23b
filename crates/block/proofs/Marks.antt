-- A block is marked exactly if some sample of its four blocks or of the two that it makes lies outside the plain range. Assumes nothing.
use mathlib.Core.Path.{◌≡◌}
use mathlib.Core.Bool.{Bool, false, ◌||◌}
use mathlib.Core.List.{List}
use Prim.Native.Nat.{ℕ, ◌<◌}
use native.Mathlib.Omega.{arith}
use lib.IntN.{ℤ, pos}
use lib.ListN.{length, get_or}
use Rattle.range.specs.Range.{some_outside}
use Rattle.range.proofs.Some.{left_false, right_false, both_false, same, none, each}
use Rattle.range.proofs.Slices.{inside, none_outside}
use Rattle.pair.specs.Pair.{first, second}
use Rattle.pair.specs.Marks.{pair_marked}
use Rattle.pair.proofs.Six.{SixInside, six, none_of_six}
use Rattle.block.specs.Block.{lanes}
use Rattle.block.specs.Marks.{block_marked}
use Rattle.block.proofs.Lanes.{laned}

-- some sample of the six
abbrev pub looked : List ℤ → List ℤ → List ℤ → List ℤ → Bool
looked avg res next prev =
    some_outside avg
    || (some_outside res
    || (some_outside next || (some_outside prev || (some_outside (lanes first avg res next prev) || some_outside (lanes second avg res next prev)))))

module _ (avg res next prev : List ℤ) (ea : length avg ≡ 8) (er : length res ≡ 8) (en : length next ≡ 8) (ep : length prev ≡ 8) where
  -- the sample of lane k of each
  abbrev a : ℕ → ℤ
  a k = get_or avg k (pos 0)

  abbrev r : ℕ → ℤ
  r k = get_or res k (pos 0)

  abbrev n : ℕ → ℤ
  n k = get_or next k (pos 0)

  abbrev p : ℕ → ℤ
  p k = get_or prev k (pos 0)

  made_at : (f : ℤ → ℤ → ℤ → ℤ → ℤ) (k : ℕ) → k < 8 → get_or (lanes f avg res next prev) k (pos 0) ≡ f (a k) (r k) (n k) (p k)
  made_at f k h = (laned f 8 avg res next prev ea er en ep).at k h

  made_long : (f : ℤ → ℤ → ℤ → ℤ → ℤ) → length (lanes f avg res next prev) ≡ 8
  made_long f = (laned f 8 avg res next prev ea er en ep).long

  -- all inside, each list after the other
  pub record AllIn : Type 0 where
    pub avg_in : some_outside avg ≡ false
    pub res_in : some_outside res ≡ false
    pub next_in : some_outside next ≡ false
    pub prev_in : some_outside prev ≡ false
    pub firsts_in : some_outside (lanes first avg res next prev) ≡ false
    pub seconds_in : some_outside (lanes second avg res next prev) ≡ false

  all_in : looked avg res next prev ≡ false → AllIn
  all_in e =
      let x = some_outside (lanes first avg res next prev) in
      let y = some_outside (lanes second avg res next prev) in
      let e1 = right_false (some_outside avg) (some_outside res || (some_outside next || (some_outside prev || (x || y)))) e in
      let e2 = right_false (some_outside res) (some_outside next || (some_outside prev || (x || y))) e1 in
      let e3 = right_false (some_outside next) (some_outside prev || (x || y)) e2 in
      let e4 = right_false (some_outside prev) (x || y) e3 in
      record {
        avg_in = left_false (some_outside avg) (some_outside res || (some_outside next || (some_outside prev || (x || y)))) e;
        res_in = left_false (some_outside res) (some_outside next || (some_outside prev || (x || y))) e1;
        next_in = left_false (some_outside next) (some_outside prev || (x || y)) e2;
        prev_in = left_false (some_outside prev) (x || y) e3;
        firsts_in = left_false x y e4;
        seconds_in = right_false x y e4;
      }

  lane_unmarked : AllIn → (k : ℕ) → k < 8 → pair_marked (a k) (r k) (n k) (p k) ≡ false
  unfolding pair_marked
  lane_unmarked i k h =
      let lx = made_long first in
      let ly = made_long second in
      none_of_six (a k) (r k) (n k) (p k) (first (a k) (r k) (n k) (p k)) (second (a k) (r k) (n k) (p k))
      (record {
        avg = inside avg i.avg_in k (omega arith);
        res = inside res i.res_in k (omega arith);
        next = inside next i.next_in k (omega arith);
        prev = inside prev i.prev_in k (omega arith);
        first = rw (made_at first k h) at (inside (lanes first avg res next prev) i.firsts_in k (omega arith));
        second = rw (made_at second k h) at (inside (lanes second avg res next prev) i.seconds_in k (omega arith));
      })

  lane_six : block_marked avg res next prev ≡ false → (k : ℕ) → k < 8
      → SixInside (a k) (r k) (n k) (p k) (first (a k) (r k) (n k) (p k)) (second (a k) (r k) (n k) (p k))
  unfolding block_marked pair_marked
  lane_six e k h =
      six (a k) (r k) (n k) (p k) (first (a k) (r k) (n k) (p k)) (second (a k) (r k) (n k) (p k))
      (each (λ k. pair_marked (a k) (r k) (n k) (p k)) 8 e k h)

  unmarked : block_marked avg res next prev ≡ false → looked avg res next prev ≡ false
  unmarked e =
      let lx = made_long first in
      let ly = made_long second in
      both_false _ _ (none_outside avg (λ k l. (lane_six e k (omega arith)).avg))
      (both_false _ _ (none_outside res (λ k l. (lane_six e k (omega arith)).res))
      (both_false _ _ (none_outside next (λ k l. (lane_six e k (omega arith)).next))
      (both_false _ _ (none_outside prev (λ k l. (lane_six e k (omega arith)).prev))
      (both_false _ _
      (none_outside (lanes first avg res next prev) (λ k l. let h : k < 8 = omega arith in rw (made_at first k h) (lane_six e k h).first))
      (none_outside (lanes second avg res next prev) (λ k l. let h : k < 8 = omega arith in rw (made_at second k h) (lane_six e k h).second))))))

  pub by_samples : looked avg res next prev ≡ block_marked avg res next prev
  unfolding block_marked
  by_samples =
      same (looked avg res next prev) (block_marked avg res next prev)
      (λ e. none (λ k. pair_marked (a k) (r k) (n k) (p k)) 8 (lane_unmarked (all_in e)))
      unmarked
