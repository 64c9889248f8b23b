-- Eight samples of each of eight rows of n, from position `at` on, taken out row after row (`Taken`): each row is put in as eight neighbouring
-- samples, and once all eight are, lane j of the part is lane at + j of the rows. Assumes nothing.
use mathlib.Core.Path.{◌≡◌, ◌∙◌}
use mathlib.Core.List.{List}
use mathlib.Core.Logic.{◌⊎◌, inl, inr}
use Prim.Native.Nat.{ℕ, ◌+◌, ◌*◌, ◌<◌, ◌≤◌}
use native.Mathlib.Omega.{arith}
use lib.IntN.{ℤ, pos}
use lib.ListN.{length, get_or}
use Rattle.eight_rows.specs.Lanes.{lanes_at, with_lanes}
use Rattle.line.proofs.Tables.{table_cong}
use Rattle.line.proofs.Lines.{lt_or_ge}
use Rattle.eight_rows.proofs.Strides.{lanes_at_lem, lanes_put_length, lanes_put_on, lanes_put_off}

module _ (s : List ℤ) (at n : ℕ) where
  pub record Taken (part : List ℤ) (i : ℕ) : Type 0 where
    pub long : length part ≡ 64
    pub inside : i ≤ 8
    pub done : (k j : ℕ) → k < i → j < 8 → get_or part (j + k * 8) (pos 0) ≡ get_or s (at + j + k * n) (pos 0)

  pub taken_none : (part : List ℤ) → length part ≡ 64 → Taken part 0
  taken_none part e = record { long = e; inside = omega arith; done = λ k j hk hj. absurd (omega arith) }

  -- a row more
  pub taken_more : (part b : List ℤ) (i : ℕ) → i < 8 → b ≡ lanes_at s (at + i * n) 1 → Taken part i → Taken (with_lanes part (8 * i) 1 b) (i + 1)
  taken_more part b i h e t =
      record {
        long = lanes_put_length part (8 * i) 1 b ∙ t.long;
        inside = omega arith;
        done = λ k j hk hj. by_row k j hk hj (lt_or_ge k i);
      }
    where
      by_row : (k j : ℕ) → k < i + 1 → j < 8 → (k < i) ⊎ (i ≤ k) → get_or (with_lanes part (8 * i) 1 b) (j + k * 8) (pos 0) ≡ get_or s (at + j + k * n) (pos 0)
      by_row k j hk hj (inl l) = lanes_put_off part (8 * i) 1 b (j + k * 8) (λ q hq p. omega arith) ∙ t.done k j l hj
      by_row k j hk hj (inr l) =
          let r : k ≡ i = omega arith in
          let p : j + i * 8 ≡ 8 * i + j * 1 = omega arith in
          let q : at + i * n + j * 1 ≡ at + j + i * n = omega arith in
          let g : 8 * i + 7 * 1 < length part = omega (arith, t.long) in
          rw (r, p) (lanes_put_on part (8 * i) 1 b j (omega arith) g hj ∙ rw e (lanes_at_lem s (at + i * n) 1 j hj ∙ rw q))

  pub taken_all : (part : List ℤ) (i j : ℕ) → 8 ≤ i → j < 8 → Taken part i → lanes_at part j 8 ≡ lanes_at s (at + j) n
  unfolding lanes_at
  taken_all part i j h hj t =
      table_cong (λ k. get_or part (j + k * 8) (pos 0)) (λ k. get_or s (at + j + k * n) (pos 0)) 0 0 8
      (λ k hk. let z : 0 + k ≡ k = omega arith in rw z (t.done k j (omega arith) hj))
