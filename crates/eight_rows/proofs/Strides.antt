-- Eight lanes `stride` samples apart (specs/Lanes.antt): an array that is made of them, and what a slice holds at the
-- lanes and elsewhere after they are put in. Assumes nothing.
use mathlib.Core.Path.{◌≡◌, refl, ◌∙◌}
use mathlib.Core.List.{List}
use mathlib.Core.Logic.{◌⊎◌, inl, inr}
use Prim.Native.Nat.{ℕ, zero, suc, ◌+◌, ◌*◌, ◌<◌, ◌≤◌}
use native.Mathlib.Omega.{arith}
use native.Mathlib.Nat.{mul-le-mul_right}
use denote.Param.Members.{Mut, Called}
use lib.IntN.{ℤ, pos}
use lib.ListN.{length, get_or, length-set}
use lib.Seq.{get_or-set_same, get_or-set_other}
use Rattle.std.specs.Array.{IsFromFnResult, IsFromFnResultFrom}
use Rattle.eight_rows.specs.Lanes.{lanes_at, with_some, with_lanes}
use Rattle.line.proofs.Tables.{is_table, table_at, table_length}
use Rattle.line.proofs.Lines.{lt_or_ge}

-- lane k lies inside where the last one does
pub lane_room : (at stride k room : ℕ) → k < 8 → at + 7 * stride < room → at + k * stride < room
lane_room at stride k room h r = let m : k * stride ≤ 7 * stride = mul-le-mul_right stride (omega arith) in omega arith

-- ---- taken out
-- an array of what calls of a closure gave that stays as it was
from_calls : {F : Type 0} {g : Mut F (ℕ × Unit {0}) ℤ} {f : F} (b : List ℤ) (h : ℕ → ℤ)
    → ((i : ℕ) (y : ℤ) (q : F) → Called g f (i, tt) y q → (y ≡ h i) × (q ≡ f))
    → (i n : ℕ) → IsFromFnResultFrom g f b i n → (k : ℕ) → k < n → get_or b (i + k) (pos 0) ≡ h (i + k)
from_calls b h step i zero r k l = absurd (omega arith)
from_calls b h step i (suc n) (q, y, at, called, rest) zero l =
    let z : i + 0 ≡ i = omega arith in
    rw z (at.1 (pos 0) ∙ (step i y q called).0)
from_calls {F} {g} {f} b h step i (suc n) (q, y, at, called, rest) (suc k) l =
    let z : i + suc k ≡ i + 1 + k = omega arith in
    rw z (from_calls {g = g} {f = f} b h step (i + 1) n (rw (step i y q called).1 at rest) k (omega arith))

pub lanes_made : {F : Type 0} {g : Mut F (ℕ × Unit {0}) ℤ} {f : F} (s : List ℤ) (at stride : ℕ) (b : List ℤ) → IsFromFnResult g f b 8
    → ((i : ℕ) (y : ℤ) (q : F) → Called g f (i, tt) y q → (y ≡ get_or s (at + i * stride) (pos 0)) × (q ≡ f)) → b ≡ lanes_at s at stride
unfolding lanes_at
lanes_made s at stride b made step =
    is_table (λ k. get_or s (at + k * stride) (pos 0)) 0 8 b made.long
    (λ k l. let z : 0 + k ≡ k = omega arith in rw z (rw z at (from_calls b (λ i. get_or s (at + i * stride) (pos 0)) step 0 8 made.each k l)))

pub lanes_length : (s : List ℤ) (at stride : ℕ) → length (lanes_at s at stride) ≡ 8
unfolding lanes_at
lanes_length s at stride = table_length (λ k. get_or s (at + k * stride) (pos 0)) 0 8

pub lanes_at_lem : (s : List ℤ) (at stride k : ℕ) → k < 8 → get_or (lanes_at s at stride) k (pos 0) ≡ get_or s (at + k * stride) (pos 0)
unfolding lanes_at
lanes_at_lem s at stride k h =
    let z : 0 + k ≡ k = omega arith in
    table_at (λ i. get_or s (at + i * stride) (pos 0)) 0 8 k h ∙ rw z

-- ---- put in
module _ (s : List ℤ) (at stride : ℕ) (b : List ℤ) where
  pub some_length : (n : ℕ) → length (with_some s at stride b n) ≡ length s
  some_length zero = refl
  some_length (suc n) = length-set (with_some s at stride b n) (at + n * stride) (get_or b n (pos 0)) ∙ some_length n

  -- off the lanes nothing changes
  pub some_off : (n q : ℕ) → ((k : ℕ) → k < n → q ≡ at + k * stride → ⊥) → get_or (with_some s at stride b n) q (pos 0) ≡ get_or s q (pos 0)
  some_off zero q h = refl
  some_off (suc n) q h =
      get_or-set_other (with_some s at stride b n) (at + n * stride) q (get_or b n (pos 0)) (pos 0) (h n (omega arith))
      ∙ some_off n q (λ k l. h k (omega arith))

  -- on lane k stands b's sample k
  pub some_on : (n k : ℕ) → 0 < stride → at + 7 * stride < length s → n ≤ 8 → k < n
      → get_or (with_some s at stride b n) (at + k * stride) (pos 0) ≡ get_or b k (pos 0)
  some_on zero k p r n8 h = absurd (omega arith)
  some_on (suc n) k p r n8 h = by_last (last_or_before n k h) (λ l. some_on n k p r (omega arith) l)
    where
      last_or_before : (n k : ℕ) → k < suc n → (k ≡ n) ⊎ (k < n)
      last_or_before n k h = by_order (lt_or_ge k n)
        where
          by_order : (k < n) ⊎ (n ≤ k) → (k ≡ n) ⊎ (k < n)
          by_order (inl l) = inr l
          by_order (inr g) = inl (omega arith)

      by_last : (k ≡ n) ⊎ (k < n) → (k < n → get_or (with_some s at stride b n) (at + k * stride) (pos 0) ≡ get_or b k (pos 0))
          → get_or (with_some s at stride b (suc n)) (at + k * stride) (pos 0) ≡ get_or b k (pos 0)
      by_last (inl e) rest =
          let l = some_length n in
          let r' : at + n * stride < length (with_some s at stride b n) = rw l (lane_room at stride n (length s) (omega arith) r) in
          rw e (get_or-set_same (with_some s at stride b n) (at + n * stride) (get_or b n (pos 0)) (pos 0) r')
      by_last (inr l) rest =
          let m : suc k * stride ≤ n * stride = mul-le-mul_right stride l in
          get_or-set_other (with_some s at stride b n) (at + n * stride) (at + k * stride) (get_or b n (pos 0)) (pos 0) (λ q. omega arith)
          ∙ rest l

  pub lanes_put_length : length (with_lanes s at stride b) ≡ length s
  unfolding with_lanes
  lanes_put_length = some_length 8

  pub lanes_put_off : (q : ℕ) → ((k : ℕ) → k < 8 → q ≡ at + k * stride → ⊥) → get_or (with_lanes s at stride b) q (pos 0) ≡ get_or s q (pos 0)
  unfolding with_lanes
  lanes_put_off q h = some_off 8 q h

  pub lanes_put_on : (k : ℕ) → 0 < stride → at + 7 * stride < length s → k < 8
      → get_or (with_lanes s at stride b) (at + k * stride) (pos 0) ≡ get_or b k (pos 0)
  unfolding with_lanes
  lanes_put_on k p r h = some_on 8 k p r (omega arith) h
