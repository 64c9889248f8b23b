-- A call whose sizes and slices fit is accepted, in either direction, and makes the squeeze of its arguments. Assumes nothing.
use mathlib.Core.Path.{◌≡◌, refl, sym, ◌∙◌}
use mathlib.Core.Bool.{Bool, true, false, ◌&&◌, ◌||◌}
use mathlib.Core.List.{List}
use mathlib.Core.Logic.{◌⊎◌, inl, inr}
use Prim.Native.Nat.{ℕ, ◌+◌, ◌*◌, ◌<◌, ◌≤◌}
use native.Mathlib.Omega.{arith}
use native.Mathlib.Nat.{mul-le-mul_left, mul_comm}
use borrow.Author.Tests.{le-leb, eq-eqb}
use lib.Dec.{eqb}
use lib.IntN.{ℤ}
use lib.ListN.{length}
use Rattle.numbers.specs.Numbers.{max_side, max_samples}
use Rattle.line.specs.Uncut.{squeeze, uncut}
use Rattle.line.specs.Marks.{squeeze_marked}
use Rattle.tile.specs.Call.{Call, sides, area, area_allowed, areas_allowed, sides_small, sides_fit, line_fits, sizes_fit, slices_fit, answer, squeeze_of, after, call_mark}
use Rattle.tile.specs.Call as Spec
use Rattle.line.proofs.Into.{is_outer}
use Rattle.line.proofs.Lines.{lt_or_ge}
use Rattle.tile.proofs.Fitted.{same_test}

both : {a b : Bool} → a ≡ true → b ≡ true → a && b ≡ true
both ea eb = rw (ea, eb)

right : (a : Bool) {b : Bool} → b ≡ true → a || b ≡ true
right true e = refl
right false e = e

left : {a : Bool} (b : Bool) → a ≡ true → a || b ≡ true
left b e = rw e

-- a call on lines of a averages and r residuals
abbrev pub call_of : Bool → ℕ → ℕ → ℕ → List ℤ → List ℤ → List ℤ → List ℤ → List ℤ → Call
call_of h lines a r avg res next prev out =
    record {
      horizontal = h;
      avg_sides = sides h lines a;
      res_sides = sides h lines r;
      out_sides = sides h lines (a + r);
      avg = avg;
      res = res;
      next = next;
      prev = prev;
      out = out;
    }

pub squeeze_of_call : (h : Bool) (lines a r : ℕ) (avg res next prev out : List ℤ)
    → squeeze_of (call_of h lines a r avg res next prev out) ≡ squeeze h lines a r avg res next prev
unfolding squeeze_of
squeeze_of_call true lines a r avg res next prev out = refl
squeeze_of_call false lines a r avg res next prev out = refl

line_fits_lem : (crossing : ℕ) (xs : List ℤ) → (length xs ≡ 0) ⊎ (length xs ≡ crossing) → line_fits crossing xs ≡ true
line_fits_lem crossing xs h = sym (same_test crossing xs) ∙ is_outer crossing xs h

-- so many lines of so many samples: the area, whichever side is the width
area_of : (h : Bool) (lines n : ℕ) → area (sides h lines n) ≡ lines * n
area_of true lines n = mul_comm n lines
area_of false lines n = refl

area_allowed_lem : (h : Bool) (lines n : ℕ) → lines * n ≤ max_samples → area_allowed (sides h lines n) ≡ true
unfolding area_allowed
area_allowed_lem h lines n l = rw (area_of h lines n) (le-leb (lines * n) max_samples l)

sides_small_lem : (h : Bool) (lines n : ℕ) → lines ≤ max_side → n ≤ max_side → sides_small (sides h lines n) ≡ true
unfolding sides_small
sides_small_lem true lines n l k = both (le-leb n max_side k) (le-leb lines max_side l)
sides_small_lem false lines n l k = both (le-leb lines max_side l) (le-leb n max_side k)

le_or_gt : (a r : ℕ) → (a ≤ r) ⊎ (r < a)
le_or_gt a r = swap (lt_or_ge r a)
  where
    swap : (r < a) ⊎ (a ≤ r) → (a ≤ r) ⊎ (r < a)
    swap (inl l) = inr l
    swap (inr l) = inl l

-- a is r or r + 1
one_or_none : (a r : ℕ) → (a ≤ r) ⊎ (r < a) → r ≤ a → a ≤ r + 1 → eqb a r || eqb a (r + 1) ≡ true
one_or_none a r (inl l) low high = left (eqb a (r + 1)) (eq-eqb a r (omega arith))
one_or_none a r (inr l) low high = right (eqb a r) (eq-eqb a (r + 1) (omega arith))

-- what question 12 asks of the sides, once the direction is known
sums : (lines a r : ℕ) → r ≤ a → a ≤ r + 1 → (eqb a r || eqb a (r + 1)) && (eqb (a + r) (a + r) && (eqb lines lines && eqb lines lines)) ≡ true
sums lines a r low high =
    let e = eq-eqb lines lines refl in
    both (one_or_none a r (le_or_gt a r) low high) (both (eq-eqb (a + r) (a + r) refl) (both e e))

sides_fit_lem : (h : Bool) (lines a r : ℕ) → r ≤ a → a ≤ r + 1 → lines ≤ max_side → a + r ≤ max_side
    → sides_fit h (sides h lines a) (sides h lines r) (sides h lines (a + r)) ≡ true
unfolding sides_fit
sides_fit_lem true lines a r low high across along =
    both
    (both (sides_small_lem true lines a across (omega arith)) (both (sides_small_lem true lines r across (omega arith)) (sides_small_lem true lines (a + r) across along)))
    (sums lines a r low high)
sides_fit_lem false lines a r low high across along =
    both
    (both (sides_small_lem false lines a across (omega arith)) (both (sides_small_lem false lines r across (omega arith)) (sides_small_lem false lines (a + r) across along)))
    (sums lines a r low high)

crossing_of : (h : Bool) (lines a : ℕ) → Spec.across h (sides h lines a) ≡ lines
crossing_of true lines a = refl
crossing_of false lines a = refl

-- sizes and slices that fit
pub record Arguments (lines a r : ℕ) (avg res next prev out : List ℤ) : Type 0 where
  pub low : r ≤ a
  pub high : a ≤ r + 1
  pub across : lines ≤ max_side
  pub along : a + r ≤ max_side
  pub room : lines * (a + r) ≤ max_samples
  pub avg_length : length avg ≡ lines * a
  pub res_length : length res ≡ lines * r
  pub out_length : length out ≡ lines * (a + r)
  pub next_length : (length next ≡ 0) ⊎ (length next ≡ lines)
  pub prev_length : (length prev ≡ 0) ⊎ (length prev ≡ lines)

module _ (h : Bool) (lines a r : ℕ) (avg res next prev out : List ℤ) (f : Arguments lines a r avg res next prev out) where
  areas : areas_allowed (call_of h lines a r avg res next prev out) ≡ true
  unfolding areas_allowed
  areas =
      let m : lines * a ≤ lines * (a + r) = mul-le-mul_left lines (omega arith) in
      let n : lines * r ≤ lines * (a + r) = mul-le-mul_left lines (omega arith) in
      both (area_allowed_lem h lines a (omega (arith, f.room)))
      (both (area_allowed_lem h lines r (omega (arith, f.room))) (area_allowed_lem h lines (a + r) f.room))

  sizes : sizes_fit (call_of h lines a r avg res next prev out) ≡ true
  unfolding sizes_fit
  sizes =
      both (sides_fit_lem h lines a r f.low f.high f.across f.along)
      (rw (crossing_of h lines a) (both (line_fits_lem lines next f.next_length) (line_fits_lem lines prev f.prev_length)))

  slices : slices_fit (call_of h lines a r avg res next prev out) ≡ true
  unfolding slices_fit
  slices =
      both (eq-eqb (length avg) (area (sides h lines a)) (f.avg_length ∙ sym (area_of h lines a)))
      (both (eq-eqb (length res) (area (sides h lines r)) (f.res_length ∙ sym (area_of h lines r)))
      (eq-eqb (length out) (area (sides h lines (a + r))) (f.out_length ∙ sym (area_of h lines (a + r)))))

  pub accepted : answer (call_of h lines a r avg res next prev out) ≡ 0
  unfolding answer
  accepted = rw (areas, sizes, slices)

  pub accepted_after : after (call_of h lines a r avg res next prev out) ≡ uncut (squeeze h lines a r avg res next prev)
  unfolding after
  accepted_after =
      rw (eq-eqb (answer (call_of h lines a r avg res next prev out)) 0 accepted, squeeze_of_call h lines a r avg res next prev out)

  pub accepted_mark : call_mark (call_of h lines a r avg res next prev out) ≡ squeeze_marked (squeeze h lines a r avg res next prev)
  unfolding call_mark
  accepted_mark =
      rw (eq-eqb (answer (call_of h lines a r avg res next prev out)) 0 accepted, squeeze_of_call h lines a r avg res next prev out)
