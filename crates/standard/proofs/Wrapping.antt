-- Document 01's tendency along each course: the size on a fall, minus the size on a rise, else 0. The differences lie below 2^29, so that no
-- sum leaves 32 bits, and (2 + r + p / 3) / 4 is the standard's (3r + p + 6) / 12. Assumes nothing.
use mathlib.Core.Path.{◌≡◌, refl, ap}
use mathlib.Core.Bool.{true, false, and-false}
use Prim.Native.Nat.{ℕ, zero, suc, ◌+◌, ◌*◌, ◌/◌, ◌%◌, ◌^◌, ◌<◌}
use native.Mathlib.Omega.{arith}
use borrow.Author.Tests.{lt-ltb}
use lib.Dec.{ltb}
use lib.IntN.{ℤ, pos, +ℤ_idl}
use lib.Signed.{lt_z}
use Rattle.arith32.specs.Arith as Arith
use Rattle.arith32.specs.Arith.{modulus, wrap, ◌⊕◌, ◌⊖◌}
use Rattle.arith32.proofs.Whole.{above, below, is_less, is_not_less}
use Rattle.arith32.proofs.Thirds.{third_whole}
use Rattle.tendency.specs.Tendency as Ours
use Rattle.standard.proofs.Range.{kept}
use Rattle.standard.proofs.Course.{Over, minus, minus_law, fall, rise, slope_size, size_before, size_after, size, clamp_of, before_low, slope_small, size_small}

natural_kept : (n : ℕ) → n < 2 ^ 31 → wrap (pos n) ≡ pos n
unfolding above below
natural_kept n h = kept (pos n) (omega arith)

minus_kept : (n : ℕ) → n < 2 ^ 31 → wrap (minus n) ≡ minus n
minus_kept n h = kept (minus n) (omega (arith, minus_law n))

-- ---- the size
wrapping_slope : (p q : ℕ) → p < 2 ^ 29 → q < 2 ^ 29 → Ours.slope (pos p) (pos (p + q)) ≡ pos (slope_size p q)
unfolding Ours.slope slope_size
wrapping_slope p q h k =
    let e : (2 + (p + q) + p / 3) / 4 ≡ (p * 4 + q * 3 + 6) / 12 = omega arith in
    rw (third_whole p (omega arith), natural_kept (2 + (p + q)) (omega arith), natural_kept (2 + (p + q) + p / 3) (omega arith))
    (ap pos e)

natural_bit : (v : ℕ) → v < 2 ^ 29 → Arith.lowest_bit (pos v) ≡ pos (v % 2)
unfolding Arith.lowest_bit Arith.residue
natural_bit v h = let e : v % modulus % 2 ≡ v % 2 = omega arith in ap pos e

doubled : (n : ℕ) → n < 2 ^ 29 → pos n ⊕ pos n ≡ pos (n * 2)
doubled n h = let e : n + n ≡ n * 2 = omega arith in rw e (natural_kept (n * 2) (omega arith))

wrapping_before : (p v : ℕ) → p < 2 ^ 29 → v < 2 ^ 29 → Ours.clamp_before (pos p) (pos v) ≡ pos (size_before p v)
unfolding Ours.clamp_before size_before
wrapping_before p v h k =
    rw (doubled p h, natural_bit v k, natural_kept (p * 2 + v % 2) (omega arith), natural_kept (p * 2 + 1) (omega arith))
    (clamp_of pos (ltb (p * 2 + v % 2) v) (p * 2 + 1) v)

wrapping_after : (q v : ℕ) → q < 2 ^ 29 → v < 2 ^ 29 → Ours.clamp_after (pos q) (pos v) ≡ pos (size_after q v)
unfolding Ours.clamp_after size_after
wrapping_after q v h k =
    rw (doubled q h, natural_bit v k, natural_kept (v + v % 2) (omega arith))
    (clamp_of pos (ltb (q * 2) (v + v % 2)) (q * 2) v)

wrapping_size : (p q : ℕ) → p < 2 ^ 29 → q < 2 ^ 29
    → Ours.clamp_after (pos q) (Ours.clamp_before (pos p) (Ours.slope (pos p) (pos (p + q)))) ≡ pos (size p q)
unfolding size
wrapping_size p q h k =
    let s = slope_small p q h k in
    let b = before_low p (slope_size p q) in
    rw (wrapping_slope p q h k, wrapping_before p (slope_size p q) h s, wrapping_after q (size_before p (slope_size p q)) k (omega arith))

-- ---- the signs
not_negative : (n : ℕ) → lt_z (pos n) (pos 0) ≡ false
unfolding above below
not_negative n = is_not_less (pos n) (pos 0) (omega arith)

not_positive : (n : ℕ) → lt_z (pos 0) (minus n) ≡ false
unfolding above below
not_positive n = is_not_less (pos 0) (minus n) (omega (arith, minus_law n))

is_negative : (n : ℕ) → 0 < n → lt_z (minus n) (pos 0) ≡ true
unfolding above below
is_negative n h = is_less (minus n) (pos 0) (omega (arith, minus_law n))

absolute : (n : ℕ) → Arith.wrapped_abs (pos n) ≡ pos n
unfolding Arith.wrapped_abs
absolute n = rw (not_negative n)

absolute_minus : (n : ℕ) → n < 2 ^ 31 → Arith.wrapped_abs (minus n) ≡ pos n
unfolding Arith.wrapped_abs
absolute_minus zero h = refl
absolute_minus (suc n) h = rw (+ℤ_idl (pos (suc n))) (natural_kept (suc n) h)

monotone_falls : (p q : ℕ) → p < 2 ^ 29 → q < 2 ^ 29 → Ours.monotone (pos p) (pos q) (pos (p + q)) ≡ pos (size p q)
unfolding Ours.monotone Ours.negated_if
monotone_falls p q h k = rw (absolute p, absolute q, absolute (p + q), wrapping_size p q h k, not_negative (p + q))

monotone_rises : (p q : ℕ) → p < 2 ^ 29 → q < 2 ^ 29 → 0 < p + q
    → Ours.monotone (minus p) (minus q) (minus (p + q)) ≡ minus (size p q)
unfolding Ours.monotone Ours.negated_if
monotone_rises p q h k l =
    rw (
      absolute_minus p (omega arith),
      absolute_minus q (omega arith),
      absolute_minus (p + q) (omega arith),
      wrapping_size p q h k,
      is_negative (p + q) l,
      +ℤ_idl (minus (size p q)),
    )
    (minus_kept (size p q) (omega (arith, size_small p q h k)))

-- ---- the tendency, course by course
wrapping_fall : (a b : ℤ) (n : ℕ) → n < 2 ^ 31 → Over a b n → a ⊖ b ≡ pos n
wrapping_fall a b n l h = rw (fall a b n h) (natural_kept n l)

wrapping_rise : (a b : ℤ) (n : ℕ) → n < 2 ^ 31 → Over b a n → a ⊖ b ≡ minus n
wrapping_rise a b n l h = rw (rise a b n h) (minus_kept n l)

module _ (a b c : ℤ) where
  pub wrapping_falls : (p q : ℕ) → p < 2 ^ 29 → q < 2 ^ 29 → Over a b p → Over b c q → Ours.tendency a b c ≡ pos (size p q)
  unfolding Ours.tendency Ours.opposite
  wrapping_falls p q hp hq h k =
      rw (
        wrapping_fall a b p (omega arith) h,
        wrapping_fall b c q (omega arith) k,
        wrapping_fall a c (p + q) (omega arith) (omega arith),
        not_negative p,
        not_negative q,
        and-false (lt_z (pos 0) (pos p)),
      )
      (monotone_falls p q hp hq)

  pub wrapping_rises : (p q : ℕ) → p < 2 ^ 29 → q < 2 ^ 29 → Over b a p → Over c b q → 0 < p + q → Ours.tendency a b c ≡ minus (size p q)
  unfolding Ours.tendency Ours.opposite
  wrapping_rises p q hp hq h k l =
      rw (
        wrapping_rise a b p (omega arith) h,
        wrapping_rise b c q (omega arith) k,
        wrapping_rise a c (p + q) (omega arith) (omega arith),
        not_positive p,
        not_positive q,
        and-false (lt_z (minus p) (pos 0)),
      )
      (monotone_rises p q hp hq l)

  pub wrapping_peaks : (p q : ℕ) → suc p < 2 ^ 29 → suc q < 2 ^ 29 → Over b a (suc p) → Over b c (suc q) → Ours.tendency a b c ≡ pos 0
  unfolding Ours.tendency Ours.opposite
  wrapping_peaks p q hp hq h k =
      rw (wrapping_rise a b (suc p) (omega arith) h, wrapping_fall b c (suc q) (omega arith) k, lt-ltb 0 (suc q) (omega arith))

  pub wrapping_dips : (p q : ℕ) → suc p < 2 ^ 29 → suc q < 2 ^ 29 → Over a b (suc p) → Over c b (suc q) → Ours.tendency a b c ≡ pos 0
  unfolding Ours.tendency Ours.opposite
  wrapping_dips p q hp hq h k =
      rw (
        wrapping_fall a b (suc p) (omega arith) h,
        wrapping_rise b c (suc q) (omega arith) k,
        not_negative (suc p),
        lt-ltb 0 (suc p) (omega arith),
      )
