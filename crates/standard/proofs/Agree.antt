-- On the domain of demand 2 document 01's tendency and pair are the standard's over whole numbers without a bound. Along each course both
-- tendencies are the same, below 2^29 in size, and what the pair makes of that stays within 32 bits. Assumes nothing.
use mathlib.Core.Path.{◌≡◌, sym, ◌∙◌}
use Prim.Native.Nat.{ℕ, ◌^◌, ◌<◌}
use native.Mathlib.Omega.{arith}
use lib.IntN.{ℤ, ◌-ℤ◌}
use Rattle.arith32.specs.Arith.{half}
use Rattle.arith32.proofs.Whole.{natural, sum_law, difference_law, quotient_law}
use Rattle.tendency.specs.Tendency as Ours
use Rattle.pair.specs.Pair as Pair
use Rattle.standard.specs.Standard as Std
use Rattle.standard.specs.Domain.{InDomain}
use Rattle.standard.proofs.Range.{Within, kept, domain_range}
use Rattle.standard.proofs.Course.{Over, Course, falls, rises, peaks, dips, course, minus_law, size, size_small}
use Rattle.standard.proofs.Unbounded.{standard_falls, standard_rises, standard_peaks, standard_dips}
use Rattle.standard.proofs.Wrapping.{wrapping_falls, wrapping_rises, wrapping_peaks, wrapping_dips}

-- two numbers of the domain lie less than 2^29 apart
apart : {a b : ℤ} {n : ℕ} → InDomain a → InDomain b → Over a b n → n < 2 ^ 29
apart {a} {b} ha hb h = omega (arith, domain_range a ha, domain_range b hb)

-- ---- the tendency
module _ (a b c : ℤ) (ha : InDomain a) (hb : InDomain b) (hc : InDomain c) where
  pub tendency_standard : Ours.tendency a b c ≡ Std.tendency a b c
  tendency_standard = along (course a b c)
    where
      along : Course a b c → Ours.tendency a b c ≡ Std.tendency a b c
      along (falls p q h k) = wrapping_falls a b c p q (apart ha hb h) (apart hb hc k) h k ∙ sym (standard_falls a b c p q h k)
      along (rises p q h k l) =
          wrapping_rises a b c p q (apart hb ha h) (apart hc hb k) h k l ∙ sym (standard_rises a b c p q h k l)
      along (peaks p q h k) = wrapping_peaks a b c p q (apart hb ha h) (apart hb hc k) h k ∙ sym (standard_peaks a b c p q h k)
      along (dips p q h k) = wrapping_dips a b c p q (apart ha hb h) (apart hc hb k) h k ∙ sym (standard_dips a b c p q h k)

  tendency_range : Within (2 ^ 29) (Std.tendency a b c)
  tendency_range = along (course a b c)
    where
      along : Course a b c → Within (2 ^ 29) (Std.tendency a b c)
      along (falls p q h k) =
          rw (standard_falls a b c p q h k) (omega (arith, natural (size p q), size_small p q (apart ha hb h) (apart hb hc k)))
      along (rises p q h k l) =
          rw (standard_rises a b c p q h k l) (omega (arith, minus_law (size p q), size_small p q (apart hb ha h) (apart hc hb k)))
      along (peaks p q h k) = rw (standard_peaks a b c p q h k) (omega (arith, natural 0))
      along (dips p q h k) = rw (standard_dips a b c p q h k) (omega (arith, natural 0))

-- ---- the pair
module _ (avg res next prev : ℤ) (ha : InDomain avg) (hr : InDomain res) (hn : InDomain next) (hp : InDomain prev) where
  difference_range : Within (2 ^ 30) (Std.difference avg res next prev)
  unfolding Std.difference
  difference_range =
      omega (arith, sum_law res (Std.tendency prev avg next), domain_range res hr, tendency_range prev avg next hp ha hn)

  first_range : Within (2 ^ 30) (Std.first avg res next prev)
  unfolding Std.first
  first_range =
      let d = Std.difference avg res next prev in
      omega (arith, sum_law avg (half d), quotient_law d 2, domain_range avg ha, difference_range)

  difference_standard : Pair.difference avg res next prev ≡ Std.difference avg res next prev
  unfolding Pair.difference Std.difference
  difference_standard =
      rw (tendency_standard prev avg next hp ha hn) (kept (Std.difference avg res next prev) (omega (arith, difference_range)))

  pub first_standard : Pair.first avg res next prev ≡ Std.first avg res next prev
  unfolding Pair.first Pair.first_of Std.first
  first_standard = rw difference_standard (kept (Std.first avg res next prev) (omega (arith, first_range)))

  pub second_standard : Pair.second avg res next prev ≡ Std.second avg res next prev
  unfolding Pair.first Pair.second Pair.second_of Std.second
  second_standard =
      let f = Std.first avg res next prev in
      let d = Std.difference avg res next prev in
      rw (first_standard, difference_standard) (kept (f -ℤ d) (omega (arith, difference_law f d, first_range, difference_range)))
