-- The entries of a stretch in either direction, its slices beginning at neighbouring samples of a line: x steps on stand neighbouring samples again, and
-- samples stand for the pair after. What stands before a pair is a sample too, or the own average where the pair is the first. Assumes nothing.
use mathlib.Core.Path.{◌≡◌, sym, ◌∙◌}
use mathlib.Core.Bool.{Bool}
use mathlib.Core.List.{List}
use Prim.Native.Nat.{ℕ, ◌+◌, ◌-◌, ◌*◌, ◌<◌}
use native.Mathlib.Omega.{arith}
use lib.IntN.{ℤ, pos}
use lib.ListN.{get_or, drop}
use lib.Seq.{get_or-drop}
use Rattle.pair.specs.Pair as P
use Rattle.line.specs.Uncut.{place}
use Rattle.line.specs.Forward.{average_at, next_at, residual_at, line_in}
use Rattle.forward.specs.Rows.{sample_over, average_over, residual_over}
use Rattle.forward.proofs.Entries.{residual_pair, prev_first, prev_later}
use Rattle.forward.proofs.Stretches as Whole

pub sample_over_lem : (xs : List ℤ) (at step x j : ℕ) → at + x * step ≡ j → sample_over (drop at xs) step x ≡ get_or xs j (pos 0)
sample_over_lem xs at step x j e = get_or-drop at xs (x * step) (pos 0) ∙ rw e

-- pair i of line k
module _ (d : Bool) (lines size : ℕ) (xs : List ℤ) (k i step x : ℕ) where
  pub average_over_lem : (a b : ℕ) → a + x * step ≡ place d lines size k (i + i) → b + x * step ≡ place d lines size k (i + i + 1) → i + i + 1 < size
      → average_over (drop a xs) (drop b xs) step x ≡ average_at (line_in d lines size xs k) size i
  average_over_lem a b ea eb h =
      Whole.average_over_lem (line_in d lines size xs k) size i (drop a xs) (drop b xs) step x h (sample_over_lem xs a step x _ ea) (sample_over_lem xs b step x _ eb)

  -- with positions j and l of the samples that stand for the pair after it
  pub residual_over_lem : (o a b p q j l : ℕ) → o + x * step ≡ place d lines size k (i + i - 1) → a + x * step ≡ place d lines size k (i + i)
      → b + x * step ≡ place d lines size k (i + i + 1) → p + x * step ≡ place d lines size k j → q + x * step ≡ place d lines size k l
      → 0 < i → next_at (line_in d lines size xs k) size i ≡ P.average (line_in d lines size xs k j) (line_in d lines size xs k l)
      → residual_over (λ e average. get_or (drop o xs) e (pos 0)) (drop a xs) (drop b xs) (drop p xs) (drop q xs) step x
      ≡ residual_at (line_in d lines size xs k) size i
  unfolding residual_over P.residual
  residual_over_lem o a b p q j l eo ea eb ep eq h next =
      let line = line_in d lines size xs k in
      let prev = prev_later line size i (λ (z : i ≡ 0). omega arith) in
      let bo = sample_over_lem xs o step x _ eo in
      let ba = sample_over_lem xs a step x _ ea in
      let bb = sample_over_lem xs b step x _ eb in
      rw (bo, ba, bb, sample_over_lem xs p step x _ ep, sample_over_lem xs q step x _ eq) (sym (residual_pair line size i ∙ rw (next, prev)))

  -- where pair i is the first
  pub first_over_lem : (a b p q j l : ℕ) → a + x * step ≡ place d lines size k (i + i) → b + x * step ≡ place d lines size k (i + i + 1)
      → p + x * step ≡ place d lines size k j → q + x * step ≡ place d lines size k l
      → i ≡ 0 → i + i + 1 < size → next_at (line_in d lines size xs k) size i ≡ P.average (line_in d lines size xs k j) (line_in d lines size xs k l)
      → residual_over (λ e average. average) (drop a xs) (drop b xs) (drop p xs) (drop q xs) step x ≡ residual_at (line_in d lines size xs k) size i
  first_over_lem a b p q j l ea eb ep eq z h next =
      Whole.residual_over_lem (line_in d lines size xs k) size i (drop a xs) (drop b xs) step x h (sample_over_lem xs a step x _ ea) (sample_over_lem xs b step x _ eb)
      (λ e average. average) (drop p xs) (drop q xs) (rw (sample_over_lem xs p step x _ ep, sample_over_lem xs q step x _ eq) (sym next))
      (sym (prev_first (line_in d lines size xs k) size i z))
