-- The domain of demand 2 as bounds that `omega` reads, in the manner of arith32's Whole.antt, and as the test `outside` of crate range; and that
-- wrapping keeps what lies within 32 bits. Assumes nothing.
use mathlib.Core.Path.{◌≡◌}
use mathlib.Core.Bool.{false}
use Prim.Native.Nat.{ℕ, ◌+◌, ◌^◌, ◌<◌, ◌≤◌}
use native.Mathlib.Omega.{arith}
use lib.IntN.{ℤ, pos, negsuc}
use lib.Signed.{lt_z}
use Rattle.arith32.specs.Arith.{wrap}
use Rattle.arith32.proofs.Whole.{above, below, at_most, ordered, in_range32, not_less, is_not_less}
use Rattle.arith32.proofs.Residues.{wrap_id}
use Rattle.range.specs.Range.{lowest, highest, outside}
use Rattle.range.proofs.Some.{left_false, right_false, both_false}
use Rattle.standard.specs.Domain.{InDomain}

-- z lies less than n from zero
abbrev pub Within : ℕ → ℤ → Type 0
Within n z = (above z < below z + n) × (below z < above z + n)

pub kept : (z : ℤ) → Within (2 ^ 31) z → wrap z ≡ z
kept z h = wrap_id z (in_range32 z (omega arith) (omega arith))

pub domain_range : (z : ℤ) → InDomain z → (above z < below z + 2 ^ 28) × (below z ≤ above z + 2 ^ 28)
unfolding above below
domain_range z d = omega (arith, at_most (negsuc 268435455) z d.low, at_most z (pos 268435455) d.high)

pub in_domain : (z : ℤ) → above z < below z + 2 ^ 28 → below z ≤ above z + 2 ^ 28 → InDomain z
unfolding above below
in_domain z h l = record { low = ordered (negsuc 268435455) z (omega arith); high = ordered z (pos 268435455) (omega arith) }

-- the domain is what is not outside
pub inside_domain : (z : ℤ) → outside z ≡ false → InDomain z
unfolding outside above below
inside_domain z e =
    let l = not_less z lowest (left_false (lt_z z lowest) (lt_z highest z) e) in
    let h = not_less highest z (right_false (lt_z z lowest) (lt_z highest z) e) in
    record { low = ordered lowest z (omega arith); high = ordered z highest (omega arith) }

pub domain_inside : (z : ℤ) → InDomain z → outside z ≡ false
unfolding outside above below
domain_inside z d =
    let r = domain_range z d in
    both_false (lt_z z lowest) (lt_z highest z) (is_not_less z lowest (omega arith)) (is_not_less highest z (omega arith))
