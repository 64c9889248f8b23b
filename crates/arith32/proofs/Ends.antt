-- The arithmetic at the ends of the 32-bit range, by computation: half at -1, 0 and -2^31, the absolute value of -2^31, and a sum that wraps.
-- Assumes nothing.
use mathlib.Core.Path.{◌≡◌, refl}
use lib.IntN.{pos, negsuc}
use Rattle.arith32.specs.Arith.{residue, wrap, ◌⊕◌, wrapped_abs, half}

pub half_rows : (half (negsuc 0) ≡ pos 0) × (half (pos 0) ≡ pos 0) × (half (negsuc 2147483647) ≡ negsuc 1073741823)
half_rows = (refl, refl, refl)

pub least_stays : wrapped_abs (negsuc 2147483647) ≡ negsuc 2147483647
unfolding wrapped_abs wrap residue
least_stays = refl

pub sum_wraps : pos 2147483647 ⊕ pos 1 ≡ negsuc 2147483647
unfolding wrap residue
sum_wraps = refl
