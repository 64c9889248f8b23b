-- `lowest_bit` meets its contract: a sample's residue is its bits, and a mask by 1 is the remainder by 2. Assumes nothing.
use native.Mathlib.Nat.{lt_of_lt_of_le}
use lib.Bits.{and_mask, mask_lt}
use lib.Dec.{lit≤}
use mir.Syntax.{w32}
use mir.Val.{of_z}
use mir.Facts.{to_z_pos}
use Rattle.arith32.specs.Arith.{lowest_bit}
use Rattle.arith32.proofs.Residues.{residue_bits}
use Rattle.arith32.proofs.lowest_bit.Goals as goal

pub returns : goal.returns
unfolding lowest_bit
returns c =
    let v = c.args.v in
    rw (residue_bits v c.ranges.v, ← and_mask (of_z w32 v) 1)
    (to_z_pos w32 (lt_of_lt_of_le (mask_lt (of_z w32 v) 1) (lit≤ tt)))
