-- `half` meets its contract: proofs/Halves.antt, at the machine's sign bit. Assumes nothing.
use mathlib.Core.Path.{refl}
use lib.IntN.{pos}
use lib.Signed.{lt_z}
use mir.Facts.{to_z-of_z}
use Rattle.arith32.proofs.Whole.{shift_fits}
use Rattle.arith32.proofs.Halves.{plus_bit, sum_sample, shifted_half}
use Rattle.arith32.proofs.half.Goals as goal

pub overflow_add-result : goal.overflow_add-result
overflow_add-result c = rw (to_z-of_z c.ranges.d) (sum_sample c.args.d (lt_z c.args.d (pos 0)) refl c.ranges.d)

pub returns : goal.returns
returns c =
    let d = c.args.d in
    let b = lt_z c.args.d (pos 0) in
    let s = sum_sample d b refl c.ranges.d in
    rw (to_z-of_z c.ranges.d, to_z-of_z s, to_z-of_z (shift_fits (plus_bit d b) 2 s)) (shifted_half d b refl)
