-- `some_outside` meets its contract: the bits so far are at least 2^29 exactly if some sample so far lies outside. Assumes nothing.
use Rattle.std.proofs.Common.{rules}
use lib.IntN.{pos}
use lib.ListN.{get_or}
use Rattle.arith32.proofs.Whole.{back32}
use Rattle.range.proofs.Bits.{one_more}
use Rattle.range.proofs.some_outside.Goals as goal

pub loop-x-preserved : goal.loop-x-preserved
loop-x-preserved c =
    let x = back32 (get_or c.args.xs.now c.loop-x.x-index (pos 0)) (search rules) in
    rw (c.from_lowest-bits.ensures, x)
    (one_more c.args.xs.now c.loop-x.x-index c.loop-x.bits c.loop-x-test.true (search rules) c.loop-x.invariant)
