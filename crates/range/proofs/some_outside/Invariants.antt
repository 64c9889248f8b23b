-- `some_outside` meets its contract: the bits so far are at least 2^29 exactly if some sample so far lies outside. Assumes nothing.
use Rattle.std.proofs.Common.{◌≡◌, take}
use lib.Dec.{leb}
use Rattle.range.specs.Range.{some_outside}
use Rattle.range.proofs.some_outside.Given as goal

abbrev pub invariant-loop-x : goal.invariant-loop-x
invariant-loop-x l = leb 536870912 l.bits ≡ some_outside (take l.x-index l.fn.xs)
