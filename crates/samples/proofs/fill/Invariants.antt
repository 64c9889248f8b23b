-- `fill` meets its contract: the first i marks are in place. Assumes nothing.
use Rattle.samples.specs.Rooms.{Holds, mark}
use Rattle.samples.proofs.fill.Given as goal

abbrev pub invariant-loop-i : goal.invariant-loop-i
invariant-loop-i l = Holds mark l.s 0 l.i
