-- `decode` meets its contract: the first i samples are in place. Assumes nothing.
use Rattle.samples.specs.Samples.{stored}
use Rattle.samples.specs.Rooms.{Holds}
use Rattle.samples.proofs.decode.Given as goal

abbrev pub invariant-loop-i : goal.invariant-loop-i
invariant-loop-i l = Holds (stored l.bytes) l.s 0 l.i
