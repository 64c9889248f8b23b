-- `kept` meets its contract. The loop's invariant: the marks up to i are there. Assumes nothing.
use Prim.Native.Nat.{◌≤◌}
use lib.ListN.{length}
use Rattle.samples.specs.Rooms.{Holds, mark}
use Rattle.samples.proofs.kept.Given as goal

abbrev pub invariant-loop-i : goal.invariant-loop-i
invariant-loop-i l = (l.to ≤ length l.s) × (l.from ≤ l.i) × Holds mark l.s l.from l.i
