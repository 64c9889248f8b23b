-- `kind`: no more cases are right than were read. Assumes nothing.
use Rattle.std.proofs.Common.{◌≤◌}
use Rattle.record_test.proofs.kind.Given as goal

abbrev pub invariant-loop : goal.invariant-loop
invariant-loop g l = l.right ≤ l.counter
