-- `count`: as many cases are right as were read, at most, and what tells them may be called again. Assumes nothing.
use Rattle.std.proofs.Common.{◌≤◌}
use Rattle.replay.proofs.count.Given as goal

abbrev pub invariant-loop : goal.invariant-loop
invariant-loop g l = (l.right ≤ l.counter) × goal.F-IsAlwaysCallable g l.agrees
