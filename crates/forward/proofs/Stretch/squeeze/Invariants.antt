-- `squeeze` of a stretch meets its contract. The loop's invariant: the entries up to x are filled, and what was read for them are samples. Assumes
-- nothing.
use Prim.Native.Nat.{◌-◌, ◌≤◌}
use Rattle.forward.specs.Rows.{average_over, residual_over, Read}
use Rattle.forward.specs.Rows.{Filled}
use Rattle.forward.proofs.Stretch.squeeze.Given as goal

abbrev pub invariant-loop-x : goal.invariant-loop-x
invariant-loop-x g l = record {
  in_range : l.x ≤ l.self.count;
  made : Filled (average_over l.self.first.now l.self.second.now g.row.STEP) l.x l.averages;
  left : Filled (residual_over (g.B.Before.value l.before) l.self.first.now l.self.second.now l.self.third.now l.self.fourth.now g.row.STEP) l.x l.residuals;
  read : Read l.x g.row.STEP l.self.third.now;
}

abbrev pub decreases-loop-x : goal.decreases-loop-x
decreases-loop-x g l = l.self.count - l.x
