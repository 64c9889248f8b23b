-- `squeeze_along` meets its contract. The loop's invariant: the averages and residuals of the lines up to y are filled, and the mark is that of
-- these residuals and of the samples that they are made of. Assumes nothing.
use mathlib.Core.Path.{◌≡◌}
use mathlib.Core.Bool.{true, ◌||◌, ◌&&◌}
use Prim.Native.Nat.{◌-◌, ◌*◌, ◌≤◌}
use lib.ListN.{take}
use Rattle.range.specs.Range.{some_outside}
use Rattle.forward.specs.Rows.{average_entry, residual_entry}
use Rattle.forward.specs.Rows.{Filled}
use Rattle.forward.proofs.Rows.squeeze_along.Given as goal

abbrev pub invariant-loop-y : goal.invariant-loop-y
invariant-loop-y g l = record {
  in_range : l.y ≤ l.self.count;
  made : Filled (average_entry true l.self.count l.self.width l.self.samples.now) (l.y * l.count) l.averages;
  left : Filled (residual_entry true l.self.count l.self.width l.self.samples.now) (l.y * l.rest) l.residuals;
  told :
      l.outside
      ≡ (g.M.Marking.marks && (some_outside (take (l.y * l.rest) l.residuals) || some_outside (take (l.y * l.self.width) l.self.samples.now)));
}

abbrev pub decreases-loop-y : goal.decreases-loop-y
decreases-loop-y g l = l.self.count - l.y
