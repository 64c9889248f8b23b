-- `pairs_across` meets its contract. The loop's invariant: the averages and residuals of the pairs up to y are filled, and the mark is that of
-- these residuals and of the samples that they are made of. Assumes nothing.
use mathlib.Core.Path.{◌≡◌}
use mathlib.Core.Bool.{false, ◌||◌, ◌&&◌}
use Prim.Native.Nat.{◌+◌, ◌-◌, ◌*◌, ◌≤◌}
use lib.ListN.{take}
use Rattle.range.specs.Range.{some_outside}
use Rattle.forward.specs.Rows.{average_entry, residual_entry}
use Rattle.forward.specs.Rows.{Filled}
use Rattle.forward.proofs.Rows.pairs_across.Given as goal

abbrev pub invariant-loop-y : goal.invariant-loop-y
invariant-loop-y g l = record {
  in_range : l.y ≤ l.n;
  made : Filled (average_entry false l.self.width l.self.count l.self.samples.now) (l.y * l.width) l.averages;
  left : Filled (residual_entry false l.self.width l.self.count l.self.samples.now) (l.y * l.width) l.residuals;
  told :
      l.outside
      ≡ (g.M.Marking.marks && (some_outside (take (l.y * l.width) l.residuals) || some_outside (take ((l.y + l.y) * l.width) l.self.samples.now)));
}

abbrev pub decreases-loop-y : goal.decreases-loop-y
decreases-loop-y g l = l.n - l.y
