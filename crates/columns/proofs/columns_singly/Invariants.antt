-- `columns_singly` meets its contract: each turn adds a column (proofs/TwoRows.antt). Assumes nothing.
use Prim.Native.Nat.{◌-◌}
use Rattle.columns.specs.Rows.{Columns}
use Rattle.columns.proofs.columns_singly.Given as goal

abbrev pub invariant-loop-x : goal.invariant-loop-x
invariant-loop-x l = Columns l.avg l.res l.next l.initial.out l.out l.from l.to l.start l.x

abbrev pub decreases-loop-x : goal.decreases-loop-x
decreases-loop-x l = l.w - l.x
