-- `columns_by_eight` meets its contract: each turn adds eight columns (proofs/TwoRows.antt). Assumes nothing.
use Prim.Native.Nat.{◌-◌, ◌*◌}
use Rattle.columns.specs.Rows.{Columns}
use Rattle.columns.proofs.columns_by_eight.Given as goal

abbrev pub invariant-loop-k : goal.invariant-loop-k
invariant-loop-k l = Columns l.avg l.res l.next l.initial.out l.out l.from l.to 0 (8 * l.k)

abbrev pub decreases-loop-k : goal.decreases-loop-k
decreases-loop-k l = l.k-end - l.k
