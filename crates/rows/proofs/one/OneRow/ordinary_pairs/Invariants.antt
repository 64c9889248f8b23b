-- `ordinary_pairs` meets its contract. The loop's invariant: the ordinary pairs up to i are made (`Ordinary` of the crate line). A turn adds one
-- (`row_ordinary` of proofs/Row.antt). The measure is the pairs that are left. Assumes nothing.
use mathlib.Core.Bool.{true}
use Prim.Native.Nat.{◌-◌, ◌≤◌}
use lib.ListN.{length}
use Rattle.line.specs.Pairs.{lines_of, Ordinary}
use Rattle.rows.proofs.one.OneRow.ordinary_pairs.Given as goal

abbrev pub invariant-loop-i : goal.invariant-loop-i
invariant-loop-i l =
    Ordinary (lines_of true 1 (length l.self.squeezed.avg.now) (length l.self.squeezed.res.now) l.self.squeezed.avg.now l.self.squeezed.res.now) (λ _. l.initial.before) (λ _. l.before) l.initial.out l.out 0 l.i × (l.i ≤ l.to)

abbrev pub decreases-loop-i : goal.decreases-loop-i
decreases-loop-i l = l.to - l.i
