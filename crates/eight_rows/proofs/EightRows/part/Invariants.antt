-- `part` meets its contract: a row a turn (proofs/Taken.antt). Assumes nothing.
use Prim.Native.Nat.{◌-◌}
use Rattle.eight_rows.proofs.Taken.{Taken}
use Rattle.eight_rows.proofs.EightRows.part.Given as goal

abbrev pub invariant-loop-k : goal.invariant-loop-k
invariant-loop-k l = Taken l.self.squeezed.res.now l.at l.self.squeezed.residuals l.part l.k

abbrev pub decreases-loop-k : goal.decreases-loop-k
decreases-loop-k l = 8 - l.k
