-- `read_samples` meets its contract: each element that was read is a sample. Assumes nothing.
use Prim.Native.Nat.{ℕ, ◌<◌}
use lib.IntN.{pos}
use lib.ListN.{get_or}
use Rattle.arith32.specs.Arith.{Sample}
use Rattle.range.proofs.read_samples.Given as goal

abbrev pub invariant-loop-x : goal.invariant-loop-x
invariant-loop-x l = (i : ℕ) → i < l.x-index → Sample (get_or l.xs i (pos 0))
