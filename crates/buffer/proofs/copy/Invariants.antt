-- `copy` meets its contract: after i turns the front of `to` is overwritten by the first i samples (proofs/Overwritten.antt). Assumes nothing.
use mathlib.Core.Path.{◌≡◌}
use Prim.Native.Nat.{◌-◌, ◌≤◌}
use lib.ListN.{length}
use Rattle.buffer.specs.Buffer.{both}
use Rattle.buffer.proofs.Overwritten.{overwritten}
use Rattle.buffer.proofs.copy.Given as goal

abbrev pub invariant-loop-i : goal.invariant-loop-i
invariant-loop-i l = (l.to ≡ overwritten l.from l.i l.initial.to) × (length l.to ≡ length l.initial.to) × (l.i ≤ both l.from l.initial.to)

abbrev pub decreases-loop-i : goal.decreases-loop-i
decreases-loop-i l = l.n - l.i
