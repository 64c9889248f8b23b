-- `store_block` meets its contract: eight turns of a copy where the slice is long enough (proofs/Copies.antt). Assumes nothing.
use mathlib.Core.Path.{◌≡◌}
use Prim.Native.Nat.{◌+◌, ◌-◌, ◌≤◌}
use lib.ListN.{length}
use lib.Seq.{paste}
use Rattle.probe.proofs.store_block.Given as goal

abbrev pub invariant-loop-i : goal.invariant-loop-i
invariant-loop-i l =
    (l.s ≡ paste l.initial.s l.at l.b l.i) × (length l.s ≡ length l.initial.s) × (length l.b ≡ 8) × (l.i ≤ 8) × (l.at + 8 ≤ length l.initial.s)

abbrev pub decreases-loop-i : goal.decreases-loop-i
decreases-loop-i l = 8 - l.i
