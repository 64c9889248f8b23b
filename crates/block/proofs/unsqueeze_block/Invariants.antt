-- `unsqueeze_block` meets its contract. The loop's invariant: both blocks, which begin as copies of avg and prev, are filled up to lane i
-- (proofs/Lanes.antt). The measure is the lanes that are left. Assumes nothing.
use Prim.Native.Nat.{◌-◌, ◌≤◌}
use Rattle.pair.specs.Pair.{first, second}
use Rattle.block.proofs.Lanes.{Filled}
use Rattle.block.proofs.unsqueeze_block.Given as goal

abbrev pub invariant-loop-i : goal.invariant-loop-i
invariant-loop-i l =
    Filled first l.fn.avg l.res l.next l.fn.prev l.fn.avg 8 l.firsts l.i × Filled second l.fn.avg l.res l.next l.fn.prev l.fn.prev 8 l.seconds l.i × (l.i ≤ 8)

abbrev pub decreases-loop-i : goal.decreases-loop-i
decreases-loop-i l = 8 - l.i
