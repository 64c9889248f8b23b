-- `store_four` meets its contract: eight turns, each lane's samples inside where the last lane's are (proofs/Strides.antt), and past the lanes that
-- are there (proofs/Fours.antt). Assumes nothing.
use mathlib.Core.Path.{◌≡◌}
use Prim.Native.Nat.{◌-◌, ◌≤◌}
use lib.ListN.{length}
use Rattle.eight_rows.proofs.Fours.{fours}
use Rattle.eight_rows.proofs.lanes.store_four.Given as goal

abbrev pub invariant-loop-k : goal.invariant-loop-k
invariant-loop-k l = (l.s ≡ fours l.initial.s l.at l.stride l.a l.b l.c l.d l.k) × (length l.s ≡ length l.initial.s) × (l.k ≤ 8)

abbrev pub decreases-loop-k : goal.decreases-loop-k
decreases-loop-k l = 8 - l.k
