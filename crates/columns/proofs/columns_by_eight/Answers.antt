-- `columns_by_eight` meets its contract: each turn adds eight columns (proofs/TwoRows.antt). Assumes nothing.
use mathlib.Core.Path.{◌≡◌}
use Prim.Native.Nat.{◌+◌, ◌*◌, ◌≤◌}
use native.Mathlib.Omega.{arith}
use lib.ListN.{length}
use Rattle.columns.proofs.TwoRows.{columns_eight, columns_join}
use Rattle.columns.proofs.columns_by_eight.Goals as goal

pub loop-k-preserved : goal.loop-k-preserved
loop-k-preserved c =
    let p = c.requires.2 in
    let x = 8 * c.loop-k.k in
    let l : x + 8 ≤ length c.args.avg.now = omega arith in
    let n : 8 * (c.loop-k.k + 1) ≡ x + 8 = omega arith in
    let made = rw (c.load.ensures, c.load-in-loop-k.ensures, c.load-in-loop-k-2.ensures, c.load-in-loop-k-3.ensures) at c.unsqueeze_block-pairs.ensures in
    let stored = rw (c.store.ensures, made) at c.store-in-loop-k.ensures in
    rw n
    (columns_join p (omega arith) (omega arith) l c.loop-k.invariant
    (columns_eight c.loop-k.out _ x l c.requires.0 c.requires.1 (rw c.loop-k.invariant.long p) stored))
