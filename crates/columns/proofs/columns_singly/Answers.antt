-- `columns_singly` meets its contract: each turn adds a column (proofs/TwoRows.antt). Assumes nothing.
use mathlib.Core.Path.{◌≡◌, ◌∙◌}
use native.Mathlib.Omega.{arith}
use borrow.Author.Rules.{rules}
use Prim.Native.Nat.{◌+◌}
use lib.IntN.{pos}
use lib.ListN.{length, get_or}
use Rattle.arith32.proofs.Whole.{back32}
use Rattle.columns.proofs.TwoRows.{columns_one, columns_join}
use Rattle.columns.proofs.columns_singly.Goals as goal

pub loop-x-preserved : goal.loop-x-preserved
loop-x-preserved c =
    let a = c.args in
    let x = c.loop-x.x in
    let s = c.loop-x.out in
    let p = c.requires.3 in
    let i = p.inside in
    let l = c.loop-x.invariant.long in
    let pair = c.unsqueeze-first in
    let b1 = back32 (get_or a.avg.now x (pos 0)) (search rules) in
    let b2 = back32 (get_or a.res.now x (pos 0)) (search rules) in
    let b3 = back32 (get_or a.next.now x (pos 0)) (search rules) in
    let b4 = back32 (get_or s (a.from + x) (pos 0)) (search rules) in
    let e1 = back32 pair.result.first (search rules) ∙ rw (b1, b2, b3, b4) at pair.ensures.0 in
    let e2 = back32 pair.result.second (search rules) ∙ rw (b1, b2, b3, b4) at pair.ensures.1 in
    columns_join p c.loop-x.auto.x (omega arith) (omega arith) c.loop-x.invariant (columns_one s x _ _ c.loop-x-test.true (omega arith) e1 e2)

pub returns : goal.returns
returns c =
    let e : c.loop-x.x ≡ length c.args.avg.now = omega (arith, c.loop-x.auto.x-end c.requires.0) in
    rw e at c.loop-x.invariant
