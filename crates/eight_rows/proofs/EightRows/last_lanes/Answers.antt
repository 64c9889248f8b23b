-- `last_lanes` meets its contract: the pair made with the next averages that were chosen is the last one (`block_pair` of proofs/Blocks.antt), and with the
-- tails after it, where there are any, the rows' end (`ended_pair`, `ended_tail` of the crate line). Assumes nothing.
use mathlib.Core.Path.{◌≡◌}
use Prim.Native.Nat.{◌+◌, ◌-◌}
use native.Mathlib.Omega.{arith}
use borrow.Author.Rules.{rules}
use lib.ListN.{length}
use Rattle.eight_rows.proofs.Blocks.{block_end, block_end_tail}
use Rattle.eight_rows.proofs.EightRows.last_lanes.Goals as goal

pub returns-then-n-m : goal.returns-then-n-m
returns-then-n-m c =
    let a = c.args in
    let rows = a.self.now in
    let s = rows.squeezed in
    let i = s.residuals - 1 in
    -- blocks of eight
    let next_eight : length c.last_next-following.result ≡ 8 = search rules in
    let prior_eight : length a.prior ≡ 8 = search rules in
    let e : i + i + 2 ≡ s.residuals + s.residuals = omega arith in
    rw (c.store_lanes-then-n-m.ensures, c.store_lanes-2.ensures, c.store_lanes.ensures)
    (block_end_tail s.averages s.residuals s.avg.now s.res.now s.next.now s.prev.now c.averages-own.result c.residuals.result c.last_next-following.result
    a.prior a.out.now _ _ i (omega arith) rows.low next_eight prior_eight c.averages-own.ensures c.residuals.ensures
    c.requires.2 c.last_next-following.ensures (rw c.unsqueeze_block-pairs.ensures) (rw c.unsqueeze_block-pairs.ensures)
    _ c.if-n-m.true c.averages.ensures)

pub returns-else-n-m : goal.returns-else-n-m
returns-else-n-m c =
    let a = c.args in
    let rows = a.self.now in
    let s = rows.squeezed in
    let i = s.residuals - 1 in
    -- blocks of eight
    let next_eight : length c.last_next-following.result ≡ 8 = search rules in
    let prior_eight : length a.prior ≡ 8 = search rules in
    rw (c.store_lanes-2.ensures, c.store_lanes.ensures)
    (block_end s.averages s.residuals s.avg.now s.res.now s.next.now s.prev.now c.averages-own.result c.residuals.result c.last_next-following.result
    a.prior a.out.now _ _ i (omega arith) rows.low next_eight prior_eight c.averages-own.ensures c.residuals.ensures
    c.requires.2 c.last_next-following.ensures (rw c.unsqueeze_block-pairs.ensures) (rw c.unsqueeze_block-pairs.ensures)
    c.if-n-m.false)
