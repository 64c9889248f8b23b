-- `unsqueeze_block` meets its contract. The loop's invariant: both blocks, which begin as copies of avg and prev, are filled up to lane i
-- (proofs/Lanes.antt). The measure is the lanes that are left. Assumes nothing.
use mathlib.Core.Path.{◌≡◌, ◌∙◌}
use native.Mathlib.Omega.{arith}
use borrow.Author.Rules.{rules}
use lib.IntN.{pos}
use lib.ListN.{get_or}
use Rattle.arith32.proofs.Whole.{back32}
use Rattle.pair.specs.Pair.{first, second}
use Rattle.block.proofs.Lanes.{filled_more, filled_all}
use Rattle.block.proofs.unsqueeze_block.Goals as goal

pub loop-i-preserved : goal.loop-i-preserved
loop-i-preserved c =
    let a = c.args in
    let i = c.loop-i.i in
    let l = c.loop-i-test.true in
    let pair = c.unsqueeze-first in
    let firsts = c.loop-i.invariant.0 in
    let seconds = c.loop-i.invariant.1 in
    let b1 = back32 (get_or c.loop-i.firsts i (pos 0)) (search rules) ∙ firsts.rest i (omega arith) in
    let b2 = back32 (get_or a.res i (pos 0)) (search rules) in
    let b3 = back32 (get_or a.next i (pos 0)) (search rules) in
    let b4 = back32 (get_or c.loop-i.seconds i (pos 0)) (search rules) ∙ seconds.rest i (omega arith) in
    let e1 = back32 pair.result.first (search rules) ∙ rw (b1, b2, b3, b4) at pair.ensures.0 in
    let e2 = back32 pair.result.second (search rules) ∙ rw (b1, b2, b3, b4) at pair.ensures.1 in (
      filled_more first a.avg a.res a.next a.prev a.avg 8 c.loop-i.firsts i _ firsts l e1,
      filled_more second a.avg a.res a.next a.prev a.prev 8 c.loop-i.seconds i _ seconds l e2,
      omega arith,
    )

pub returns : goal.returns
returns c =
    let a = c.args in
    let e : c.loop-i.i ≡ 8 = omega arith in
    let firsts = rw e at c.loop-i.invariant.0 in
    let seconds = rw e at c.loop-i.invariant.1 in
    rw (
      filled_all first 8 a.avg a.res a.next a.prev a.avg c.loop-i.firsts (search rules) (search rules) (search rules) (search rules) firsts,
      filled_all second 8 a.avg a.res a.next a.prev a.prev c.loop-i.seconds (search rules) (search rules) (search rules) (search rules) seconds,
    )
