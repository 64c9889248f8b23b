-- `four_pairs` meets its contract: four loads of averages and residuals, four blocks, and two stores of four are four ordinary pairs (`four_ordinary` of
-- proofs/Blocks.antt). Assumes nothing.
use mathlib.Core.Path.{◌≡◌, ◌∙◌}
use Prim.Native.Nat.{◌+◌}
use native.Mathlib.Omega.{arith}
use borrow.Author.Rules.{rules}
use lib.ListN.{length}
use Rattle.eight_rows.proofs.Blocks.{four_ordinary}
use Rattle.eight_rows.proofs.EightRows.four_pairs.Goals as goal

pub returns : goal.returns
returns c =
    λ res lanes.
    let g = c.args in
    let rows = g.self.now in
    let s = rows.squeezed in
    let eight : length g.prior ≡ 8 = search rules in
    let zq : g.q + 0 ≡ g.q = omega arith in
    let zp : g.p + 0 ≡ g.p = omega arith in
    rw (
      c.store_four-2.ensures,
      c.store_four.ensures,
      c.unsqueeze_block-d.ensures,
      c.unsqueeze_block-c.ensures,
      c.unsqueeze_block-b.ensures,
      c.unsqueeze_block-a.ensures,
    )
    (four_ordinary s.averages s.residuals s.avg.now res c.averages.result c.load_lanes.result c.averages-avg1.result c.load_lanes-2.result
    c.averages-avg2.result c.load_lanes-3.result c.averages-avg3.result c.load_lanes-4.result c.averages-2.result g.prior g.out.now g.p
    (omega arith) rows.low eight c.averages.ensures c.averages-avg1.ensures c.averages-avg2.ensures c.averages-avg3.ensures
    c.averages-2.ensures (c.load_lanes.ensures ∙ rw (zq, zp) at (lanes 0 (omega arith))) (c.load_lanes-2.ensures ∙ lanes 1 (omega arith))
    (c.load_lanes-3.ensures ∙ lanes 2 (omega arith)) (c.load_lanes-4.ensures ∙ lanes 3 (omega arith)) c.requires.0)
