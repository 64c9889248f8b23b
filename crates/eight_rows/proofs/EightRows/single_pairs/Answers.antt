-- `single_pairs` meets its contract. The loop's invariant: the ordinary pairs up to i are made (`Ordinary` of the crate line). A turn adds one
-- (`block_ordinary` of proofs/Blocks.antt). The measure is the pairs that are left. Assumes nothing.
use mathlib.Core.Path.{◌≡◌, ◌∙◌}
use Prim.Native.Nat.{◌+◌, ◌-◌, ◌<◌}
use native.Mathlib.Omega.{arith}
use lib.ListN.{length}
use Rattle.pair.specs.Pair.{second}
use Rattle.line.proofs.Pairs.{join}
use Rattle.eight_rows.proofs.Strides.{lanes_length}
use Rattle.eight_rows.proofs.Blocks.{block_length, block_ordinary}
use Rattle.eight_rows.proofs.EightRows.single_pairs.Goals as goal

pub loop-i-preserved : goal.loop-i-preserved
loop-i-preserved c =
    let block = c.unsqueeze_block-pairs in
    let a = c.args in
    let i = c.loop-i.i in
    let long = c.loop-i.invariant.1 in
    let rows = a.self.now in
    let s = rows.squeezed in
    let inside : i < s.residuals = omega arith in
    let lf : length c.averages-in-loop-i.result ≡ 8 = rw c.averages-in-loop-i.ensures (lanes_length s.avg.now (i + 1) s.averages) in
    let e : i + 1 - a.from ≡ i - a.from + 1 = omega arith in
    let z : a.from + (i - a.from) ≡ i = omega arith in (
      rw (e, c.store_lanes-in-loop-i.ensures, c.store_lanes.ensures)
          (join rows.low (omega arith) c.loop-i.invariant.0
          (rw z
          (block_ordinary s.averages s.residuals s.avg.now s.res.now c.averages.result c.residuals.result c.averages-in-loop-i.result
          c.loop-i.before i inside rows.low lf long c.averages.ensures c.residuals.ensures c.loop-i.out _ _
          (c.loop-i.invariant.0.long ∙ c.requires.0) (rw block.ensures) (rw block.ensures) c.averages-in-loop-i.ensures))),
      rw block.ensures
          (block_length s.averages s.residuals s.avg.now s.res.now c.averages.result c.residuals.result c.averages-in-loop-i.result
          c.loop-i.before i inside rows.low lf long c.averages.ensures c.residuals.ensures second),
      omega arith,
      omega arith,
    )
