-- `ordinary_pairs` meets its contract: each turn adds an ordinary pair of rows (`Down` of proofs/RowPairs.antt) and its mark (proofs/Marks.antt).
-- Assumes nothing.
use mathlib.Core.Path.{◌≡◌}
use Prim.Native.Nat.{◌+◌, ◌-◌}
use native.Mathlib.Omega.{arith}
use Rattle.range.proofs.Told.{nothing}
use Rattle.line.proofs.Outputs.{part_length}
use Rattle.columns.proofs.RowPairs.{down_none, next_room, down_more, down_apart}
use Rattle.columns.proofs.Marks.{more_marked}
use Rattle.columns.proofs.ordinary_pairs.Goals as goal

pub loop-init : goal.loop-init
loop-init g c = (down_none c.args.avg.now c.args.res.now c.args.count c.args.w c.args.out.now, nothing g.M.Marking.marks)

pub loop-preserved : goal.loop-preserved
loop-preserved g c =
    let a = c.loop.a in
    let w = c.args.w in
    let i = c.loop.invariant in
    let y : a + w - a ≡ w = omega arith in
    let z : a + w + w - (a + w) ≡ w = omega arith in
    let made = rw (y, z) at c.row_pair-outside.ensures in
    let r = next_room i.0 c.loop-test.true c.requires.0 in (
      down_more i.0 c.loop-test.true c.requires.0 made.0,
      more_marked g.M.Marking.marks a w c.args.res.now (part_length a w c.args.avg.now (omega arith)) made.0 i.1 made.1,
    )

pub returns : goal.returns
returns g c =
    let i = c.loop.invariant in
    let e : c.loop.counter ≡ c.args.count = omega (arith, i.0.inside) in
    let d = rw e at i.0 in
    (d.done, down_apart d c.requires.2, rw (d.row_at, d.pair_at) at i.1)
