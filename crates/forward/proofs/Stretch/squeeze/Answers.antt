-- `squeeze` of a stretch meets its contract: one entry more each turn (`filled_set`), and what was read for it. Assumes nothing.
use mathlib.Core.Path.{◌∙◌}
use Prim.Native.Nat.{◌*◌}
use native.Mathlib.Omega.{arith}
use borrow.Author.Rules.{rules}
use lib.IntN.{pos}
use lib.ListN.{get_or}
use Rattle.arith32.proofs.Whole.{back32}
use Rattle.pair.specs.Pair as P
use Rattle.forward.specs.Rows.{average_over, residual_over}
use Rattle.forward.proofs.Filled.{filled_set}
use Rattle.forward.proofs.Stretches.{read_more}
use Rattle.forward.proofs.Stretch.squeeze.Goals as goal

pub loop-x-preserved : goal.loop-x-preserved
unfolding average_over residual_over P.residual
loop-x-preserved g c =
    let s = c.args.self.now in
    let x = c.loop-x.x in
    let i = x * g.row.STEP in
    let b1 = back32 (get_or s.first.now i (pos 0)) (search rules) in
    let b2 = back32 (get_or s.second.now i (pos 0)) (search rules) in
    let b3 = back32 (get_or s.third.now i (pos 0)) (search rules) in
    let b4 = back32 (get_or s.fourth.now i (pos 0)) (search rules) in
    let d = rw (b1, b2) at c.squeeze-own.ensures.3 in
    let a = rw (b1, b2) at c.squeeze-own.ensures.2 in
    let v = back32 c.squeeze-own.result.average (search rules) ∙ a in
    let w = back32 c.squeeze-next.result.average (search rules) ∙ rw (b3, b4) at c.squeeze-next.ensures.2 in
    let before = c.at in
    let p = back32 before.result before.type_inv ∙ rw v at before.ensures in
    let last = c.residual-rest in
    record {
      in_range = omega (arith, c.loop-x-test.true);
      made = filled_set (average_over s.first.now s.second.now g.row.STEP) x _ _ (omega arith) v c.loop-x.invariant.made;
      left =
          filled_set (residual_over (g.B.Before.value c.args.before) s.first.now s.second.now s.third.now s.fourth.now g.row.STEP) x _ _ (omega arith)
          (back32 last.result.residual (search rules) ∙ rw (w, p, d, a) at last.ensures.0)
          c.loop-x.invariant.left;
      read = read_more g.row.STEP s.third.now x (search rules) c.loop-x.invariant.read;
    }
