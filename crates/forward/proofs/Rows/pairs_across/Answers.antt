-- `pairs_across` meets its contract: row by row (`next_row` of proofs/Filled.antt). Assumes nothing.
use mathlib.Core.Path.{◌≡◌, refl, ap}
use Prim.Native.Nat.{ℕ, ◌+◌, ◌-◌, ◌*◌, ◌/◌}
use native.Mathlib.Omega.{arith}
use Rattle.line.proofs.Tables.{table_length}
use Rattle.forward.proofs.Entries.{row_ends}
use Rattle.forward.proofs.Filled.{first_row, next_row}
use Rattle.forward.proofs.Marked.{row_more, row_first}
use Rattle.forward.proofs.Rows.pairs_across.Goals as goal

pub loop-y-init : goal.loop-y-init
loop-y-init g c =
    let r = c.args.self.now in
    let first = c.end_row-outside in
    let w : 1 * r.width ≡ r.width = omega arith in
    record {
      in_range = omega arith;
      made = rw w (first_row _ r.width first.new.averages _ first.ensures.made);
      left = rw w (first_row _ r.width first.new.residuals _ first.ensures.left);
      told =
          row_first g.M.Marking.marks _ 1 r.width first.new.residuals _ r.samples.now (rw first.ensures.left (table_length _ _ r.width)) refl
          first.ensures.told;
    }

pub loop-y-preserved : goal.loop-y-preserved
loop-y-preserved g c =
    let r = c.args.self.now in
    let y = c.loop-y.y in
    let ends = row_ends y r.width r.count (omega arith) in
    record {
      in_range = omega arith;
      made = next_row _ y r.width _ _ c.loop-y.averages c.squeeze_row-outside.new.averages (omega arith) c.squeeze_row-outside.ensures.made c.loop-y.invariant.made refl;
      left = next_row _ y r.width _ _ c.loop-y.residuals c.squeeze_row-outside.new.residuals (omega arith) c.squeeze_row-outside.ensures.left c.loop-y.invariant.left refl;
      told =
          row_more g.M.Marking.marks _ _ y _ r.width _ c.loop-y.residuals c.squeeze_row-outside.new.residuals r.samples.now (omega arith) (omega arith) refl
          c.loop-y.invariant.told c.squeeze_row-outside.ensures.told;
    }

pub returns : goal.returns
returns g c =
    let r = c.args.self.now in
    let n = r.count / 2 in
    let y = n - 1 in
    let e : c.loop-y.y ≡ y = omega arith in
    let s : n ≡ y + 1 = omega arith in
    let m : n * r.width ≡ (y + 1) * r.width = ap (λ (k : ℕ). k * r.width) s in
    let ends = row_ends y r.width r.count (omega arith) in
    record {
      made = next_row _ y r.width _ (n * r.width) c.loop-y.averages c.end_row.new.averages (omega arith) c.end_row.ensures.made (rw e at c.loop-y.invariant.made) m;
      left = next_row _ y r.width _ (n * r.width) c.loop-y.residuals c.end_row.new.residuals (omega arith) c.end_row.ensures.left (rw e at c.loop-y.invariant.left) m;
      told =
          row_more g.M.Marking.marks _ _ y n r.width _ c.loop-y.residuals c.end_row.new.residuals r.samples.now (omega arith) (omega arith) s
          (rw e at c.loop-y.invariant.told) c.end_row.ensures.told;
    }

pub returns-then-n-eq1-clause-told : goal.returns-then-n-eq1-clause-told
returns-then-n-eq1-clause-told g c =
    let r = c.args.self.now in
    let first = c.end_row-outside in
    row_first g.M.Marking.marks _ (r.count / 2) r.width first.new.residuals _ r.samples.now (rw first.ensures.left (table_length _ _ r.width))
    c.if-n-eq1.true first.ensures.told
