-- `squeeze_along` meets its contract: line by line (`filled_table` of proofs/Filled.antt). Assumes nothing.
use mathlib.Core.Path.{◌≡◌, sym, ◌∙◌}
use mathlib.Core.Bool.{true}
use Prim.Native.Nat.{◌+◌, ◌-◌, ◌*◌, ◌/◌}
use native.Mathlib.Omega.{arith}
use native.Mathlib.Nat.{add-mul}
use borrow.Author.Rules.{rules}
use Rattle.line.specs.Forward.{average_count, residual_count, average_at, residual_at}
use Rattle.forward.specs.Rows.{along, average_entry, residual_entry}
use Rattle.forward.proofs.Entries.{halves, row_room}
use Rattle.forward.proofs.Filled.{filled_table}
use Rattle.std.proofs.Math.Bool.{and-or_distrib_left}
use Rattle.forward.proofs.Marked.{more}
use Rattle.forward.proofs.Stretches.{line_average, line_residual}
use Rattle.forward.proofs.Rows.squeeze_along.Goals as goal

pub loop-y-preserved : goal.loop-y-preserved
loop-y-preserved g c =
    let r = c.args.self.now in
    let y = c.loop-y.y in
    let h = halves r.width in
    let p = add-mul y 1 (r.width - r.width / 2) in
    let q = add-mul y 1 (r.width / 2) in
    let w = c.row-line.ensures.wide in
    let a : r.count * (r.width - r.width / 2) ≡ r.count * average_count r.width = rw h.0 in
    let b : r.count * (r.width / 2) ≡ r.count * residual_count r.width = rw h.1 in
    let ea = row_room y r.count (r.width - r.width / 2) c.loop-y-test.true in
    let eb = row_room y r.count (r.width / 2) c.loop-y-test.true in
    record {
      in_range = omega arith;
      made =
          filled_table (average_entry true r.count r.width r.samples.now) (average_at (along c.row-line.result.now) r.width) 0 (y * (r.width - r.width / 2)) _
          (average_count r.width) _ c.loop-y.averages c.squeeze_line.new.averages (omega arith) (rw w at c.squeeze_line.ensures.made)
          (λ x l.
          let z : 0 + x ≡ x = omega arith in
          rw (z, c.row-line.ensures.value, h.0) (line_average r.count r.width r.samples.now y x c.loop-y-test.true l))
          c.loop-y.invariant.made (omega arith);
      left =
          filled_table (residual_entry true r.count r.width r.samples.now) (residual_at (along c.row-line.result.now) r.width) 0 (y * (r.width / 2)) _
          (residual_count r.width) _ c.loop-y.residuals c.squeeze_line.new.residuals (omega arith) (rw w at c.squeeze_line.ensures.left)
          (λ x l.
          let z : 0 + x ≡ x = omega arith in
          rw (z, c.row-line.ensures.value, h.1) (line_residual r.count r.width r.samples.now y x c.loop-y-test.true l))
          c.loop-y.invariant.left (omega arith);
      told =
          more g.M.Marking.marks _ _ (y * (r.width / 2)) (r.width / 2) _ (y * r.width) r.width _ _ c.loop-y.residuals c.squeeze_line.new.residuals
          r.samples.now (omega arith) (omega arith) (omega arith) (add-mul y 1 r.width ∙ omega arith) c.loop-y.invariant.told
          (rw (c.some_outside-in-loop-y.ensures, c.some_outside-in-loop-y-2.ensures, c.row-line.ensures.value) (sym (and-or_distrib_left g.M.Marking.marks _ _)));
    }

pub slice_bounds-left-end : goal.slice_bounds-left-end
slice_bounds-left-end g c =
    let r = c.args.self.now in
    let y = c.loop-y.y in
    let h = halves r.width in
    let b : r.count * (r.width / 2) ≡ r.count * residual_count r.width = rw h.1 in
    let eb = row_room y r.count (r.width / 2) c.loop-y-test.true in
    search rules
