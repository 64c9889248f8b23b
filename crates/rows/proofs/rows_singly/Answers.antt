-- `rows_singly` meets its contract: a turn writes a strip of one row (proofs/Strips.antt), and looks at it (proofs/Marks.antt). Assumes nothing.
use mathlib.Core.Path.{◌≡◌, ap, ◌∙◌}
use mathlib.Core.Bool.{true}
use Prim.Native.Nat.{◌+◌, ◌*◌, ◌≤◌}
use native.Mathlib.Omega.{arith}
use lib.ListN.{take, drop}
use Rattle.line.specs.Uncut.{Squeeze, uncut}
use Rattle.line.specs.Squeezed.{squeeze_of}
use Rattle.line.proofs.Outputs.{uncut_length}
use Rattle.rows.proofs.Strips.{rows_span, row_length, strip_fitting, strip_uncut}
use Rattle.rows.proofs.Parts.{row_strip}
use Rattle.rows.proofs.Bands.{rest_none, rest_more, rest_all}
use Rattle.rows.proofs.Marks.{rows_none, rows_more}
use Rattle.rows.proofs.rows_singly.Goals as goal

pub one_row-requires : goal.one_row-requires
one_row-requires g c =
    let a = c.args in
    let s = a.s.now in
    let y = c.loop-y.y in
    let pre = c.requires in
    let size = s.averages + s.residuals in
    let among : y + 1 ≤ a.lines = omega arith in
    let e = row_strip a.lines y pre.0 among c.part_of-part.ensures in
    let la = ap (λ (q : Squeeze). q.averages) e in
    let lr = ap (λ (q : Squeeze). q.residuals) e in (
      rw e (strip_fitting a.lines s.averages s.residuals s.avg.now s.res.now s.next.now s.prev.now pre.0 y 1 among),
      rw la pre.1,
      rw (la, lr, rows_span y 1 size) (row_length y a.lines size c.loop-y.out among c.loop-y.invariant.written.long),
    )

pub loop-y-init : goal.loop-y-init
loop-y-init g c =
    let a = c.args in
    let s = squeeze_of true a.lines a.s.now in
    let pre = c.requires in
    record {
      written = rest_none a.lines (s.averages + s.residuals) _ a.out.now (uncut_length s) pre.2 a.from pre.3;
      told = rows_none g.M.Marking.marks s a.from;
    }

pub loop-y-preserved : goal.loop-y-preserved
loop-y-preserved g c =
    let a = c.args in
    let s = a.s.now in
    let y = c.loop-y.y in
    let pre = c.requires in
    let size = s.averages + s.residuals in
    let among : y + 1 ≤ a.lines = omega arith in
    let made : c.one_row.new.out ≡ take (1 * size) (drop (y * size) (uncut (squeeze_of true a.lines s))) =
    c.one_row.ensures
    ∙ (ap uncut (row_strip a.lines y pre.0 among c.part_of-part.ensures)
    ∙ strip_uncut a.lines s.averages s.residuals s.avg.now s.res.now s.next.now s.prev.now pre.0 y 1 among pre.1) in
    record {
      written = rw (rows_span y 1 size)
          (rest_more a.lines size _ a.out.now (uncut_length (squeeze_of true a.lines s)) pre.2 a.from pre.3 c.loop-y.out _ y 1 c.loop-y.auto.y among made c.loop-y.invariant.written);
      told = rows_more g.M.Marking.marks a.lines a.from y 1 c.loop-y.auto.y c.part_of-part.ensures made c.loop-y.invariant.told c.part_outside-outside.ensures;
    }

pub returns : goal.returns
returns g c =
    let a = c.args in
    let s = a.s.now in
    let pre = c.requires in
    let e : c.loop-y.y ≡ a.lines = omega (arith, c.loop-y.auto.y-end pre.3) in (
      rest_all a.lines (s.averages + s.residuals) _ a.out.now (uncut_length (squeeze_of true a.lines s)) pre.2 a.from pre.3
          c.loop-y.out c.loop-y.y (omega arith) c.loop-y.invariant.written,
      rw e at c.loop-y.invariant.told,
    )
