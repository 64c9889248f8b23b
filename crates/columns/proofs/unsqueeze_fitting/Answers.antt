-- `unsqueeze_fitting` meets its contract: the averages copied, or all rows put together (proofs/AllRows.antt). Assumes nothing.
use mathlib.Core.Path.{◌≡◌, sym, ◌∙◌}
use Prim.Native.Nat.{ℕ, ◌+◌, ◌-◌}
use native.Mathlib.Omega.{arith}
use lib.ListN.{length, take, drop}
use Rattle.buffer.proofs.Overwritten.{copied_all}
use Rattle.columns.specs.Rows.{row_before}
use Rattle.line.proofs.Outputs.{part_length}
use Rattle.columns.proofs.OuterRows.{before_length}
use Rattle.columns.proofs.Pastes.{put_in}
use Rattle.columns.proofs.AllRows.{averages_long, averages_alone, before_row_room, rows_together, rows_marked, averages_marked}
use Rattle.columns.proofs.unsqueeze_fitting.Goals as goal

-- there is a last pair
counted : (n : ℕ) → (n ≡ 0 → ⊥) → n - 1 + 1 ≡ n
counted n some = omega arith

pub returns-then-n-eq0 : goal.returns-then-n-eq0
returns-then-n-eq0 g c =
    let f = c.requires.0 in
    let z = c.if-n-eq0.true in
    let e = averages_alone f c.args.out.now c.requires.3 z in
    let alike = sym (averages_long f c.args.out.now c.requires.3 z) in
    (c.copy.ensures ∙ copied_all c.args.s.now.avg.now c.args.out.now alike ∙ e, averages_marked f g.M.Marking.marks z e c.some_outside.ensures)

pub returns : goal.returns
returns g c =
    let a = c.args in
    let f = c.requires.0 in
    let i = a.s.now.residuals - 1 in
    let row = row_before a.s.now.prev.now a.s.now.avg.now a.w in
    let r = before_row_room f a.out.now c.requires.3 i (counted a.s.now.residuals c.if-n-eq0.false) in
    let z : a.w + a.w - a.w ≡ a.w = omega arith in
    let alike : length row ≡ length (take (a.w + a.w - a.w) (drop a.w a.out.now)) =
    rw z (before_length a.s.now.prev.now a.s.now.avg.now a.w ∙ sym (part_length a.w a.w a.out.now (omega arith))) in
    let e : a.w + a.w - a.w ≡ length row = omega (arith, before_length a.s.now.prev.now a.s.now.avg.now a.w) in
    let made = c.ordinary_pairs-pairs.ensures in
    let ended = c.last_rows.ensures.0 a.s.now.prev.now in
    let all =
    rows_together f a.out.now c.requires.3 i (counted a.s.now.residuals c.if-n-eq0.false) c.ordinary_pairs-pairs.result.from
    (rw (c.copy-2.ensures, c.row_before.ensures, copied_all row _ alike, put_in a.out.now a.w (a.w + a.w - a.w) row e) at made.0)
    ended in
    (all, rows_marked f g.M.Marking.marks i ended all made.2 c.last_rows.ensures.1)
