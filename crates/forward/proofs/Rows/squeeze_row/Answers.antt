-- `squeeze_row` meets its contract: the residuals of a stretch across all lines (proofs/Stretches.antt), the first and the others. Assumes nothing.
use mathlib.Core.Path.{sym}
use mathlib.Core.Bool.{false}
use lib.IntN.{pos}
use lib.ListN.{get_or}
use Rattle.line.specs.Forward.{line_in}
use Rattle.forward.proofs.Entries.{prev_first}
use Rattle.forward.proofs.Stretches.{row_residuals, row_before}
use Rattle.forward.proofs.Rows.squeeze_row.Goals.{then-y-eq0, else-y-eq0}
use Rattle.forward.proofs.Rows.squeeze_row.Goals as goal

pub returns-clause-left : goal.returns-clause-left
returns-clause-left g c =
    let r = c.args.self.now in
    let y = c.args.y in
    elim c.if-y-eq0.branch [
      | then-y-eq0 w ↦ (let made = w.squeeze.ensures in
          rw (w.residuals-is, made.left)
          (row_residuals r.count r.width r.samples.now y c.requires.pair _ _ c.row.ensures.value c.row-2.ensures.value
          _ _ c.requires.after _ _ c.row-3.ensures.value c.row-4.ensures.value made.read (λ i average. average)
          (λ e l. sym (prev_first (line_in false r.width r.count r.samples.now e) r.count y w.if-y-eq0.true))))
      | else-y-eq0 w ↦ (let before = w.row-samples in
          let made = w.squeeze-else-y-eq0.ensures in
          rw (w.residuals-is, made.left)
          (row_residuals r.count r.width r.samples.now y c.requires.pair _ _ c.row.ensures.value c.row-2.ensures.value
          _ _ c.requires.after _ _ c.row-3.ensures.value c.row-4.ensures.value made.read (λ i average. get_or before.result.now i (pos 0))
          (row_before r.count r.width r.samples.now y c.requires.pair _ _ c.row.ensures.value c.row-2.ensures.value _ before.ensures.value w.if-y-eq0.false)))
    ]
