-- `squeeze_lines` meets its contract: where the slices fit, averages and residuals are those of all lines (`into_fit` of proofs/Fitted.antt), and so is
-- their mark (`marked_fit` of proofs/Written.antt). Assumes nothing.
use mathlib.Core.Path.{sym, ◌∙◌}
use Rattle.forward.proofs.Fitted.{into_fit}
use Rattle.forward.proofs.Written.{marked_fit}
use Rattle.forward.proofs.squeeze_lines.Goals as goal

pub returns-then-horizontal : goal.returns-then-horizontal
returns-then-horizontal g c =
    let a = c.args in
    let fit = sym c.slices_fit.ensures.value ∙ c.if-not-slices_fit.false in
    let made = c.squeeze_along.ensures in
    let long = (c.slices_fit.ensures.lengths c.if-not-slices_fit.false).0 in (
      rw (into_fit a.horizontal a.lines a.size a.xs.now a.out.now fit, c.if-horizontal.true, made.made, made.left),
      rw (marked_fit a.horizontal a.lines a.size a.xs.now long a.out.now fit, c.if-horizontal.true, ← made.left) made.told,
    )

pub returns-else-horizontal : goal.returns-else-horizontal
returns-else-horizontal g c =
    let a = c.args in
    let fit = sym c.slices_fit.ensures.value ∙ c.if-not-slices_fit.false in
    let made = c.squeeze_across.ensures in
    let long = (c.slices_fit.ensures.lengths c.if-not-slices_fit.false).0 in (
      rw (into_fit a.horizontal a.lines a.size a.xs.now a.out.now fit, c.if-horizontal.false, made.made, made.left),
      rw (marked_fit a.horizontal a.lines a.size a.xs.now long a.out.now fit, c.if-horizontal.false, ← made.left) made.told,
    )
