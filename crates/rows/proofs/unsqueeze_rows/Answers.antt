-- `unsqueeze_rows` meets its contract: where sizes fit it is the uncut squeeze and its mark, else the output stays and has none (proofs/Into.antt and
-- proofs/IntoMarks.antt of the crate line). Assumes nothing.
use mathlib.Core.Path.{◌∙◌}
use mathlib.Core.Bool.{true}
use Rattle.range.specs.Range.{some_outside}
use Rattle.range.proofs.Told.{one_behind}
use Rattle.line.specs.Uncut.{uncut}
use Rattle.line.specs.Marks.{outers_outside}
use Rattle.line.specs.Squeezed.{squeeze_of}
use Rattle.line.proofs.Into.{fitted, some_averages, into_fits, into_kept, into_none}
use Rattle.line.proofs.IntoMarks.{marked_kept, marked_none, marked_fits}
use Rattle.rows.proofs.unsqueeze_rows.Goals as goal

pub returns-then-not-fits : goal.returns-then-not-fits
returns-then-not-fits g c =
    let s = squeeze_of true c.args.lines c.args.s.now in
    let e = rw c.fits.ensures at c.if-not-fits.true in
    (into_kept s c.args.out.now e, marked_kept g.M.Marking.marks s c.args.out.now e)

pub returns-then-out-eq0 : goal.returns-then-out-eq0
returns-then-out-eq0 g c =
    let s = squeeze_of true c.args.lines c.args.s.now in
    let out = c.args.out.now in
    (into_none s out c.if-out-eq0.true, marked_none g.M.Marking.marks s out c.if-out-eq0.true)

pub unsqueeze_fitting-requires : goal.unsqueeze_fitting-requires
unsqueeze_fitting-requires g c =
    let out = c.args.out.now in
    let f = fitted (squeeze_of true c.args.lines c.args.s.now) out (rw c.fits.ensures at c.if-not-fits.false) in
    (f.0, some_averages f.0 out f.1 c.if-out-eq0.false, f.1)

pub returns : goal.returns
returns g c =
    let m = g.M.Marking.marks in
    let s = squeeze_of true c.args.lines c.args.s.now in
    let out = c.args.out.now in
    let e = rw c.fits.ensures at c.if-not-fits.false in (
      rw c.unsqueeze_fitting.ensures.0 (into_fits s out e),
      rw (c.unsqueeze_fitting.ensures.1, c.outers_outside.ensures c.args.lines true)
          (one_behind m (some_outside s.res) (some_outside (uncut s)) (outers_outside s) ∙ marked_fits m s out e c.read_samples.ensures),
    )
