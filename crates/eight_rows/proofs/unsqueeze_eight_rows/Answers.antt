-- `unsqueeze_eight_rows` meets its contract: where sizes fit it is the uncut squeeze, else the output stays (proofs/Into.antt of the crate line).
-- Assumes nothing.
use mathlib.Core.Path.{◌∙◌}
use mathlib.Core.Bool.{true}
use native.Mathlib.Omega.{arith}
use Rattle.line.specs.Squeezed.{squeeze_of}
use Rattle.line.proofs.Into.{fitted, into_fits, into_kept, into_none}
use Rattle.eight_rows.proofs.unsqueeze_eight_rows.Goals as goal

pub returns-then-not-fits : goal.returns-then-not-fits
returns-then-not-fits c = into_kept (squeeze_of true 8 c.args.s.now) c.args.out.now (rw c.fits.ensures at c.if-not-fits.true)

pub returns-then-s-eq0 : goal.returns-then-s-eq0
returns-then-s-eq0 c =
    let s = squeeze_of true 8 c.args.s.now in
    let f = fitted s c.args.out.now (rw c.fits.ensures at c.if-not-fits.false) in
    let low = f.0.low in
    into_none s c.args.out.now (f.1 ∙ omega arith)

pub unsqueeze_fitting-requires : goal.unsqueeze_fitting-requires
unsqueeze_fitting-requires c =
    let f = fitted (squeeze_of true 8 c.args.s.now) c.args.out.now (rw c.fits.ensures at c.if-not-fits.false) in
    (f.0, omega (arith, c.if-s-eq0.false), f.1)

pub returns : goal.returns
returns c =
    let s = squeeze_of true 8 c.args.s.now in
    rw c.unsqueeze_fitting.ensures (into_fits s c.args.out.now (rw c.fits.ensures at c.if-not-fits.false))
