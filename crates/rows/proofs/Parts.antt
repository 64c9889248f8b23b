-- Rows of a squeeze as a part of its slices (`IsPart` of specs/Parts.antt) are a strip of it (proofs/Strips.antt), also one row by the lengths of its
-- slices. Assumes nothing.
use mathlib.Core.Path.{◌≡◌}
use mathlib.Core.Bool.{true}
use Prim.Native.Nat.{ℕ, ◌+◌, ◌-◌, ◌≤◌}
use native.Mathlib.Omega.{arith}
use lib.ListN.{length}
use Rattle.line.specs.declared.Squeezed.{Squeezed}
use Rattle.line.specs.Uncut.{squeeze, Fitting}
use Rattle.line.specs.Squeezed.{squeeze_of}
use Rattle.rows.specs.Parts.{IsPart}
use Rattle.rows.proofs.Strips.{rows_span, row_length, strip}

pub part_strip : {s part : Squeezed} (lines y c : ℕ) → IsPart s part y (y + c) → squeeze_of true c part ≡ strip (squeeze_of true lines s) y c
part_strip {s} lines y c p =
    let e : y + c - y ≡ c = omega arith in
    rw (p.averages, p.residuals, p.avg, p.res, p.next, p.prev, rows_span y c s.averages, rows_span y c s.residuals, e)

pub row_strip : {s part : Squeezed} (lines y : ℕ) → Fitting (squeeze_of true lines s) → y + 1 ≤ lines → IsPart s part y (y + 1)
    → squeeze true 1 (length part.avg.now) (length part.res.now) part.avg.now part.res.now part.next.now part.prev.now
    ≡ strip (squeeze_of true lines s) y 1
row_strip {s} lines y f among p =
    let e : y + 1 - y ≡ 1 = omega arith in
    let la = row_length y lines s.averages s.avg.now among f.avg_length in
    let lr = row_length y lines s.residuals s.res.now among f.res_length in
    rw (p.avg, p.res, p.next, p.prev, rows_span y 1 s.averages, rows_span y 1 s.residuals, e, la, lr)
