-- `rows_singly` meets its contract. The loop's invariant: the rows up to y are those of the output, before `from` as they were (`patch` and
-- `Down` of proofs/Bands.antt), and from there on looked at. A turn writes a strip of one row (proofs/Strips.antt). The measure is the rows that are
-- left. Assumes nothing.
use mathlib.Core.Path.{◌≡◌}
use mathlib.Core.Bool.{true, ◌&&◌}
use Prim.Native.Nat.{◌+◌, ◌-◌, ◌*◌}
use Rattle.line.specs.Uncut.{uncut}
use Rattle.line.specs.Squeezed.{squeeze_of}
use Rattle.rows.specs.Parts.{rows_outside}
use Rattle.rows.proofs.Bands.{Down, patch}
use Rattle.rows.proofs.rows_singly.Given as goal

abbrev pub invariant-loop-y : goal.invariant-loop-y
invariant-loop-y g l = record {
  written : Down l.lines (l.s.averages + l.s.residuals) (patch l.initial.out (uncut (squeeze_of true l.lines l.s)) (l.from * (l.s.averages + l.s.residuals))) l.initial.out l.out l.y;
  told : l.outside ≡ (g.M.Marking.marks && rows_outside (squeeze_of true l.lines l.s) l.from l.y);
}

abbrev pub decreases-loop-y : goal.decreases-loop-y
decreases-loop-y g l = l.lines - l.y
