-- `rows_by_eight` meets its contract. The loop's invariant: the output of the rows up to 8 * k is written (`Down` of proofs/Bands.antt), and looked
-- at. A turn writes a strip of eight rows (proofs/Strips.antt). The measure is the rows that are left. Assumes nothing.
use mathlib.Core.Path.{◌≡◌}
use mathlib.Core.Bool.{true, ◌&&◌}
use Prim.Native.Nat.{◌+◌, ◌-◌, ◌*◌}
use Rattle.line.specs.Uncut.{uncut}
use Rattle.line.specs.Squeezed.{squeeze_of}
use Rattle.rows.specs.Parts.{rows_outside}
use Rattle.rows.proofs.Bands.{Down}
use Rattle.rows.proofs.rows_by_eight.Given as goal

abbrev pub invariant-loop-k : goal.invariant-loop-k
invariant-loop-k g l = record {
  written : Down l.lines (l.s.averages + l.s.residuals) (uncut (squeeze_of true l.lines l.s)) l.initial.out l.out (8 * l.k);
  told : l.outside ≡ (g.M.Marking.marks && rows_outside (squeeze_of true l.lines l.s) 0 (8 * l.k));
}

abbrev pub decreases-loop-k : goal.decreases-loop-k
decreases-loop-k g l = l.k-end - l.k
