-- `ordinary_pairs` meets its contract: each turn adds an ordinary pair of rows (`Down` of proofs/RowPairs.antt) and its mark. Assumes nothing.
use mathlib.Core.Path.{◌≡◌}
use mathlib.Core.Bool.{◌&&◌, ◌||◌}
use Prim.Native.Nat.{◌-◌}
use lib.ListN.{take}
use Rattle.range.specs.Range.{some_outside}
use Rattle.columns.proofs.RowPairs.{Down}
use Rattle.columns.proofs.ordinary_pairs.Given as goal

abbrev pub invariant-loop : goal.invariant-loop
invariant-loop g l =
    Down l.avg l.res l.count l.w l.initial.out l.out l.from l.to l.a l.counter
    × (l.outside ≡ (g.M.Marking.marks && (some_outside (take l.a l.res) || some_outside (take l.to l.out))))

abbrev pub decreases-loop : goal.decreases-loop
decreases-loop g l = l.count - l.counter
