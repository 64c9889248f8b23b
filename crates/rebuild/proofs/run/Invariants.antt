-- `run` meets its contract: with so many steps left, each channel has its samples (`Back` of specs/Run.antt), the places are those of the list, and the
-- mark is that of the steps that are taken back. Assumes nothing.
use mathlib.Core.Path.{◌≡◌}
use mathlib.Core.Bool.{◌&&◌}
use Rattle.places.specs.Places.{places_in}
use Rattle.rebuild.specs.Run.{places_at, marked_at, Back}
use Rattle.rebuild.proofs.run.Given as goal

abbrev pub invariant-loop-m : goal.invariant-loop-m
invariant-loop-m g l =
    Back l.list l.steps l.m l.sources l.pyramid l.picture l.work × (places_in l.places ≡ places_at l.list l.steps l.m)
    × (l.outside ≡ (g.M.Marking.marks && marked_at l.list l.steps l.m l.pyramid))
