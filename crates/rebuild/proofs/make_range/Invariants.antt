-- `make_range` meets its contract: channel by channel (`Taken` of proofs/Ranges.antt), and the marks of those. Assumes nothing.
use mathlib.Core.Path.{◌≡◌}
use mathlib.Core.Bool.{◌&&◌}
use Rattle.range.specs.Range.{some}
use Rattle.places.specs.Places.{places_in}
use Rattle.rebuild.specs.Run.{held_marked}
use Rattle.rebuild.proofs.Ranges.{Taken}
use Rattle.rebuild.proofs.make_range.Given as goal

abbrev pub invariant-loop-i : goal.invariant-loop-i
invariant-loop-i g l =
    Taken l.step (places_in l.places) l.sources l.pyramid l.initial.picture l.initial.work l.i l.picture l.work
    × (l.outside ≡ (g.M.Marking.marks && some (held_marked l.step (places_in l.places) l.sources l.pyramid l.initial.picture l.initial.work) l.i))
