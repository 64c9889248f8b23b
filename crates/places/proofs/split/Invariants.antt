-- `split` meets its contract: the first i channels of the range are split. Assumes nothing.
use mathlib.Core.Path.{◌≡◌}
use Prim.Native.Nat.{◌≤◌}
use lib.ListN.{length}
use Rattle.list.specs.Lists.{max_channels}
use Rattle.places.specs.Places.{place_of}
use Rattle.places.specs.Moves.{Split}
use Rattle.places.proofs.split.Given as goal

abbrev pub invariant-loop-i : goal.invariant-loop-i
invariant-loop-i l =
    (length l.places ≡ max_channels) × (l.i ≤ l.number)
    × Split l.step.horizontal l.begin l.at l.i (place_of l.initial.places) (place_of l.places)
