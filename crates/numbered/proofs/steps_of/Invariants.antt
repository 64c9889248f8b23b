-- `steps_of` meets its contract: up to a group it has the steps of the groups before, and zeros after them. Assumes nothing.
use mathlib.Core.Path.{◌≡◌}
use lib.ListN.{take}
use Rattle.plan.specs.Steps as S
use Rattle.numbered.specs.Arrays.{steps_in}
use Rattle.numbered.proofs.steps_of.Given as goal

abbrev pub invariant-loop-numbers : goal.invariant-loop-numbers
invariant-loop-numbers l = l.plan ≡ S.packed (steps_in (take l.numbers-index l.steps))
