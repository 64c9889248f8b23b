-- `list_of` meets its contract: up to a group it has the channels of the groups before, and zeros after them. Assumes nothing.
use mathlib.Core.Path.{◌≡◌}
use lib.ListN.{take}
use Rattle.list.specs.Lists as Lists
use Rattle.numbered.specs.Arrays.{channels_in}
use Rattle.numbered.proofs.list_of.Given as goal

abbrev pub invariant-loop-numbers : goal.invariant-loop-numbers
invariant-loop-numbers l = l.list ≡ Lists.packed (channels_in (take l.numbers-index l.channels))
