-- `tidied` meets its contract: up to k it has the channels of the list and their own positions, and zeros after them. Assumes nothing.
use mathlib.Core.Path.{◌≡◌}
use Prim.Native.Nat.{◌≤◌, min}
use lib.ListN.{length}
use Rattle.list.specs.Lists.{max_channels, channels, own_positions}
use Rattle.list.proofs.Filled.{FillingList}
use Rattle.plan.proofs.tidied.Given as goal

abbrev pub invariant-loop-k : goal.invariant-loop-k
invariant-loop-k l =
    (l.k ≤ min l.list.count max_channels) × (l.tidy.count ≡ l.k) × FillingList (channels l.list) (own_positions (length (channels l.list))) l.tidy
