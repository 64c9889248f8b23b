-- `lay` meets its contract: the first k lie at their starts in the pyramid. Assumes nothing.
use mathlib.Core.Path.{◌≡◌}
use Prim.Native.Nat.{ℕ, ◌<◌}
use lib.ListN.{get_or}
use Rattle.rebuild.specs.declared.Source.TheVariants.{Pyramid}
use Rattle.rebuild.specs.Run.{source_at}
use Rattle.rebuild.proofs.Sources.lay.Given as goal

abbrev pub invariant-loop-k : goal.invariant-loop-k
invariant-loop-k l = (j : ℕ) → j < l.k → source_at l.self j ≡ Pyramid (get_or l.starts j 0)
