-- `lay` meets its contract: the first k lie at their starts in the pyramid. Assumes nothing.
use mathlib.Core.Path.{ap, ◌∙◌}
use native.Mathlib.Omega.{arith}
use Rattle.list.specs.Lists.{max_channels}
use Rattle.list.proofs.Filled.{padded_at}
use Rattle.places.specs.Places.{starts_from, areas_in}
use Rattle.rebuild.specs.declared.Source.TheVariants.{Pyramid}
use Rattle.rebuild.proofs.Sources.lay.Goals as goal

pub returns : goal.returns
returns c j h =
    c.loop-k.invariant j (omega arith)
    ∙ ap Pyramid (rw c.starts-starts.ensures (padded_at max_channels (starts_from 0 (areas_in c.args.places.now)) j (omega arith)))
