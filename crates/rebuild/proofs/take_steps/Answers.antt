-- `take_steps` meets its contract: step by step. Assumes nothing.
use Rattle.list.specs.Lists.{channels}
use Rattle.places.specs.Places.{places_from}
use Rattle.rebuild.proofs.Arrays.{placed_more}
use Rattle.rebuild.proofs.take_steps.Goals as goal

pub loop-k-preserved : goal.loop-k-preserved
loop-k-preserved c =
    let a = c.args in
    placed_more a.steps.now c.loop-k.k (places_from 0 (channels a.list.now)) c.loop-k.places c.step-in-loop-k.new.self _ c.step.ensures
    (c.requires c.loop-k.k c.loop-k-test.true) c.loop-k.invariant c.step-in-loop-k.ensures.placed
