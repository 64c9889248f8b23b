-- `squeeze_steps` meets its contract. The loop's invariant: the list reached, what its places hold and the steps left give the whole run, and what is
-- told so far and those steps its mark (`Running` of proofs/Running.antt). Assumes nothing.
use Rattle.list.specs.Lists.{channels}
use Rattle.places.specs.Places.{places_in}
use Rattle.write.proofs.Running.{Running}
use Rattle.write.proofs.squeeze_steps.Given as goal

abbrev pub invariant-loop-k : goal.invariant-loop-k
invariant-loop-k g l =
    Running (channels l.fn.list) l.steps l.picture g.M.Marking.marks (places_in l.places) l.odd l.even l.outside l.k
