-- `reset` meets its contract: the first k places are laid, the next starts at `at`, and those from k on stay. Assumes nothing.
use mathlib.Core.Path.{refl, ap, ◌∙◌}
use native.Mathlib.Omega.{arith}
use Rattle.places.specs.Places as Places
use Rattle.places.proofs.Homes.{new_place, new_area, laying_more, laying_all, places_laid}
use Rattle.places.proofs.Places.reset.Goals as goal

pub loop-k-preserved : goal.loop-k-preserved
loop-k-preserved c =
    let w = c.loop-k in
    let l = c.args.list.now in
    laying_more (new_place l) (new_area l) c.len-count.result _ w.self.places w.at w.k w.invariant _ c.behind-at.result (omega arith) (omega arith)
    refl (c.behind-at.ensures ∙ ap (Places.behind w.at) c.area.ensures)

pub returns-clause-placed : goal.returns-clause-placed
unfolding Places.places_in
returns-clause-placed c =
    let w = c.loop-k in
    let l = c.args.list.now in
    places_laid l c.len-count.result _ w.self.places (omega arith) (omega arith)
    (laying_all (new_place l) (new_area l) c.len-count.result _ w.self.places w.at w.k w.invariant (omega arith) (omega arith))
