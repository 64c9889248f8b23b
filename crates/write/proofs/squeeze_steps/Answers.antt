-- `squeeze_steps` meets its contract: the channels lie one after the other in the picture, and the steps are taken (proofs/First.antt, Running.antt and
-- Homes.antt). Assumes nothing.
use mathlib.Core.Path.{◌∙◌}
use native.Mathlib.Omega.{arith}
use Rattle.list.specs.Lists.{channels}
use Rattle.places.proofs.Arrays.{places_length}
use Rattle.places.proofs.Laid.{sum_total}
use Rattle.places.proofs.Sided.{sided_fit}
use Rattle.write.proofs.First.{first_running}
use Rattle.write.proofs.Running.{small, reach, running_more, running_all, told_all}
use Rattle.write.proofs.Homes.{laid_ranged, fit_ranged, squeezed_places, marked_places, places_stepped}
use Rattle.write.proofs.squeeze_steps.Goals as goal

pub loop-k-init : goal.loop-k-init
loop-k-init g c =
    let a = c.args in
    let p = c.requires in
    first_running a.list.now a.steps.now g.M.Marking.marks a.picture.now _ _ p.0 p.1 p.2 p.3 _ c.lay-places.ensures

pub squeeze_step-outside-requires : goal.squeeze_step-outside-requires
squeeze_step-outside-requires g c =
    let a = c.args in
    let l = c.loop-k in
    let w = l.invariant in
    let n = places_length l.places in
    let r = reach (channels a.list.now) a.steps.now a.picture.now _ _ _ _ _ l.k w (omega arith) c.step-step.result c.step-step.ensures in (
      w.alike,
      laid_ranged l.places _ _ _ (omega arith) w.laid,
      fit_ranged l.places _ _ (omega arith) (sided_fit w.cs _ w.sided w.fine),
    )

pub loop-k-preserved : goal.loop-k-preserved
loop-k-preserved g c =
    let a = c.args in
    let l = c.loop-k in
    let s = c.step-step.result in
    let put = c.squeeze_step-outside in
    let n = places_length l.places in
    let r = reach (channels a.list.now) a.steps.now a.picture.now _ _ _ _ _ l.k l.invariant (omega arith) s c.step-step.ensures in
    running_more (channels a.list.now) a.steps.now a.picture.now _ _ l.odd l.even _ l.k l.invariant (omega arith) s c.step-step.ensures _ _
    put.auto.odd put.auto.even (squeezed_places l.places _ _ _ _ _ _ _ _ (omega arith) put.ensures.made)
    _ (rw (marked_places l.places s.horizontal s.begin s.number a.picture.now l.odd l.even (omega arith)) at put.ensures.told) _
    (c.step.ensures.placed ∙ places_stepped l.places s r.0 r.1)

pub returns : goal.returns
returns g c =
    let a = c.args in
    let l = c.loop-k in
    let w = l.invariant in
    let n = places_length l.places in
    record {
      reached =
          record {
            full =
                record {
                  few = omega (arith, n, w.sided.long, w.fine.few);
                  small = small (channels a.list.now) a.steps.now a.picture.now _ _ _ _ _ l.k w;
                  laid = w.laid;
                  filled = sum_total w.cs _ w.sided ∙ w.same;
                };
            so = running_all (channels a.list.now) a.steps.now a.picture.now _ _ _ _ _ l.k (omega arith) w;
          };
      told = told_all (channels a.list.now) a.steps.now a.picture.now g.M.Marking.marks _ _ _ l.outside l.k (omega arith) w;
    }
