-- `run` meets its contract: the two ends (proofs/Ends.antt) of the steps taken back, each at the places before it (proofs/StepsBack.antt). Assumes
-- nothing.
use mathlib.Core.Path.{◌≡◌, ap, ◌∙◌}
use mathlib.Core.Bool.{Bool, ◌&&◌}
use Prim.Native.Nat.{◌+◌, ◌-◌}
use native.Mathlib.Omega.{arith}
use Rattle.rebuild.proofs.Firsts.{steps_fit}
use Rattle.rebuild.proofs.StepsBack.{fits_here, back_here}
use Rattle.rebuild.proofs.Ends.{back_none, settle_fits, settled_is}
use Rattle.rebuild.proofs.Marks.{run_none, run_more, run_whole}
use Rattle.rebuild.proofs.run.Goals as goal

pub take_steps-requires : goal.take_steps-requires
take_steps-requires g c =
    let a = c.args in
    steps_fit a.list.now a.steps.now a.pyramid.now c.requires.0 _ (omega (arith, c.len-count.ensures))

pub loop-m-init : goal.loop-m-init
loop-m-init g c =
    let a = c.args in
    let p = c.requires in
    let n = c.len-count.ensures in (
      rw n
          (back_none a.list.now a.steps.now a.pyramid.now p.0 c.take_steps.new.places c.lay.new.self (rw n at c.take_steps.ensures) c.lay.ensures a.picture.now a.work.now p.1 p.2),
      c.take_steps.ensures,
      rw n (run_none a.list.now a.steps.now a.pyramid.now g.M.Marking.marks),
    )

pub take_steps-requires-in-loop-m : goal.take_steps-requires-in-loop-m
take_steps-requires-in-loop-m g c =
    let a = c.args in
    steps_fit a.list.now a.steps.now a.pyramid.now c.requires.0 (c.loop-m.m - 1) (omega (arith, c.len-count.ensures))

pub take_back-outside-requires : goal.take_back-outside-requires
take_back-outside-requires g c =
    let a = c.args in
    let w = c.loop-m in
    let z : w.m - 1 + 1 ≡ w.m = omega arith in
    fits_here a.list.now a.steps.now a.pyramid.now c.requires.0 (w.m - 1) (omega (arith, c.len-count.ensures)) w.sources w.picture w.work (rw z w.invariant.0) _ c.step.ensures _
    c.take_steps-in-loop-m.ensures

pub loop-m-preserved : goal.loop-m-preserved
loop-m-preserved g c =
    let a = c.args in
    let w = c.loop-m in
    let z : w.m - 1 + 1 ≡ w.m = omega arith in
    let k = c.take_back-outside.auto in
    let e = c.take_back-outside.ensures in (
      back_here a.list.now a.steps.now a.pyramid.now c.requires.0 (w.m - 1) (omega (arith, c.len-count.ensures)) w.sources w.picture w.work (rw z w.invariant.0) _ c.step.ensures _
          c.take_steps-in-loop-m.ensures _ _ _ e.0 k.picture k.work,
      c.take_steps-in-loop-m.ensures,
      run_more a.list.now a.steps.now a.pyramid.now c.requires.0 (w.m - 1) (omega (arith, c.len-count.ensures)) w.sources w.picture w.work (rw z w.invariant.0)
          g.M.Marking.marks w.outside _ c.step.ensures _ c.take_steps-in-loop-m.ensures (rw z w.invariant.2) e.1,
    )

pub settle-requires : goal.settle-requires
settle-requires g c =
    let a = c.args in
    let i = c.loop-m.invariant in
    let z : c.loop-m.m ≡ 0 = omega arith in
    settle_fits a.list.now a.steps.now a.pyramid.now c.requires.0 _ (rw z at i.1) _ _ _ (rw z at i.0)

pub returns : goal.returns
returns g c =
    let a = c.args in
    let i = c.loop-m.invariant in
    let z : c.loop-m.m ≡ 0 = omega arith in (
      settled_is a.list.now a.steps.now a.pyramid.now c.requires.0 _ (rw z at i.1) _ _ _ (rw z at i.0) _ c.settle.auto.picture c.settle.ensures,
      rw z at i.2 ∙ ap (λ (b : Bool). g.M.Marking.marks && b) (run_whole a.list.now a.steps.now a.pyramid.now),
    )
