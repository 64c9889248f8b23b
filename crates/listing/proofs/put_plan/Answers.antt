-- `put_plan` meets its contract: five parts, one after the other (proofs/Parts.antt). Assumes nothing.
use native.Mathlib.Omega.{arith}
use Rattle.plan.specs.Steps.{steps}
use Rattle.list.specs.Lists.{channels}
use Rattle.listing.proofs.Held.{channels_count, steps_count}
use Rattle.listing.proofs.Parts.{steps_counted, steps_listed, channels_counted, channels_listed, coarse_counted, plan_listed}
use Rattle.listing.proofs.put_plan.Goals as goal

pub put_numbered-requires : goal.put_numbered-requires
put_numbered-requires c =
    let p = c.args.plan.now in
    let n = steps_count p.steps _ c.len.ensures in
    (omega arith, rw n at (steps_counted (steps p.steps) (channels p.reached) c.args.coarse _ c.requires.2))

pub put_steps-requires : goal.put_steps-requires
put_steps-requires c =
    let p = c.args.plan.now in
    let n = steps_count p.steps _ c.len.ensures in
    steps_listed (steps p.steps) (channels p.reached) c.args.coarse _ c.requires.2 _ (rw (← n) at c.put_numbered.ensures)

pub put_numbered-requires-2 : goal.put_numbered-requires-2
put_numbered-requires-2 c =
    let p = c.args.plan.now in
    let n = steps_count p.steps _ c.len.ensures in
    let k = channels_count p.reached _ c.len-2.ensures in
    (omega arith, rw k at (channels_counted (steps p.steps) (channels p.reached) c.args.coarse _ c.requires.2 _ (rw (← n) at c.put_numbered.ensures) _ c.put_steps.ensures))

pub put_channels-requires : goal.put_channels-requires
put_channels-requires c =
    let p = c.args.plan.now in
    let n = steps_count p.steps _ c.len.ensures in
    let k = channels_count p.reached _ c.len-2.ensures in (
      c.requires.0,
      channels_listed (steps p.steps) (channels p.reached) c.args.coarse _ c.requires.2 _ (rw (← n) at c.put_numbered.ensures) _ c.put_steps.ensures
          _ (rw (← k) at c.put_numbered-2.ensures),
    )

pub put_numbered-requires-3 : goal.put_numbered-requires-3
put_numbered-requires-3 c =
    let p = c.args.plan.now in
    let n = steps_count p.steps _ c.len.ensures in
    let k = channels_count p.reached _ c.len-2.ensures in (
      omega (arith, c.requires.1),
      coarse_counted (steps p.steps) (channels p.reached) c.args.coarse _ c.requires.2 _ (rw (← n) at c.put_numbered.ensures) _ c.put_steps.ensures
          _ (rw (← k) at c.put_numbered-2.ensures) _ c.put_channels.ensures,
    )

pub returns : goal.returns
returns c =
    let p = c.args.plan.now in
    let n = steps_count p.steps _ c.len.ensures in
    let k = channels_count p.reached _ c.len-2.ensures in
    plan_listed (steps p.steps) (channels p.reached) c.args.coarse _ c.requires.2 _ (rw (← n) at c.put_numbered.ensures) _ c.put_steps.ensures
    _ (rw (← k) at c.put_numbered-2.ensures) _ c.put_channels.ensures _ c.put_numbered-3.ensures
