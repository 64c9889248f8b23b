-- `put_steps` meets its contract. The loop's invariant: the lines so far stand on the page (proofs/Puts.antt). Assumes nothing.
use mathlib.Core.Path.{ap}
use Rattle.plan.specs.Steps.{step_at}
use Rattle.record.specs.Bytes.{joined}
use Rattle.listing.specs.Text.{step_line}
use Rattle.listing.proofs.Puts.{lines_more, line_fits, lines_all}
use Rattle.listing.proofs.Held.{steps_are}
use Rattle.listing.proofs.put_steps.Goals as goal

pub put_step-requires : goal.put_step-requires
put_step-requires c =
    let l = c.args.steps.now in
    let e = ap step_line c.step.ensures in
    let all = rw (← steps_are l _ c.len-k-end.ensures) at c.requires in
    let room = line_fits step_line (step_at l) _ _ _ _ c.loop-k.invariant c.loop-k-test.true all in
    rw (← e) at room

pub loop-k-preserved : goal.loop-k-preserved
loop-k-preserved c =
    let l = c.args.steps.now in
    let e = ap step_line c.step.ensures in
    lines_more step_line (step_at l) _ _ _ _ c.loop-k.invariant c.loop-k-test.true _ (rw e at c.put_step.ensures)

pub returns : goal.returns
returns c =
    let l = c.args.steps.now in
    let all = lines_all step_line (step_at l) _ _ _ _ c.loop-k.invariant c.loop-k-test.false in
    rw (ap (joined step_line) (steps_are l _ c.len-k-end.ensures)) at all
