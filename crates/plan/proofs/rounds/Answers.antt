-- `rounds` meets its contract: the turns that are left fit and give the whole plan (`Left` of proofs/Appended.antt). A turn lowers the sum of the
-- sides. Assumes nothing.
use Rattle.plan.proofs.Appended.{left_across, left_down, left_more, left_none}
use Rattle.plan.proofs.rounds.Goals as goal

pub push_if-requires : goal.push_if-requires
push_if-requires c =
    let i = c.loop-width.invariant in
    rw c.step.ensures (left_across _ _ _ i.0 _ _ _ _ i.1)

pub push_if-requires-in-loop-width : goal.push_if-requires-in-loop-width
push_if-requires-in-loop-width c =
    let i = c.loop-width.invariant in
    rw c.step-in-loop-width.ensures (left_down _ _ _ i.0 _ _ _ _ i.1 _ (rw c.step.ensures at c.push_if.ensures))

pub loop-width-preserved : goal.loop-width-preserved
loop-width-preserved c =
    let i = c.loop-width.invariant in
    (i.0, left_more _ _ _ i.0 _ _ _ _ i.1 _ (rw c.step.ensures at c.push_if.ensures) _ _ _ (rw c.step-in-loop-width.ensures at c.push_if-in-loop-width.ensures) c.lowered-width.ensures c.lowered-height.ensures)

pub returns : goal.returns
returns c = let i = c.loop-width.invariant in left_none _ _ _ i.0 _ _ _ _ i.1 c.loop-width-test.false
