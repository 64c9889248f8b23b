-- `write_steps` meets its contract. The loop's invariant: the fields so far are in the slice, and those that are left complete them
-- (proofs/Placed.antt). Assumes nothing.
use mathlib.Core.Path.{◌≡◌, ap, ◌∙◌}
use Prim.Native.Nat.{◌+◌}
use native.Mathlib.Omega.{arith}
use borrow.Author.Rules.{rules}
use lib.ListN.{length}
use Rattle.plan.specs.Steps.{step_at}
use Rattle.record.specs.Bytes.{step_size, joined, step_field}
use Rattle.record.proofs.Placed.{putting_none, putting_room, putting_more, steps_all, put_placed}
use Rattle.record.proofs.write_steps.Goals as goal

pub loop-k-init : goal.loop-k-init
loop-k-init c =
    let g = c.args in
    let z : g.start + 0 ≡ g.start = omega arith in
    rw z (putting_none step_field (step_at g.steps.now) _ _ _ _ (omega (arith, c.requires)) (ap (joined step_field) (steps_all g.steps.now c.len-k-end.result c.len-k-end.ensures)))

pub loop-k-preserved : goal.loop-k-preserved
loop-k-preserved c =
    let f = c.step_field-field.ensures ∙ ap step_field c.step.ensures in
    let n : length c.step_field-field.result ≡ step_size = search rules in
    let room = putting_room step_field (step_at c.args.steps.now) _ _ c.args.start _ c.requires _ _ _ c.loop-k.invariant c.loop-k-test.true _ f in
    putting_more step_field (step_at c.args.steps.now) _ _ c.args.start _ c.requires
    _ _ _ c.loop-k.invariant c.loop-k-test.true _ f _ _ (c.put_bytes.ensures ∙ put_placed _ _ _ room) (omega arith)
