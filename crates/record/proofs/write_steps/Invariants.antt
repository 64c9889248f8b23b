-- `write_steps` meets its contract. The loop's invariant: the fields so far are in the slice, and those that are left complete them
-- (proofs/Placed.antt). Assumes nothing.
use Prim.Native.Nat.{◌+◌, ◌*◌, ◌-◌}
use Rattle.plan.specs.Steps as S
use Rattle.plan.specs.Steps.{step_at}
use Rattle.record.specs.Bytes.{step_size, step_field, step_fields}
use Rattle.record.proofs.Placed.{Putting}
use Rattle.record.proofs.write_steps.Given as goal

abbrev pub invariant-loop-k : goal.invariant-loop-k
invariant-loop-k l = Putting step_field (step_at l.steps) l.k-end (step_fields (S.steps l.steps)) l.start l.initial.out l.out (l.start + step_size * l.k) l.k

abbrev pub decreases-loop-k : goal.decreases-loop-k
decreases-loop-k l = l.k-end - l.k
