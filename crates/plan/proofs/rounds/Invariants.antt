-- `rounds` meets its contract: the turns that are left fit and give the whole plan (`Left` of proofs/Appended.antt). A turn lowers the sum of the
-- sides. Assumes nothing.
use Prim.Native.Nat.{◌+◌, ◌≤◌}
use Rattle.plan.specs.Adding.{appended}
use Rattle.plan.specs.Default as Default
use Rattle.plan.proofs.Appended.{Left}
use Rattle.plan.proofs.rounds.Given as goal

abbrev pub invariant-loop-width : goal.invariant-loop-width
invariant-loop-width l =
    (1 ≤ l.stop) × Left l.stop l.others.begin l.others.number (appended l.initial.steps (Default.rounds (l.initial.width + l.initial.height) l.stop l.others.begin l.others.number l.initial.width l.initial.height)) l.steps l.width l.height

abbrev pub decreases-loop-width : goal.decreases-loop-width
decreases-loop-width l = l.width + l.height
