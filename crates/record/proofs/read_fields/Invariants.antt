-- `read_fields` meets its contract. The loop's invariant: the arrays hold the channels and steps read so far, and the fields that are left complete
-- the form (proofs/Held.antt). The measure is the number of bytes left. Assumes nothing.
use lib.ListN.{length}
use Rattle.record.proofs.Held.{Held}
use Rattle.record.proofs.read_fields.Given as goal

abbrev pub invariant-loop-rest : goal.invariant-loop-rest
invariant-loop-rest l = Held l.version l.bytes l.list l.steps l.metas l.rest

abbrev pub decreases-loop-rest : goal.decreases-loop-rest
decreases-loop-rest l = length l.rest
