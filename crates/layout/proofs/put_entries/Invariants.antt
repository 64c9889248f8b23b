-- `put_entries` meets its contract. The loop's invariant: the numbers of the entries so far are over the slice's front (proofs/Entries.antt). Assumes
-- nothing.
use Rattle.layout.proofs.Entries.{Putting}
use Rattle.layout.proofs.put_entries.Given as goal

abbrev pub invariant-loop-k : goal.invariant-loop-k
invariant-loop-k g l = Putting g.T.Numbers.numbers_of (goal.F-post g l.entry) g.row.N l.k l.initial.out l.out
