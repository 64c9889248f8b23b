-- `put_entries` meets its contract. The loop's invariant: the numbers of the entries so far are over the slice's front (proofs/Entries.antt). Assumes
-- nothing.
use Rattle.std.proofs.Common.{◌≡◌, ℕ, ◌+◌, ◌*◌, ◌≤◌, length, ◌∙◌}
use native.Mathlib.Omega.{arith}
use lib.ListN.{length-take, length-drop}
use Rattle.layout.proofs.Entries.{next_fits, putting_none, putting_more}
use Rattle.layout.proofs.put_entries.Goals as goal

pub loop-k-init : goal.loop-k-init
loop-k-init g c = putting_none g.T.Numbers.numbers_of (goal.F-post g c.args.entry) g.row.N c.args.out.now

pub loop-k-preserved : goal.loop-k-preserved
loop-k-preserved g c =
    let v = c.copy_from_slice.ensures.after in
    let room : g.row.N * c.loop-k.k + g.row.N ≤ length c.args.out.now = next_fits g.row.N c.loop-k.k c.args.count (length c.args.out.now) (omega arith) (omega (arith, c.requires.room)) in
    let long : length c.copy_from_slice.new.self ≡ g.row.N = omega (arith, c.copy_from_slice.ensures.len, length-take {A = ℕ}, length-drop {A = ℕ}) in
    putting_more g.T.Numbers.numbers_of (goal.F-post g c.args.entry) g.row.N c.loop-k.k c.args.out.now c.loop-k.out c.loop-k.invariant c.entry.result c.entry.ensures
    _ (v ∙ c.numbers.ensures) long room

pub returns : goal.returns
returns g c =
    let k : c.loop-k.k ≡ c.args.count = omega arith in
    rw k at c.loop-k.invariant.so
