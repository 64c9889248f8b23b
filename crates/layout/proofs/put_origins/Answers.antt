-- `put_origins` meets its contract: each entry is the origin of its index (proofs/Entries.antt). Assumes nothing.
use Rattle.std.proofs.Common.{◌≡◌, [], ◌∷◌, ◌-◌, ◌∙◌, ap, get_or, rules}
use native.Mathlib.Omega.{arith}
use Rattle.list.specs.Tables.{table}
use Rattle.list.specs.Lists as Lists
use Rattle.list.specs.Lists.{origins}
use Rattle.list.proofs.Channels.{origins_length}
use Rattle.layout.specs.Layout.{over}
use Rattle.layout.proofs.Entries.{entries_all, joined_ones}
use Rattle.layout.proofs.put_origins.Goals as goal

pub put_entries-requires-clause-room : goal.put_entries-requires-clause-room
put_entries-requires-clause-room c = omega (arith, c.len.ensures, c.requires, origins_length c.args.list.now)

pub put_entries-requires-clause-asked : goal.put_entries-requires-clause-asked
put_entries-requires-clause-asked c = λ k h _ _ _ _ _. omega arith

pub returns : goal.returns
unfolding Lists.origins
returns c =
    let l = c.args.list.now in
    let z : c.len.result - 0 ≡ c.len.result = omega arith in
    entries_all (λ o. o ∷ []) _ (λ k. get_or l.origins k 0) _ _ _ _ (ap (table (λ k. get_or l.origins k 0) 0) (z ∙ c.len.ensures)) (λ k x h p. search rules) c.put_entries.ensures
    ∙ ap (λ xs. over xs c.args.out.now) (joined_ones (origins l))
