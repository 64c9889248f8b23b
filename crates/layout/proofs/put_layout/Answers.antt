-- `put_layout` meets its contract: each row over the front of its slice (proofs/Outcomes.antt). Assumes nothing.
use Rattle.std.proofs.Common.{ℕ, List, ◌++◌, drop, ap, ◌∙◌}
use native.Mathlib.Omega.{arith}
use borrow.Author.Rules.{rules}
use lib.ListN.{length-take}
use Rattle.layout.specs.Layout as Layout
use Rattle.layout.proofs.Outcomes.{fit_each, coarse_few, counts_are}
use Rattle.layout.proofs.put_layout.Goals as goal

pub overflow_cast-numbers-3 : goal.overflow_cast-numbers-3
overflow_cast-numbers-3 c =
    let few = coarse_few c.args.version c.args.plan.now.steps c.args.plan.now.reached c.args.coarse c.requires.0 in
    record { fits = omega arith }

pub slice_bounds-copy_from_slice-end : goal.slice_bounds-copy_from_slice-end
unfolding Layout.counts_of
slice_bounds-copy_from_slice-end c = (fit_each _ _ c.requires.1).counts

pub slice_bounds-copy_from_slice-end-2 : goal.slice_bounds-copy_from_slice-end-2
unfolding Layout.counts_of
slice_bounds-copy_from_slice-end-2 c =
    let room = (fit_each _ _ c.requires.1).counts in
    search rules

pub copy_from_slice-requires : goal.copy_from_slice-requires
unfolding Layout.counts_of
copy_from_slice-requires c =
    let room = (fit_each _ _ c.requires.1).counts in
    simp length-take (omega arith)

pub put_steps-requires : goal.put_steps-requires
put_steps-requires c = (fit_each _ _ c.requires.1).steps

pub put_channels-requires : goal.put_channels-requires
put_channels-requires c = (fit_each _ _ c.requires.1).channels

pub put_origins-requires : goal.put_origins-requires
put_origins-requires c = (fit_each _ _ c.requires.1).origins

pub returns : goal.returns
returns c =
    let out = c.args.counts.now in
    let counted = counts_are c.args.version c.args.plan.now.steps c.args.plan.now.reached c.args.coarse c.requires.0 _ _ c.len.ensures c.len-2.ensures in
    let put = ap (λ (xs : List ℕ). xs ++ drop 4 out) c.copy_from_slice.ensures.after ∙ ap (λ (xs : List ℕ). Layout.over xs out) counted in
    (put, c.put_steps.ensures, c.put_channels.ensures, c.put_origins.ensures)
