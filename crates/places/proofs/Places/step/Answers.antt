-- `step` meets its contract: where the step fits, room is made and the range is split; else nothing changes. Assumes nothing.
use mathlib.Core.Path.{refl, sym, ◌∙◌}
use Prim.Native.Nat.{◌+◌}
use native.Mathlib.Omega.{arith}
use borrow.Author.Rules.{rules}
use Rattle.places.specs.declared.Places.{Places}
use Rattle.places.proofs.Steps.{residuals_inside}
use Rattle.places.proofs.Moves.{spread_copied}
use Rattle.places.proofs.Placed.{fits_facts, refused, stepped}
use Rattle.places.proofs.Places.step.Goals as goal

pub returns-then-not-fits : goal.returns-then-not-fits
returns-then-not-fits c =
    let r = refused c.args.step c.args.self.now (sym c.fits.ensures ∙ c.if-not-fits.true) in
    record { counted = r.counted; placed = r.placed; kept = r.kept }

pub returns : goal.returns
returns c =
    let a = c.args in
    let p = a.self.now in
    let t = sym c.fits.ensures ∙ c.if-not-fits.false in
    let e = c.residuals_at-at.ensures in
    let k = c.copy_within.ensures.by_index in
    let i = residuals_inside p.count a.step (fits_facts p.count a.step t).0 in
    let q : Places = record { count = p.count + a.step.number; places = c.split.new.places } in
    let r = stepped a.step p q c.copy_within.new.self t (search rules) refl
    (rw e at (spread_copied p.count c.residuals_at-at.result a.step.number p.places c.copy_within.new.self (omega arith) k.0 k.1 k.2))
    (rw e at c.split.ensures) in
    record { counted = r.counted; placed = r.placed; kept = r.kept }
