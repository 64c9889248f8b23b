-- `make_range` meets its contract: channel by channel (`Taken` of proofs/Ranges.antt, `range_more` of proofs/Marks.antt). Assumes nothing.
use mathlib.Core.Path.{◌≡◌, sym, ap, ◌∙◌}
use Prim.Native.Nat.{ℕ, ◌+◌}
use native.Mathlib.Omega.{arith}
use lib.ListN.{length}
use Rattle.range.proofs.Told.{nothing}
use Rattle.list.specs.declared.Step.{Step}
use Rattle.places.specs.declared.Places.{Places}
use Rattle.places.specs.Places.{residuals_at, places_in}
use Rattle.places.proofs.Arrays.{places_length, places_at}
use Rattle.rebuild.proofs.Ranges.{taken_none, turn_inside, put_fits, taken_more, taken_all}
use Rattle.rebuild.proofs.Marks.{range_more}
use Rattle.rebuild.proofs.make_range.Goals as goal

-- the residuals start where they do in the list of places
rests : (p : Places) (s : Step) (r : ℕ) → r ≡ residuals_at p.count s → r ≡ residuals_at (length (places_in p)) s
rests p s r e = e ∙ ap (λ (n : ℕ). residuals_at n s) (sym (places_length p))

pub loop-i-init : goal.loop-i-init
loop-i-init g c = (taken_none _ _ _ _ _ _ c.requires, nothing g.M.Marking.marks)

pub overflow_add-res : goal.overflow_add-res
overflow_add-res g c =
    let i = turn_inside _ _ _ _ _ _ c.requires c.loop-i.i c.loop-i-test.true _ _ c.loop-i.invariant.0 in
    let r = rests c.args.places.now c.args.step _ c.residuals_at-residuals.ensures in
    record { fits = omega arith }

pub offset_bounds-sources-residuals : goal.offset_bounds-sources-residuals
offset_bounds-sources-residuals g c =
    let i = turn_inside _ _ _ _ _ _ c.requires c.loop-i.i c.loop-i-test.true _ _ c.loop-i.invariant.0 in
    let r = rests c.args.places.now c.args.step _ c.residuals_at-residuals.ensures in
    record { fits = omega arith }

pub bounds-sources-residuals : goal.bounds-sources-residuals
bounds-sources-residuals g c =
    let i = turn_inside _ _ _ _ _ _ c.requires c.loop-i.i c.loop-i-test.true _ _ c.loop-i.invariant.0 in
    let r = rests c.args.places.now c.args.step _ c.residuals_at-residuals.ensures in
    omega arith

pub make_channel-outside-requires : goal.make_channel-outside-requires
make_channel-outside-requires g c =
    let p = c.args.places.now in
    let n = places_length p in
    let f = c.requires in
    put_fits _ _ _ _ _ _ f c.loop-i.i c.loop-i-test.true _ _ c.loop-i.invariant.0 _ (sym (places_at p (c.args.step.begin + c.loop-i.i) (omega (arith, f.inside)))) _
    (rests p c.args.step _ c.residuals_at-residuals.ensures)

pub loop-i-preserved : goal.loop-i-preserved
loop-i-preserved g c =
    let p = c.args.places.now in
    let n = places_length p in
    let f = c.requires in
    let i = c.loop-i.i in
    let v = c.loop-i.invariant in
    let e = c.make_channel-outside.ensures in
    let at = sym (places_at p (c.args.step.begin + i) (omega (arith, f.inside))) in
    let r = rests p c.args.step _ c.residuals_at-residuals.ensures in (
      taken_more _ _ _ _ _ _ f i c.loop-i-test.true _ _ v.0 _ at _ r _ _ e.0,
      range_more _ _ _ _ _ _ f i c.loop-i-test.true _ _ v.0 g.M.Marking.marks c.loop-i.outside _ at _ r v.1 e.1,
    )

pub returns : goal.returns
returns g c =
    let z : c.loop-i.i ≡ c.args.step.number = omega arith in
    (taken_all _ _ _ _ _ _ c.requires c.loop-i.i _ _ (omega arith) (omega arith) c.loop-i.invariant.0, rw z at c.loop-i.invariant.1)
