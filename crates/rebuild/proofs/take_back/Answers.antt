-- `take_back` meets its contract: the range made, marked and closed, and what it tells. Assumes nothing.
use mathlib.Core.Path.{sym}
use native.Mathlib.Omega.{arith}
use Rattle.places.proofs.Arrays.{places_length, places_at}
use Rattle.places.proofs.Steps.{residuals_inside}
use Rattle.rebuild.proofs.take_back.Goals as goal

pub close-requires : goal.close-requires
close-requires g c =
    let p = c.args.places.now in
    let n = places_length p in
    let f = c.requires in
    let r = residuals_inside p.count c.args.step (omega (arith, f.inside)) in
    let e = c.residuals_at.ensures in
    (omega arith, omega (arith, f.room))

pub returns : goal.returns
returns g c =
    let p = c.args.places.now in
    let n = places_length p in
    let e = c.make_range-outside.ensures in (
      record {
        marks = c.mark.new.self;
        p = p;
        homes_are = λ j h. sym (places_at p j (omega arith));
        ranged = e.0;
        marked = rw c.end.ensures at c.mark.ensures;
        closed = rw (n, ← c.residuals_at.ensures) c.close.ensures;
      },
      e.1,
    )
