-- `squeeze_step` meets its contract. The loop's invariant: the channels of the range before k are squeezed (`Squeezed` of specs/Standing.antt), and the
-- mark is theirs. Assumes nothing.
use mathlib.Core.Path.{◌≡◌}
use mathlib.Core.Bool.{◌&&◌}
use Prim.Native.Nat.{◌-◌}
use Rattle.places.specs.Places.{place_at}
use Rattle.write.specs.Standing.{places_marked, Squeezed}
use Rattle.write.proofs.squeeze_step.Given as goal

abbrev pub invariant-loop-k : goal.invariant-loop-k
invariant-loop-k g l =
    record {
      made : Squeezed l.horizontal (place_at l.places) l.fn.step.begin l.k l.picture l.initial.odd l.initial.even l.odd l.even;
      told : l.outside ≡ (g.M.Marking.marks && places_marked l.horizontal (place_at l.places) l.fn.step.begin (l.k - l.fn.step.begin) l.picture l.initial.odd l.initial.even);
    }
