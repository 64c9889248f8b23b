-- The parts of a step on the array of places (specs/Moves.antt), as the code makes them. Assumes nothing.
use mathlib.Core.Path.{◌≡◌, ap, ◌∙◌}
use mathlib.Core.List.{List}
use Prim.Native.Nat.{ℕ, ◌+◌, ◌-◌, ◌≤◌}
use native.Mathlib.Omega.{arith}
use Rattle.std.specs.List.{CopiedTo, SameBelow, SameFrom}
use Rattle.places.specs.declared.Place.{Place}
use Rattle.places.specs.Places.{none, place_of}
use Rattle.places.specs.Moves.{Spread}

-- ---- room for the residuals: what lies from `at` on is copied behind them
pub spread_copied : (count at number : ℕ) (ps qs : List Place) → at ≤ count
    → CopiedTo ps qs at (at + number) (count - at)
    → SameBelow ps qs (at + number)
    → SameFrom ps qs (at + number + (count - at))
    → Spread count at number (place_of ps) (place_of qs)
spread_copied count at number ps qs h moved below from =
    record {
      front = λ k l. below k none (omega arith);
      moved = λ k l b.
          let z : at + (k + number - (at + number)) ≡ k = omega arith in
          moved (k + number) none (omega arith) (omega arith) ∙ ap (place_of ps) z;
      back = λ k l. from k none (omega arith);
    }
