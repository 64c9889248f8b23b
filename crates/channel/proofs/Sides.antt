-- A channel whose sides fit (`sides_fit`), as two facts. Assumes nothing.
use mathlib.Core.Path.{◌≡◌}
use mathlib.Core.Bool.{true, and-eq-true_iff}
use Prim.Native.Nat.{◌≤◌}
use lib.Dec.{leb}
use borrow.Author.Tests.{leb-true, le-leb}
use Rattle.numbers.specs.Numbers.{max_side}
use Rattle.channel.specs.declared.Channel.{Channel}
use Rattle.channel.specs.Channel.{sides_fit}

pub fit_sides : (c : Channel) → sides_fit c ≡ true → (c.width ≤ max_side) × (c.height ≤ max_side)
unfolding sides_fit
fit_sides c e =
    let b = (and-eq-true_iff (leb c.width max_side) (leb c.height max_side)).0 e in
    (leb-true _ _ b.0, leb-true _ _ b.1)

pub sides_fit_lem : (c : Channel) → c.width ≤ max_side → c.height ≤ max_side → sides_fit c ≡ true
unfolding sides_fit
sides_fit_lem c w h = rw (le-leb c.width max_side w, le-leb c.height max_side h)
