-- The six samples of a pair (specs/Marks.antt): it is unmarked exactly if each lies inside the plain range. Assumes nothing.
use mathlib.Core.Path.{◌≡◌, refl}
use mathlib.Core.Bool.{false, ◌||◌}
use lib.IntN.{ℤ}
use Rattle.range.specs.Range.{outside}
use Rattle.range.proofs.Some.{left_false, right_false}
use Rattle.pair.specs.Marks.{any_outside}

pub record SixInside (a r n p x y : ℤ) : Type 0 where
  pub avg : outside a ≡ false
  pub res : outside r ≡ false
  pub next : outside n ≡ false
  pub prev : outside p ≡ false
  pub first : outside x ≡ false
  pub second : outside y ≡ false

pub six : (a r n p x y : ℤ) → any_outside a r n p x y ≡ false → SixInside a r n p x y
unfolding any_outside
six a r n p x y e =
    let e1 = right_false (outside a) (outside r || (outside n || (outside p || (outside x || outside y)))) e in
    let e2 = right_false (outside r) (outside n || (outside p || (outside x || outside y))) e1 in
    let e3 = right_false (outside n) (outside p || (outside x || outside y)) e2 in
    let e4 = right_false (outside p) (outside x || outside y) e3 in
    record {
      avg = left_false (outside a) (outside r || (outside n || (outside p || (outside x || outside y)))) e;
      res = left_false (outside r) (outside n || (outside p || (outside x || outside y))) e1;
      next = left_false (outside n) (outside p || (outside x || outside y)) e2;
      prev = left_false (outside p) (outside x || outside y) e3;
      first = left_false (outside x) (outside y) e4;
      second = right_false (outside x) (outside y) e4;
    }

pub none_of_six : (a r n p x y : ℤ) → SixInside a r n p x y → any_outside a r n p x y ≡ false
unfolding any_outside
none_of_six a r n p x y s = rw (s.avg, s.res, s.next, s.prev, s.first, s.second) refl
