-- `sides_fit` meets its contract: not if a side is too large, else by the sums, which then fit. Assumes nothing.
use mathlib.Core.Path.{◌≡◌, sym, ◌∙◌}
use mathlib.Core.Bool.{Bool, true, false, ◌&&◌}
use Prim.Native.Nat.{◌≤◌}
use native.Mathlib.Omega.{arith}
use borrow.Author.Tests.{leb-true}
use lib.Dec.{leb}
use Rattle.numbers.specs.Numbers.{max_side}
use Rattle.tile.specs.declared.Sides.{Sides}
use Rattle.tile.specs.Call.{along, sides_small, sides_fit}
use Rattle.line.proofs.Into.{and_true}
use Rattle.tile.proofs.sides_fit.Goals as goal
use Rattle.tile.proofs.sides_fit.Lts as Lts
use Rattle.tile.proofs.sides_fit.Reads as reads
use Rattle.tile.proofs.sides_fit.Tie as tie

abbrev Else-not-is_small : Type 0
Else-not-is_small = Lts.Else1 tie.the-claims reads.Pre reads.Post

abbrev After-is_small-3 : Type 0
After-is_small-3 = Lts.After-is_small3 tie.the-claims reads.Pre reads.Post

-- a small rectangle's side along the squeeze
along-small : (h : Bool) (s : Sides) → sides_small s ≡ true → along h s ≤ max_side
unfolding sides_small
along-small true s e = leb-true s.width max_side (and_true (leb s.width max_side) (leb s.height max_side) e).0
along-small false s e = leb-true s.height max_side (and_true (leb s.width max_side) (leb s.height max_side) e).1

-- what the three calls say together
small : (c : After-is_small-3) → let g = c.args in
    (c.is_small.result && (c.is_small-2.result && c.is_small-3.result))
    ≡ (sides_small g.a && (sides_small g.r && sides_small g.o))
small c = rw (c.is_small.ensures, c.is_small-2.ensures, c.is_small-3.ensures)

too_large : (c : goal.Then-not-is_small) → let g = c.args in (sides_small g.a && (sides_small g.r && sides_small g.o)) ≡ false
too_large c = sym (small c.before) ∙ c.if-not-is_small.true

all_small : (c : Else-not-is_small) → let g = c.args in (sides_small g.a && (sides_small g.r && sides_small g.o)) ≡ true
all_small c = sym (small c.before) ∙ c.if-not-is_small.false

-- the sides that are summed
average-small : (c : goal.After-across-crossing) → c.along-m.result ≤ max_side
average-small c =
    let g = c.args in
    rw c.along-m.ensures
    (along-small g.horizontal g.a (and_true (sides_small g.a) (sides_small g.r && sides_small g.o) (all_small c.before.before.before)).0)

residual-small : (c : goal.After-across-crossing) → c.along-n.result ≤ max_side
residual-small c =
    let g = c.args in
    rw c.along-n.ensures
    (along-small g.horizontal g.r
    (and_true (sides_small g.r) (sides_small g.o) (and_true (sides_small g.a) (sides_small g.r && sides_small g.o) (all_small c.before.before.before)).1).0)

pub returns-then-not-is_small : goal.returns-then-not-is_small
unfolding sides_fit
returns-then-not-is_small c = rw (too_large c)

pub overflow_add-result : goal.overflow_add-result
overflow_add-result c = omega (arith, residual-small c)

pub overflow_add-result-2 : goal.overflow_add-result-2
overflow_add-result-2 c = omega (arith, residual-small c.before, average-small c.before)

pub returns : goal.returns
unfolding sides_fit
returns c =
    let m = c.along-m in
    let n = c.along-n in
    let q = c.across-crossing in
    rw (all_small c.before.before.before.before.before.before, ← m.ensures, ← n.ensures, ← q.ensures, ← c.along.ensures, ← c.across.ensures, ← c.across-2.ensures)
