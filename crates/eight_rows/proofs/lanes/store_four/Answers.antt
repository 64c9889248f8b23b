-- `store_four` meets its contract: eight turns, each lane's samples inside where the last lane's are (proofs/Strides.antt), and past the lanes that
-- are there (proofs/Fours.antt). Assumes nothing.
use mathlib.Core.Path.{◌≡◌, refl, ◌∙◌}
use native.Mathlib.Omega.{arith}
use borrow.Author.Rules.{rules}
use lib.IntN.{pos}
use lib.ListN.{get_or, length-set}
use Rattle.arith32.proofs.Whole.{back32}
use Rattle.eight_rows.proofs.Fours.{fours_none, fours_more, fours_all}
use Rattle.eight_rows.proofs.lanes.store_four.Goals as goal

pub loop-k-init : goal.loop-k-init
loop-k-init c =
    let a = c.args in
    (fours_none a.s.now a.at a.stride a.a a.b a.c a.d, refl, omega arith)

pub loop-k-preserved : goal.loop-k-preserved
loop-k-preserved c =
    let a = c.args in
    let k = c.loop-k.k in
    let b1 = back32 (get_or a.a k (pos 0)) (search rules) in
    let b2 = back32 (get_or a.b k (pos 0)) (search rules) in
    let b3 = back32 (get_or a.c k (pos 0)) (search rules) in
    let b4 = back32 (get_or a.d k (pos 0)) (search rules) in (
      rw (b1, b2, b3, b4, c.loop-k.invariant.0) (fours_more a.s.now a.at a.stride a.a a.b a.c a.d k c.requires.1),
      simp length-set c.loop-k.invariant.1,
      omega arith,
    )

pub returns : goal.returns
returns c =
    let a = c.args in
    let e : c.loop-k.k ≡ 8 = omega arith in
    rw e at c.loop-k.invariant.0 ∙ fours_all a.s.now a.at a.stride a.a a.b a.c a.d
