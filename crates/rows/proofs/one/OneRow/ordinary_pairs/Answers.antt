-- `ordinary_pairs` meets its contract. The loop's invariant: the ordinary pairs up to i are made (`Ordinary` of the crate line). A turn adds one
-- (`row_ordinary` of proofs/Row.antt). The measure is the pairs that are left. Assumes nothing.
use mathlib.Core.Path.{◌≡◌, refl, ◌∙◌}
use Prim.Native.Nat.{◌+◌}
use native.Mathlib.Omega.{arith}
use borrow.Author.Rules.{rules}
use mir.Facts.{to_z-of_z}
use lib.IntN.{pos}
use lib.ListN.{length, get_or}
use Rattle.arith32.proofs.Whole.{back32}
use Rattle.line.proofs.Pairs.{join}
use Rattle.rows.proofs.Row.{row_ordinary}
use Rattle.rows.proofs.one.OneRow.ordinary_pairs.Goals as goal

pub loop-i-preserved : goal.loop-i-preserved
loop-i-preserved c =
    let pair = c.unsqueeze-first in
    let a = c.args in
    let s = a.self.now.squeezed in
    let low = a.self.now.low in
    let i = c.loop-i.i in
    let l = c.loop-i.invariant.0.long in
    let b1 = back32 (get_or s.avg.now i (pos 0)) (search rules) in
    let b2 = back32 (get_or s.res.now i (pos 0)) (search rules) in
    let b3 = back32 (get_or s.avg.now (i + 1) (pos 0)) (search rules) in
    let z : 0 + i ≡ i = omega arith in (
      join low (omega arith) c.loop-i.invariant.0
          (rw z
          (row_ordinary (length s.avg.now) (length s.res.now) s.avg.now s.res.now c.loop-i.out (get_or s.avg.now (i + 1) (pos 0)) _ _ _ i
          (omega arith) low (omega arith)
          (back32 pair.result.first (search rules) ∙ rw (b1, b2, b3) at pair.ensures.0)
          (back32 pair.result.second (search rules) ∙ rw (b1, b2, b3) at pair.ensures.1)
          refl)),
      omega arith,
    )

pub returns : goal.returns
returns c =
    let a = c.args in
    let e : c.loop-i.i ≡ a.to = omega arith in
    rw (e, to_z-of_z c.ranges.prior) at c.loop-i.invariant.0
