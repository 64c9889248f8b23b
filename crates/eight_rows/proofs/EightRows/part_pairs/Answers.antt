-- `part_pairs` meets its contract: a turn adds four pairs, whose residuals are lanes of the part, and so of the rows. Assumes nothing.
use mathlib.Core.Path.{◌≡◌, ◌∙◌}
use Prim.Native.Nat.{◌+◌, ◌*◌}
use native.Mathlib.Omega.{arith}
use Rattle.line.proofs.Pairs.{join}
use Rattle.eight_rows.proofs.EightRows.part_pairs.Goals as goal

pub loop-j-preserved : goal.loop-j-preserved
loop-j-preserved c =
    let a = c.args in
    let s = a.self.now in
    let j = c.loop-j.j in
    let e : 4 * (j + 1) ≡ 4 * j + 4 = omega arith in
    rw e
    (join s.low (omega arith) c.loop-j.invariant
    (c.four_pairs-last.ensures s.squeezed.res.now
    (λ k hk. let z : a.i + (4 * j + k) ≡ a.i + 4 * j + k = omega arith in c.part-part.ensures (4 * j + k) (omega arith) ∙ rw z)))
