-- `ordinary_pairs` meets its contract: a turn adds eight pairs, and those that are left come after it. Assumes nothing.
use mathlib.Core.Path.{◌≡◌}
use Prim.Native.Nat.{◌+◌, ◌-◌, ◌*◌, ◌/◌}
use native.Mathlib.Omega.{arith}
use Rattle.line.proofs.Pairs.{join}
use Rattle.eight_rows.proofs.EightRows.ordinary_pairs.Goals as goal

pub loop-k-preserved : goal.loop-k-preserved
loop-k-preserved c =
    let i = 8 * c.loop-k.k in
    let z : 0 + i ≡ i = omega arith in
    let n : 8 * (c.loop-k.k + 1) ≡ i + 8 = omega arith in
    rw n (join c.args.self.now.low (omega arith) c.loop-k.invariant (rw z c.part_pairs-last.ensures))

pub returns : goal.returns
returns c =
    let a = c.args in
    let i = a.to / 8 * 8 in
    let done : 8 * c.loop-k.k ≡ i = omega arith in
    let z : 0 + i ≡ i = omega arith in
    let e : i + (a.to - i) ≡ a.to = omega arith in
    rw (← e) (join c.args.self.now.low (omega arith) (rw done at c.loop-k.invariant) (rw z c.single_pairs.ensures))
