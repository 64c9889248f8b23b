-- `store_block` meets its contract: eight turns of a copy where the slice is long enough (proofs/Copies.antt). Assumes nothing.
use mathlib.Core.Path.{refl}
use native.Mathlib.Omega.{arith}
use borrow.Author.Rules.{rules}
use lib.IntN.{pos}
use lib.ListN.{get_or, length-set}
use lib.Seq.{paste-zero}
use Rattle.arith32.proofs.Whole.{back32}
use Rattle.probe.proofs.Copies.{store_more, store_all}
use Rattle.probe.proofs.store_block.Goals as goal

pub loop-i-init : goal.loop-i-init
loop-i-init c =
    let a = c.args in
    (paste-zero a.s.now a.at a.b, refl, search rules, omega arith, omega arith)

pub loop-i-preserved : goal.loop-i-preserved
loop-i-preserved c =
    let a = c.args in
    let i = c.loop-i.i in
    let x = back32 (get_or a.b i (pos 0)) (search rules) in (
      rw x (store_more c.loop-i.s a.s.now a.b a.at i c.loop-i.invariant.0 c.loop-i.invariant.2 (omega arith) (omega arith)),
      simp length-set c.loop-i.invariant.1,
      c.loop-i.invariant.2,
      omega arith,
      omega arith,
    )

pub returns-after-loop-i : goal.returns-after-loop-i
returns-after-loop-i c =
    let a = c.args in
    store_all c.loop-i.s a.s.now a.b a.at c.loop-i.i c.loop-i.invariant.0 c.loop-i.invariant.2 (omega arith) (omega arith)
