-- `part` meets its contract: a row a turn (proofs/Taken.antt). Assumes nothing.
use native.Mathlib.Omega.{arith}
use Rattle.eight_rows.proofs.Taken.{taken_more, taken_all}
use Rattle.eight_rows.proofs.EightRows.part.Goals as goal

pub loop-k-preserved : goal.loop-k-preserved
loop-k-preserved c =
    let put = c.store_lanes in
    let row = c.load_lanes-row in
    let a = c.args in
    let s = a.self.now.squeezed in
    rw put.ensures (taken_more s.res.now a.at s.residuals c.loop-k.part _ c.loop-k.k (omega arith) row.ensures c.loop-k.invariant)

pub returns : goal.returns
returns c =
    λ j hj.
    let a = c.args in
    let s = a.self.now.squeezed in
    taken_all s.res.now a.at s.residuals c.loop-k.part c.loop-k.k j (omega arith) hj c.loop-k.invariant
