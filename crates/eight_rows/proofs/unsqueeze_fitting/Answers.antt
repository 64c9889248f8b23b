-- `unsqueeze_fitting` meets its contract: the ordinary pairs and the rows' end put together, or, without a pair, the averages copied. Assumes nothing.
use mathlib.Core.Path.{◌≡◌, ◌∙◌}
use Prim.Native.Nat.{◌+◌, ◌*◌}
use native.Mathlib.Omega.{arith}
use Rattle.line.proofs.Pairs.{put_together, copied}
use Rattle.eight_rows.proofs.Strides.{lanes_at_lem, lanes_put_length, lanes_put_on}
use Rattle.eight_rows.proofs.Blocks.{block_before}
use Rattle.eight_rows.proofs.unsqueeze_fitting.Goals as goal

pub returns-then-s-eq0 : goal.returns-then-s-eq0
returns-then-s-eq0 c =
    let a = c.args in
    let own = c.averages-own in
    let l = lanes_put_length a.out.now 0 a.s.now.averages own.result in
    rw c.store_lanes.ensures
    (copied c.requires.0 c.if-s-eq0.true (omega arith)
    (λ k hk _.
    let z : a.s.now.averages + a.s.now.residuals ≡ a.s.now.averages = omega arith in
    let p : k * a.s.now.averages + 0 ≡ 0 + k * a.s.now.averages = omega arith in
    rw (z, p)
    (lanes_put_on a.out.now 0 a.s.now.averages own.result k c.requires.1 (omega arith) hk
    ∙ rw own.ensures (lanes_at_lem a.s.now.avg.now 0 a.s.now.averages k hk))))

pub returns : goal.returns
returns c =
    let a = c.args in
    put_together c.requires.0 c.requires.2
    (block_before a.s.now.averages a.s.now.residuals a.s.now.avg.now a.s.now.res.now a.s.now.next.now a.s.now.prev.now c.averages-own.result c.outer_lanes-prior.result
    c.averages-own.ensures c.outer_lanes-prior.ensures)
    c.ordinary_pairs-before.ensures
    c.last_lanes.ensures
