-- `one_row` meets its contract: the ordinary pairs and the row's end put together, or, without a pair, the average copied. Assumes nothing.
use mathlib.Core.Path.{◌∙◌}
use native.Mathlib.Omega.{arith}
use borrow.Author.Rules.{rules}
use lib.IntN.{pos}
use lib.ListN.{length, get_or, length-set}
use lib.Seq.{get_or-set_same}
use Rattle.arith32.proofs.Whole.{back32}
use Rattle.line.proofs.Pairs.{put_together, copied}
use Rattle.rows.proofs.Row.{own_average, own_place, row_before_lem}
use Rattle.rows.proofs.one.one_row.Goals as goal

pub returns-then-n-eq0 : goal.returns-then-n-eq0
returns-then-n-eq0 c =
    let a = c.args in
    let e = c.requires.2 in
    let b = back32 (get_or a.s.now.avg.now 0 (pos 0)) (search rules) in
    copied c.requires.0 c.if-n-eq0.true (simp length-set (omega arith))
    (λ k hk _.
    rw (own_place (length a.s.now.avg.now) (length a.s.now.res.now) a.s.now.avg.now a.s.now.res.now k 0 hk)
    (get_or-set_same a.out.now 0 _ (pos 0) (omega arith) ∙ b ∙ own_average (length a.s.now.avg.now) (length a.s.now.res.now) a.s.now.avg.now a.s.now.res.now k 0 hk))

pub returns : goal.returns
returns c =
    let a = c.args in
    let b0 = back32 (get_or a.s.now.avg.now 0 (pos 0)) (search rules) in
    let b1 = back32 c.outer_sample.result c.outer_sample.type_inv in
    let b2 = back32 c.ordinary_pairs-before.result c.ordinary_pairs-before.type_inv in
    put_together c.requires.0 (omega arith)
    (row_before_lem (length a.s.now.avg.now) (length a.s.now.res.now) a.s.now.avg.now a.s.now.res.now a.s.now.next.now a.s.now.prev.now c.outer_sample.result
    (rw b0 at c.outer_sample.ensures))
    (rw b1 at c.ordinary_pairs-before.ensures)
    (rw b2 at (c.last_samples.ensures a.s.now.prev.now))
