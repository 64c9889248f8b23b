-- `copy` meets its contract: after i turns the front of `to` is overwritten by the first i samples (proofs/Overwritten.antt). Assumes nothing.
use mathlib.Core.Path.{◌∙◌}
use native.Mathlib.Omega.{arith}
use borrow.Author.Rules.{rules}
use mir.Syntax.{w32}
use mir.Facts.{to_z-of_z}
use lib.ListN.{length-set}
use Rattle.buffer.proofs.Overwritten.{overwritten_more, overwritten_copied}
use Rattle.buffer.proofs.copy.Goals as goal

pub loop-i-preserved : goal.loop-i-preserved
loop-i-preserved c =
    let a = c.args in
    let i = c.loop-i.i in
    let w = c.loop-i.invariant in (
      rw w.0 (overwritten_more a.from.now a.to.now i _ (omega arith) (omega arith) (to_z-of_z {w = w32} (search rules))),
      simp length-set w.1,
      search rules,
    )

pub returns : goal.returns
returns c = c.loop-i.invariant.0 ∙ overwritten_copied c.args.from.now c.args.to.now c.loop-i.i (omega arith)
