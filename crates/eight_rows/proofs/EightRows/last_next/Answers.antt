-- `last_next` meets its contract: the rows' tails, else the outer line, else the averages themselves. Assumes nothing.
use mathlib.Core.List.{[]}
use borrow.Author.Tests.{lt-ltb}
use Rattle.eight_rows.proofs.Blocks.{own_lane}
use Rattle.eight_rows.proofs.EightRows.last_next.Goals as goal

pub returns-then-s : goal.returns-then-s
returns-then-s c =
    λ k hk.
    let s = c.args.self.now.squeezed in
    rw (c.averages.ensures, lt-ltb s.residuals s.averages c.if-s.true) (own_lane s.averages 0 s.avg.now [] k s.residuals hk)
