-- `clamp_before` meets its contract: its test says what the definition's does (proofs/Clamps.antt). Assumes nothing.
use borrow.Author.Rules.{rules}
use Rattle.tendency.proofs.Clamps.{clamp_before_is}
use Rattle.tendency.proofs.clamp_before.Goals as goal

pub returns-then-twice-wrapping_sub : goal.returns-then-twice-wrapping_sub
returns-then-twice-wrapping_sub c = rw (clamp_before_is c.args.p c.args.v c.ranges.v) (search rules)

pub returns-else-twice-wrapping_sub : goal.returns-else-twice-wrapping_sub
returns-else-twice-wrapping_sub c = rw (clamp_before_is c.args.p c.args.v c.ranges.v) (search rules)
