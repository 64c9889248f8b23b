-- `mark` meets its contract: the entries up to k are marked. Assumes nothing.
use mathlib.Core.Path.{◌≡◌}
use native.Mathlib.Omega.{arith}
use Rattle.rebuild.proofs.Sources.mark.Goals as goal

pub returns : goal.returns
returns c = let z : c.loop-k.k ≡ c.args.end = omega arith in rw z at c.loop-k.invariant
