-- `row_pair` meets its contract: the columns by eights and then the others are all of them (`columns_join` of proofs/TwoRows.antt), and the mark is that
-- of the residuals or of both rows. Assumes nothing.
use mathlib.Core.Path.{◌≡◌, sym}
use Prim.Native.Nat.{◌+◌, ◌-◌}
use native.Mathlib.Omega.{arith}
use lib.ListN.{length, take, drop}
use Rattle.std.proofs.Math.Bool.{and-or_distrib_left}
use Rattle.range.specs.Range.{some_outside}
use Rattle.columns.proofs.TwoRows.{columns_join}
use Rattle.columns.proofs.row_pair.Goals as goal

pub returns : goal.returns
returns g c =
    let a = c.args in
    let w = length a.avg.now in
    let by-eight = c.columns_by_eight-x.ensures in
    let n : a.to + w + w - a.to ≡ w + w = omega arith in (
      columns_join c.requires.2 (omega arith) by-eight.0 (omega arith) by-eight.2 c.columns_singly.ensures,
      rw (c.some_outside.ensures, c.some_outside-2.ensures, n)
          (sym (and-or_distrib_left g.M.Marking.marks (some_outside a.res.now) (some_outside (take (w + w) (drop a.to c.columns_singly.new.out))))),
    )
