-- `rows_by_eight` meets its contract: a turn writes a strip of eight rows (proofs/Strips.antt), and looks at it (proofs/Marks.antt). Assumes nothing.
use mathlib.Core.Path.{◌≡◌, ◌∙◌}
use mathlib.Core.Bool.{true}
use Prim.Native.Nat.{◌+◌, ◌*◌, ◌≤◌}
use native.Mathlib.Omega.{arith}
use lib.ListN.{take, drop}
use Rattle.line.specs.Uncut.{uncut}
use Rattle.line.specs.Squeezed.{squeeze_of}
use Rattle.line.proofs.Outputs.{uncut_length, part_length}
use Rattle.rows.proofs.Strips.{rows_room, rows_span, strip_into}
use Rattle.rows.proofs.Parts.{part_strip}
use Rattle.rows.proofs.Bands.{down_more}
use Rattle.rows.proofs.Marks.{rows_more}
use Rattle.rows.proofs.rows_by_eight.Goals as goal

pub loop-k-preserved : goal.loop-k-preserved
loop-k-preserved g c =
    let a = c.args in
    let s = a.s.now in
    let y = 8 * c.loop-k.k in
    let pre = c.requires in
    let size = s.averages + s.residuals in
    let among : y + 8 ≤ a.lines = omega arith in
    let n : 8 * (c.loop-k.k + 1) ≡ y + 8 = omega arith in
    let made : c.unsqueeze_eight_rows.new.out ≡ take (8 * size) (drop (y * size) (uncut (squeeze_of true a.lines s))) =
    rw (part_strip a.lines y 8 c.part_of-part.ensures, rows_span y 8 size) at c.unsqueeze_eight_rows.ensures
    ∙ strip_into a.lines s.averages s.residuals s.avg.now s.res.now s.next.now s.prev.now pre.0 y 8 among pre.1
    _ (part_length (y * size) (8 * size) c.loop-k.out (omega (arith, rows_room y 8 a.lines size among))) in
    record {
      written = rw (rows_span y 8 size, n)
          (down_more a.lines size _ a.out.now (uncut_length (squeeze_of true a.lines s)) pre.2 c.loop-k.out _ y 8 among made c.loop-k.invariant.written);
      told = rw n (rows_more g.M.Marking.marks a.lines 0 y 8 (omega arith) c.part_of-part.ensures made c.loop-k.invariant.told c.part_outside-outside.ensures);
    }
