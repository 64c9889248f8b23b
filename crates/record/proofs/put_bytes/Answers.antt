-- `put_bytes` meets its contract: the copy lies in the middle of the slice. Assumes nothing.
use mathlib.Core.Path.{◌≡◌, sym}
use Prim.Native.Nat.{◌+◌, ◌-◌}
use native.Mathlib.Omega.{arith}
use lib.ListN.{length}
use lib.Seq.{drop-drop}
use Rattle.record.proofs.Placed.{put_placed}
use Rattle.record.proofs.put_bytes.Goals as goal

pub returns : goal.returns
returns c =
    let g = c.args in
    let n : g.at + length g.bytes.now - g.at ≡ length g.bytes.now = omega arith in
    rw (n, c.copy_from_slice.ensures.after, drop-drop (length g.bytes.now) g.at g.out.now) (sym (put_placed g.out.now g.at g.bytes.now (omega (arith, c.if-out-at.false, c.if-out-at-2.false))))
