-- `holds` meets its contract: each part of the room was tested. Assumes nothing.
use Rattle.std.proofs.Common.{◌≡◌, ◌+◌, arith, length, slice_range, length-take, length-drop}
use mathlib.Core.Bool.{◌&&◌, and-eq-true_iff}
use Rattle.samples.proofs.holds.Goals as goal

pub returns : goal.returns
returns c =
    let a = c.args in
    let n : length (slice_range a.room.now 16 (16 + a.n)) ≡ a.n = simp (length-take, length-drop) (omega arith) in
    let same = rw n at c.same.ensures in
    let front = and-eq-true_iff c.kept.result c.same.result in
    let all = and-eq-true_iff (c.kept.result && c.same.result) c.kept-2.result in
    record {
      says =
          λ e.
          let (ks, after) = all.0 e in
          let (k, s) = front.0 ks in
          record { reaches = omega arith; before = (c.kept.ensures.says k).1; between = same.says s; after = (c.kept-2.ensures.says after).1 };
      said = λ g. all.1 (front.1 (c.kept.ensures.said (omega (arith, g.reaches), g.before), same.said g.between), c.kept-2.ensures.said (omega arith, g.after));
    }
