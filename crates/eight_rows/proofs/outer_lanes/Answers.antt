-- `outer_lanes` meets its contract, by the laws of outer lines (proofs/Outers.antt). Assumes nothing.
use mathlib.Core.Path.{◌≡◌, sym, ◌∙◌}
use mathlib.Core.Logic.{⊎_elim}
use Prim.Native.Nat.{◌+◌, ◌*◌, ◌<◌}
use native.Mathlib.Omega.{arith}
use lib.IntN.{pos}
use lib.ListN.{length, get_or}
use Rattle.eight_rows.proofs.Strides.{lanes_at_lem}
use Rattle.line.proofs.Outers.{outer_some}
use Rattle.eight_rows.proofs.outer_lanes.Goals as goal

pub returns-else-line-eq0 : goal.returns-else-line-eq0
returns-else-line-eq0 c =
    λ k hk.
    let a = c.args in
    let eight : 7 < length a.line.now = ⊎_elim (λ e. absurd (c.if-line-eq0.false e)) (λ e. omega arith) c.requires in
    let e : 0 + k * 1 ≡ k = omega arith in
    let h : k < length a.line.now = omega (arith, eight) in
    rw c.load_lanes.ensures (lanes_at_lem a.line.now 0 1 k hk ∙ rw e (sym (outer_some a.line.now k (get_or a.other k (pos 0)) h)))
