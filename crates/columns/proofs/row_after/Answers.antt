-- `row_after` meets its contract: each answer is the row, sample by sample (proofs/OuterRows.antt). Assumes nothing.
use mathlib.Core.Path.{◌≡◌}
use mathlib.Core.Logic.{⊎_elim}
use Prim.Native.Nat.{◌+◌, ◌-◌}
use native.Mathlib.Omega.{arith}
use Rattle.columns.proofs.OuterRows.{after_average, after_own, after_outer}
use Rattle.columns.proofs.row_after.Goals as goal

pub returns-then-e-avg : goal.returns-then-e-avg
returns-then-e-avg c =
    let a = c.args in
    let l = c.if-e-avg.true in
    let z : a.at + a.w + a.w - (a.at + a.w) ≡ a.w = omega arith in
    rw z (after_average a.avg.now a.next.now a.at a.w l (c.requires.1 l))

pub returns-then-next-eq0 : goal.returns-then-next-eq0
returns-then-next-eq0 c =
    let a = c.args in
    let z : a.at + a.w - a.at ≡ a.w = omega arith in
    rw z (after_own a.avg.now a.next.now a.at a.w c.requires.0 c.if-e-avg.false c.if-next-eq0.true)

pub returns-else-next-eq0 : goal.returns-else-next-eq0
returns-else-next-eq0 c =
    let a = c.args in
    ⊎_elim (λ e. absurd (c.if-next-eq0.false e)) (λ e. after_outer a.avg.now a.next.now a.at a.w c.if-e-avg.false e) c.requires.2
