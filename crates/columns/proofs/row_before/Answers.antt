-- `row_before_lem` meets its contract: each answer is the row, sample by sample (proofs/OuterRows.antt). Assumes nothing.
use mathlib.Core.Path.{◌≡◌}
use mathlib.Core.Logic.{⊎_elim}
use Prim.Native.Nat.{◌-◌}
use native.Mathlib.Omega.{arith}
use Rattle.columns.proofs.OuterRows.{before_average, before_outer}
use Rattle.columns.proofs.row_before.Goals as goal

pub returns-then-prev-eq0 : goal.returns-then-prev-eq0
returns-then-prev-eq0 c =
    let a = c.args in
    let z : a.w - 0 ≡ a.w = omega arith in
    rw z (before_average a.prev.now a.avg.now a.w c.requires.0 c.if-prev-eq0.true)

pub returns-else-prev-eq0 : goal.returns-else-prev-eq0
returns-else-prev-eq0 c =
    let a = c.args in
    ⊎_elim (λ e. absurd (c.if-prev-eq0.false e)) (λ e. before_outer a.prev.now a.avg.now a.w e) c.requires.1
