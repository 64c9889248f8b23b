-- `squeeze_line` meets its contract: the first pair, those between the ends (`inner_average` and `inner_residual` of proofs/Stretches.antt) if there are
-- any, the last, and the tail if there is one. Assumes nothing.
use mathlib.Core.Path.{◌≡◌, refl, sym, ◌∙◌}
use mathlib.Core.List.{List}
use Prim.Native.Nat.{ℕ, ◌+◌, ◌-◌, ◌/◌, ◌<◌, min, max}
use native.Mathlib.Omega.{arith}
use borrow.Author.Rules.{rules}
use lib.IntN.{ℤ}
use lib.ListN.{length, set, length-set}
use Rattle.line.specs.Uncut.{table}
use Rattle.line.specs.Forward.{average_count, residual_count, average_at, residual_at}
use Rattle.arith32.proofs.Whole.{back32}
use Rattle.forward.specs.Rows.{along, Filled}
use Rattle.line.proofs.Alone.{average_tail}
use Rattle.forward.proofs.Filled.{filled_none, filled_set, filled_table, filled_all}
use Rattle.forward.proofs.Stretches.{inner_average, inner_residual}
use Rattle.forward.proofs.squeeze_line.Goals.{then-n-gt0, else-n-gt0, then-n-gt1, else-n-gt1, then-n-gt2, else-n-gt2}
use Rattle.forward.proofs.squeeze_line.Goals as goal
use Rattle.forward.proofs.squeeze_line.Lts as Lts
use Rattle.forward.proofs.squeeze_line.Reads as reads
use Rattle.forward.proofs.squeeze_line.Tie as tie

abbrev Joined-n-gt0 : Type 0
Joined-n-gt0 = Lts.Joined1 tie.the-claims reads.Pre reads.Post tie.handed_clauses

abbrev Joined-n-gt2 : Type 0
Joined-n-gt2 = Lts.Joined2 tie.the-claims reads.Pre reads.Post tie.handed_clauses

abbrev Joined-n-gt1 : Type 0
Joined-n-gt1 = Lts.Joined3 tie.the-claims reads.Pre reads.Post tie.handed_clauses

-- the first k pairs are filled
abbrev Pairs : List ℤ → ℕ → List ℤ → List ℤ → Type 0
Pairs line k averages residuals =
    Filled (average_at (along line) (length line)) k averages × Filled (residual_at (along line) (length line)) k residuals

none_filled : (line averages residuals : List ℤ) → Pairs line 0 averages residuals
none_filled line averages residuals = (filled_none _ averages, filled_none _ residuals)

-- pair k, stored behind them
one_more : (line averages residuals : List ℤ) (k : ℕ) (a r : ℤ) → k < length averages → k < length residuals → a ≡ average_at (along line) (length line) k
    → r ≡ residual_at (along line) (length line) k → Pairs line k averages residuals → Pairs line (k + 1) (set averages k a) (set residuals k r)
one_more line averages residuals k a r u v ea er p = (filled_set _ k averages a u ea p.0, filled_set _ k residuals r v er p.1)

-- the first pair
with_first : (c : Joined-n-gt0) → let line = c.args.line.now in Pairs line (min 1 (length line / 2)) c.if-n-gt0.averages c.if-n-gt0.residuals
with_first c =
    let line = c.args.line.now in
    let n = length line / 2 in
    elim c.if-n-gt0.branch [
      | then-n-gt0 w ↦
          (let e : min 1 n ≡ 0 + 1 = omega (arith, w.if-n-gt0.true) in
          let avg = w.average_at in
          let res = w.residual_at-residual in
          rw (w.averages-is, w.residuals-is, e)
          (one_more line _ _ 0 _ _ (omega (arith, w.if-n-gt0.true)) (omega (arith, w.if-n-gt0.true)) (back32 avg.result avg.type_inv ∙ avg.ensures) (back32 res.result res.type_inv ∙ res.ensures)
          (none_filled line _ _)))
      | else-n-gt0 w ↦
          (let e : min 1 n ≡ 0 = omega (arith, w.if-n-gt0.false) in rw (w.averages-is, w.residuals-is, e) (none_filled line _ _))
    ]

-- the pairs before the last; a line's only pair is its first
but_last : (c : Joined-n-gt2)
    → let line = c.args.line.now in
    let n = length line / 2 in
    Pairs line (max (n - 1) (min 1 n)) c.if-n-gt2.averages c.if-n-gt2.residuals
but_last c =
    let line = c.args.line.now in
    let n = length line / 2 in
    let f = average_at (along line) (length line) in
    let g = residual_at (along line) (length line) in
    let first = with_first c.before in
    elim c.if-n-gt2.branch [
      | then-n-gt2 w ↦
          (let l : 2 < n = w.if-n-gt2.true in
          let e : max (n - 1) (min 1 n) ≡ 1 + (n - 2) = omega (arith, l) in
          let o : min 1 n ≡ 1 = omega (arith, l) in
          let p = rw o at first in
          rw (w.averages-is, w.residuals-is, e) (
            filled_table f _ 0 1 _ (n - 2) _ c.if-n-gt0.averages w.squeeze.new.averages (omega (arith, l)) w.squeeze.ensures.made
                (λ x h. let z : 0 + x ≡ x = omega arith in rw z (inner_average line x (omega (arith, l)))) p.0 refl,
            filled_table g _ 0 1 _ (n - 2) _ c.if-n-gt0.residuals w.squeeze.new.residuals (omega (arith, l)) w.squeeze.ensures.left
                (λ x h. let z : 0 + x ≡ x = omega arith in rw z (inner_residual line x (omega (arith, l)))) p.1 refl,
          ))
      | else-n-gt2 w ↦
          (let e : max (n - 1) (min 1 n) ≡ min 1 n = omega (arith, w.if-n-gt2.false) in rw (w.averages-is, w.residuals-is, e) first)
    ]

-- all pairs
all_pairs : (c : Joined-n-gt1) → let line = c.args.line.now in Pairs line (length line / 2) c.if-n-gt1.averages c.if-n-gt1.residuals
all_pairs c =
    let line = c.args.line.now in
    let n = length line / 2 in
    let most = but_last c.before in
    elim c.if-n-gt1.branch [
      | then-n-gt1 w ↦
          (let l : 1 < n = w.if-n-gt1.true in
          let e : max (n - 1) (min 1 n) ≡ n - 1 = omega (arith, l) in
          let s : n - 1 + 1 ≡ n = omega (arith, l) in
          let avg = w.average_at-then-n-gt1 in
          let res = w.residual_at-residual-then-n-gt1 in
          rw (w.averages-is, w.residuals-is)
          (rw s at
          (one_more line _ _ (n - 1) _ _ (omega (arith, l)) (omega (arith, l)) (back32 avg.result avg.type_inv ∙ avg.ensures) (back32 res.result res.type_inv ∙ res.ensures) (rw e at most))))
      | else-n-gt1 w ↦
          (let e : max (n - 1) (min 1 n) ≡ n = omega (arith, w.if-n-gt1.false) in rw (w.averages-is, w.residuals-is) (rw e at most))
    ]

-- the residuals are those of all pairs
all_left : (line averages residuals : List ℤ) → length residuals ≡ residual_count (length line) → Pairs line (length line / 2) averages residuals
    → residuals ≡ table (residual_at (along line) (length line)) 0 (residual_count (length line))
all_left line averages residuals e p =
    let s : length line / 2 ≡ residual_count (length line) = omega arith in
    filled_all (residual_at (along line) (length line)) (residual_count (length line)) residuals e (rw s at p.1)

pub returns-then-n-line : goal.returns-then-n-line
returns-then-n-line c =
    let line = c.args.line.now in
    let n = length line / 2 in
    let f = average_at (along line) (length line) in
    let t = c.if-n-line.true in
    let s : n + 1 ≡ average_count (length line) = omega (arith, t) in
    let e = back32 (along line (n + n)) (search rules) ∙ sym (average_tail (along line) (length line) n (omega (arith, t))) in
    let p = all_pairs c.before.before in
    record {
      made = filled_all f (average_count (length line)) _ (simp length-set (omega arith)) (rw s at (filled_set f n c.if-n-gt1.averages _ (omega (arith, t)) e p.0));
      left = all_left line c.if-n-gt1.averages _ (omega arith) p;
    }

pub returns-else-n-line : goal.returns-else-n-line
returns-else-n-line c =
    let line = c.args.line.now in
    let s : length line / 2 ≡ average_count (length line) = omega (arith, c.if-n-line.false) in
    let p = all_pairs c.before in
    record {
      made = filled_all (average_at (along line) (length line)) (average_count (length line)) _ (omega arith) (rw s at p.0);
      left = all_left line c.if-n-gt1.averages _ (omega arith) p;
    }
