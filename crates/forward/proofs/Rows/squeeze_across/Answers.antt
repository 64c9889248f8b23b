-- `squeeze_across` meets its contract: the averages where there is a row of tails behind the rows of pairs, and the mark. Assumes nothing.
use mathlib.Core.Path.{◌≡◌, ap, ◌∙◌}
use mathlib.Core.Bool.{false}
use Prim.Native.Nat.{ℕ, ◌+◌, ◌-◌, ◌*◌, ◌/◌}
use native.Mathlib.Omega.{arith}
use native.Mathlib.Nat.{add-mul, mul_comm}
use lib.ListN.{length}
use Rattle.buffer.proofs.Overwritten.{copied_all}
use Rattle.line.proofs.Outputs.{part_length}
use Rattle.line.specs.Forward.{average_count, residual_count}
use Rattle.forward.specs.Rows.{average_entry}
use Rattle.forward.proofs.Filled.{filled_part, lent_length}
use Rattle.forward.proofs.Fitted.{averages_all}
use Rattle.forward.proofs.Marked.{with_tails, no_tails}
use Rattle.forward.proofs.Stretches.{row_tail}
use Rattle.forward.proofs.Rows.squeeze_across.Goals as goal

pub returns-then-n-self-clause-made : goal.returns-then-n-self-clause-made
returns-then-n-self-clause-made g c =
    let r = c.args.self.now in
    let n = r.count / 2 in
    let k : average_count r.count ≡ n + 1 = omega (arith, c.if-n-self.true) in
    let m : r.width * average_count r.count ≡ n * r.width + r.width = rw k (omega (arith, mul_comm r.width (n + 1), add-mul n 1 r.width)) in
    let f = average_entry false r.width r.count r.samples.now in
    let old = c.pairs_across-outside.new.averages in
    let place = n * r.width in
    let tails = c.copy.new.to in
    let wide : length c.row-tails.result.now ≡ r.width = c.row-tails.ensures.wide in
    let room = part_length place (length old - place) old (omega (arith, m)) in
    let e : tails ≡ c.row-tails.result.now = c.copy.ensures ∙ copied_all c.row-tails.result.now _ (omega (arith, wide, room, m)) in
    let t : length tails ≡ r.width = rw e wide in
    averages_all false r.width r.count r.samples.now _
    (lent_length (n * r.width) (length old - n * r.width) old tails (omega (arith, m)) (omega (arith, m)) ∙ omega arith)
    (filled_part f (n * r.width) _ r.width _ old tails (omega (arith, m)) (omega (arith, t))
    (λ x l. rw (e, c.row-tails.ensures.value) (row_tail r.count r.width r.samples.now n x (omega (arith, c.if-n-self.true)) l))
    c.pairs_across-outside.ensures.made m)

-- as many residuals as pairs, and the samples of these
residuals_room : (width count : ℕ) → width * residual_count count ≡ count / 2 * width
residuals_room width count = let k : residual_count count ≡ count / 2 = omega arith in rw k (mul_comm width (count / 2))

pub returns-then-n-self-clause-told : goal.returns-then-n-self-clause-told
returns-then-n-self-clause-told g c =
    let r = c.args.self.now in
    let n = r.count / 2 in
    let two : r.count ≡ n + n + 1 = omega (arith, c.if-n-self.true) in
    let whole : r.count * r.width ≡ (n + n) * r.width + r.width = ap (λ (k : ℕ). k * r.width) two ∙ add-mul (n + n) 1 r.width ∙ omega arith in
    let p = residuals_room r.width r.count in
    with_tails g.M.Marking.marks _ _ n r.width _ r.samples.now (omega arith) (omega arith) c.pairs_across-outside.ensures.told
    (rw c.row-tails.ensures.value at c.some_outside.ensures)

pub returns-clause-told : goal.returns-clause-told
returns-clause-told g c =
    let r = c.args.self.now in
    let n = r.count / 2 in
    let two : r.count ≡ n + n = omega (arith, c.if-n-self.false) in
    let whole : r.count * r.width ≡ (n + n) * r.width = ap (λ (k : ℕ). k * r.width) two in
    let p = residuals_room r.width r.count in
    no_tails g.M.Marking.marks _ n r.width _ r.samples.now (omega arith) (omega arith) c.pairs_across-outside.ensures.told
