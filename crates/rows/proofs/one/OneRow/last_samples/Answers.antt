-- `last_samples` meets its contract: the pair made with the next average that was chosen, and the tail after it where there is one, are the row's end
-- (`row_end`, `row_end_tail` of proofs/Row.antt). Assumes nothing.
use mathlib.Core.Path.{◌≡◌, ◌∙◌}
use Prim.Native.Nat.{◌-◌}
use native.Mathlib.Omega.{arith}
use borrow.Author.Rules.{rules}
use mir.Facts.{to_z-of_z}
use lib.IntN.{pos}
use lib.ListN.{length, get_or}
use Rattle.arith32.proofs.Whole.{back32}
use Rattle.pair.specs.Pair.{first, second}
use Rattle.rows.proofs.Row.{row_end, row_end_tail}
use Rattle.rows.proofs.one.OneRow.last_samples.Goals as goal
use Rattle.rows.proofs.one.OneRow.last_samples.Goals.{After-unsqueeze-first}

-- the pair, by the values behind what was read
made : (c : After-unsqueeze-first)
    → let s = c.args.self.now.squeezed in
    let p = c.unsqueeze-first.result in
    let a = get_or s.avg.now (length s.res.now - 1) (pos 0) in
    let r = get_or s.res.now (length s.res.now - 1) (pos 0) in
    (p.first ≡ first a r c.last_next.result c.args.prior) × (p.second ≡ second a r c.last_next.result c.args.prior)
made c =
    let s = c.args.self.now.squeezed in
    let i = length s.res.now - 1 in
    let b1 = back32 (get_or s.avg.now i (pos 0)) (search rules) in
    let b2 = back32 (get_or s.res.now i (pos 0)) (search rules) in
    let b3 = back32 c.last_next.result c.last_next.type_inv in
    let b4 = to_z-of_z c.ranges.prior in
    (rw (b1, b2, b3, b4) at c.unsqueeze-first.ensures.0, rw (b1, b2, b3, b4) at c.unsqueeze-first.ensures.1)

pub returns-then-n-s : goal.returns-then-n-s
returns-then-n-s c =
    λ prev.
    let p = c.unsqueeze-first.result in
    let next = c.last_next in
    let a = c.args in
    let s = a.self.now.squeezed in
    let i = length s.res.now - 1 in
    let m = made c.before.before.before.before in
    row_end_tail (length s.avg.now) (length s.res.now) s.avg.now s.res.now s.next.now prev a.out.now next.result a.prior _ _ i
    (omega arith) a.self.now.low c.requires.1 next.ensures (back32 p.first (search rules) ∙ m.0) (back32 p.second (search rules) ∙ m.1)
    _ c.if-n-s.true (back32 (get_or s.avg.now (length s.res.now) (pos 0)) (search rules))

pub returns-else-n-s : goal.returns-else-n-s
returns-else-n-s c =
    λ prev.
    let p = c.unsqueeze-first.result in
    let next = c.last_next in
    let a = c.args in
    let s = a.self.now.squeezed in
    let i = length s.res.now - 1 in
    let m = made c.before.before.before in
    row_end (length s.avg.now) (length s.res.now) s.avg.now s.res.now s.next.now prev a.out.now next.result a.prior _ _ i
    (omega arith) a.self.now.low c.requires.1 next.ensures (back32 p.first (search rules) ∙ m.0) (back32 p.second (search rules) ∙ m.1)
    c.if-n-s.false
