-- `last_rows` meets its contract: the last pair of rows, and a row of tails after it, are the end of the lines (proofs/LastRows.antt).
-- Assumes nothing.
use mathlib.Core.Path.{◌≡◌, sym, ◌∙◌}
use mathlib.Core.Bool.{false}
use mathlib.Core.List.{List, []}
use Prim.Native.Nat.{ℕ, ◌+◌, ◌-◌, ◌<◌}
use native.Mathlib.Omega.{arith}
use lib.IntN.{ℤ}
use lib.ListN.{length, drop, length-drop}
use Rattle.buffer.proofs.Overwritten.{copied_all}
use Rattle.line.specs.Uncut.{squeeze, Fitting}
use Rattle.columns.proofs.OuterRows.{part_rest}
use Rattle.columns.proofs.Pastes.{put_in}
use Rattle.columns.proofs.LastRows.{tail_left, last_row_inside, residuals_inside, after_room, last_asked, even_marked, odd_marked, ended_even, ended_odd}
use Rattle.columns.proofs.last_rows.Goals as goal

-- there is a last pair, whose rows end where the residuals end
counted : (n : ℕ) → 0 < n → n - 1 + 1 ≡ n
counted n l = omega arith

placed : {w m n : ℕ} {avg res next : List ℤ} → Fitting (squeeze false w m n avg res next []) → 0 < n
    → (length res - w + w ≡ length res) × (length res - (length res - w) ≡ w)
placed f h = let r = last_row_inside f h in (omega arith, omega arith)

pub row_after-requires : goal.row_after-requires
row_after-requires g c =
    let a = c.args in
    let f = c.requires.0 in
    let p = placed f c.requires.1 in
    (omega (arith, p.0, residuals_inside f), after_room f (length a.s.now.res.now - a.w) p.0, f.next_length)

pub row_pair-outside-requires : goal.row_pair-outside-requires
row_pair-outside-requires g c =
    let s = c.args.s.now in
    let p = placed c.requires.0 c.requires.1 in
    rw (p.1, c.row_after.ensures)
    (last_asked c.requires.0 (s.residuals - 1) (length s.res.now - c.args.w) (counted s.residuals c.requires.1) p.0 c.requires.3)

pub returns-then-n-m : goal.returns-then-n-m
returns-then-n-m g c =
    let s = c.args.s.now in
    let r = length s.res.now in
    let f = c.requires.0 in
    let i = s.residuals - 1 in
    let a = r - c.args.w in
    let last = counted s.residuals c.requires.1 in
    let p = placed f c.requires.1 in
    let mid = c.row_pair-outside.new.out in
    let long = c.row_pair-outside.ensures.0.long ∙ c.requires.2 in
    let made = rw (p.1, c.row_after.ensures) at c.row_pair-outside.ensures in
    let alike : length (drop r s.avg.now) ≡ length (drop (r + r) mid) = sym (length-drop (r + r) mid ∙ tail_left f c.if-n-m.true long) in
    rw (c.copy.ensures, part_rest s.avg.now r, part_rest mid (r + r), copied_all (drop r s.avg.now) (drop (r + r) mid) alike, put_in mid (r + r) (length mid - (r + r)) (drop r s.avg.now) (tail_left f c.if-n-m.true long)) (
      λ prev. ended_odd f i a last p.0 made.0 prev c.if-n-m.true long,
      odd_marked f i a last p.0 g.M.Marking.marks _ long made.1 c.if-n-m.true (rw (part_rest s.avg.now r) at c.some_outside.ensures),
    )

pub returns-else-n-m : goal.returns-else-n-m
returns-else-n-m g c =
    let s = c.args.s.now in
    let f = c.requires.0 in
    let i = s.residuals - 1 in
    let a = length s.res.now - c.args.w in
    let last = counted s.residuals c.requires.1 in
    let p = placed f c.requires.1 in
    let long = c.row_pair-outside.ensures.0.long ∙ c.requires.2 in
    let made = rw (p.1, c.row_after.ensures) at c.row_pair-outside.ensures in (
      λ prev. ended_even f i a last p.0 made.0 prev c.if-n-m.false,
      even_marked f i a last p.0 g.M.Marking.marks _ long made.1 c.if-n-m.false,
    )
