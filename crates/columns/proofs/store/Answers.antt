-- `store` meets its contract: a copy of eight samples over as many. Assumes nothing.
use mathlib.Core.Path.{◌≡◌, sym, ◌∙◌}
use Prim.Native.Nat.{◌+◌, ◌-◌}
use native.Mathlib.Omega.{arith}
use borrow.Author.Rules.{rules}
use lib.ListN.{length, take, drop}
use Rattle.buffer.proofs.Overwritten.{copied_all}
use Rattle.line.proofs.Outputs.{part_length}
use Rattle.columns.proofs.Pastes.{put_in}
use Rattle.columns.proofs.store.Goals as goal

pub returns : goal.returns
returns c =
    let a = c.args in
    let n = a.at + 8 - a.at in
    let eight : n ≡ length a.b = search rules in
    let alike : length a.b ≡ length (take n (drop a.at a.out.now)) = sym (part_length a.at n a.out.now (omega arith) ∙ eight) in
    rw (c.copy.ensures, copied_all a.b _ alike) (put_in a.out.now a.at n a.b eight)
