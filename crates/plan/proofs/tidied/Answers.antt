-- `tidied` meets its contract: each turn pushes a channel and its position. Assumes nothing.
use mathlib.Core.Path.{refl}
use native.Mathlib.Omega.{arith}
use lib.ListN.{length}
use Rattle.list.specs.Lists as Lists
use Rattle.list.specs.Lists.{channels, own_positions}
use Rattle.list.proofs.Channels.{channels_length, found_at, own_length, own_at}
use Rattle.list.proofs.Filled.{filling_empty, filling_pushed, pushed_count, filling_done}
use Rattle.plan.proofs.tidied.Goals as goal

pub loop-k-init : goal.loop-k-init
unfolding Lists.holding
loop-k-init c = rw c.empty-tidy.ensures (omega arith, refl, filling_empty (channels c.args.list.now) _)

pub loop-k-preserved : goal.loop-k-preserved
loop-k-preserved c =
    let i = c.loop-k.invariant in
    let l = c.args.list.now in
    let n = channels_length l in
    let m = c.len-k-end.ensures in
    let h = c.loop-k-test.true in
    let v = c.channel.result in
    let k = c.loop-k.k in
    let is = found_at l k v (omega arith) c.channel.ensures in
    let at = own_at (length (channels l)) k (omega arith) in
    let f = filling_pushed (channels l) _ c.loop-k.tidy i.2 (omega arith) v k (rw i.1 is) (rw i.1 at) in
    let p = pushed_count c.loop-k.tidy v k (omega arith) in
    rw c.push.ensures (omega arith, omega (arith, p), f)

pub returns : goal.returns
returns c =
    let i = c.loop-k.invariant in
    let l = c.args.list.now in
    let n = channels_length l in
    let m = c.len-k-end.ensures in
    let h = c.loop-k-test.false in
    filling_done (channels l) (own_positions (length (channels l))) c.loop-k.tidy i.2 (omega arith) (own_length (length (channels l)))
