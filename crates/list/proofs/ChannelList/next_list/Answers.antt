-- `next_list` meets its contract: each turn pushes the entry that the step makes (proofs/Made.antt), and its origin. Assumes nothing.
use mathlib.Core.Path.{refl, ap, ◌∙◌}
use Prim.Native.Nat.{ℕ, ◌+◌}
use mathlib.Core.Bool.{cond}
use native.Mathlib.Omega.{arith}
use Rattle.list.specs.Lists as Lists
use Rattle.list.specs.Lists.{max_channels, channels, stepped_origins}
use Rattle.list.proofs.Channels.{channels_length, origins_length}
use Rattle.list.proofs.Entries.{stepped_length, origins_stepped}
use Rattle.list.proofs.Made.{made_of, origin_of}
use Rattle.list.proofs.Filled.{filling_empty, filling_pushed, pushed_count, filling_done}
use Rattle.list.proofs.ChannelList.next_list.Goals as goal

pub loop-k-init : goal.loop-k-init
unfolding Lists.holding
loop-k-init c =
    let s = c.args.step in
    let l = c.args.self.now in
    let e = c.len-count.ensures in
    let n = channels_length l in
    let room = c.requires.room in
    rw c.empty-next.ensures (omega arith, omega arith, refl, filling_empty (Lists.stepped s (channels l)) (stepped_origins s (Lists.origins l)))

pub entry-c-requires : goal.entry-c-requires
entry-c-requires c =
    let r = c.residuals_at-residuals in
    let er = r.ensures ∙ ap (λ (n : ℕ). cond c.args.step.inplace (c.args.step.begin + c.args.step.number) n) c.len-count.ensures in
    (made_of c.args.step c.args.self.now c.requires r.result er c.loop-k.k _ c.loop-k-test.true (ap (λ (n : ℕ). n + c.args.step.number) c.len-count.ensures)
    c.source-j.result c.source-j.ensures c.channel.result c.channel.ensures).allowed

pub loop-k-preserved : goal.loop-k-preserved
loop-k-preserved c =
    let s = c.args.step in
    let l = c.args.self.now in
    let r = c.residuals_at-residuals in
    let er = r.ensures ∙ ap (λ (n : ℕ). cond c.args.step.inplace (c.args.step.begin + c.args.step.number) n) c.len-count.ensures in
    let k = c.loop-k.k in
    let h = c.loop-k-test.true in
    let v = c.loop-k.invariant in
    let en = ap (λ (n : ℕ). n + s.number) c.len-count.ensures in
    let j = c.source-j in
    let o = c.origin-origin in
    let ec = c.entry-c.ensures ∙ (made_of s l c.requires r.result er k _ h en j.result j.ensures c.channel.result c.channel.ensures).is in
    let eo = origin_of s l c.requires r.result er k _ h en j.result j.ensures o.result o.ensures in
    let f = filling_pushed (Lists.stepped s (channels l)) (stepped_origins s (Lists.origins l)) c.loop-k.next v.3 (omega arith) c.entry-c.result o.result (rw v.2 ec) (rw v.2 eo) in
    let n = pushed_count c.loop-k.next c.entry-c.result o.result (omega arith) in
    rw c.push.ensures (v.0, omega arith, omega (arith, n), f)

pub returns : goal.returns
returns c =
    let s = c.args.step in
    let l = c.args.self.now in
    let inside = c.requires.inside in
    let v = c.loop-k.invariant in
    let n = stepped_length s (channels l) inside in
    let m = channels_length l in
    let p = origins_length l in
    let q = origins_stepped s (Lists.origins l) (omega arith) in
    let h = c.loop-k-test.false in
    filling_done (Lists.stepped s (channels l)) (stepped_origins s (Lists.origins l)) c.loop-k.next v.3 (omega (arith, c.len-count.ensures)) (omega arith)
