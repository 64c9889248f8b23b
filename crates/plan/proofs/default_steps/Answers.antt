-- `default_steps` meets its contract: the two parts of the default plan, added to the empty arrays, have room (proofs/Parts.antt, proofs/Packed.antt).
-- Assumes nothing.
use mathlib.Core.List.{[]}
use mathlib.Core.Path.{ap, ◌∙◌}
use native.Mathlib.Omega.{arith}
use Rattle.plan.specs.Steps.{packed}
use Rattle.plan.proofs.Parts.{parted}
use Rattle.plan.proofs.Packed.{packed_count, packed_room, packed_both}
use Rattle.plan.proofs.default_steps.Goals as goal

pub chroma-requires : goal.chroma-requires
chroma-requires c = (omega (arith, packed_count _ [] c.empty-steps.ensures), omega (arith, c.meta_count-k.ensures, c.requires.1))

pub all_channels-requires : goal.all_channels-requires
all_channels-requires c =
    let l = c.args.list.now in
    let m = c.meta_count-k in
    let e = c.len.ensures in
    let p = parted l c.requires.2 c.len.result m.result c.channel-first.result c.channel.result e m.ensures (rw (m.ensures, e) c.requires.1) c.channel-first.ensures c.channel.ensures c.args.rule c.requires.0 in
    (c.requires.0, packed_room _ _ p.room _ _ c.empty-steps.ensures c.chroma.ensures)

pub returns-clause-value : goal.returns-clause-value
returns-clause-value c =
    let l = c.args.list.now in
    let m = c.meta_count-k in
    let e = c.len.ensures in
    let p = parted l c.requires.2 c.len.result m.result c.channel-first.result c.channel.result e m.ensures (rw (m.ensures, e) c.requires.1) c.channel-first.ensures c.channel.ensures c.args.rule c.requires.0 in
    packed_both _ _ p.room _ _ c.empty-steps.ensures c.chroma.ensures _ c.all_channels.ensures ∙ ap packed p.so

pub returns-clause-room : goal.returns-clause-room
returns-clause-room c =
    let l = c.args.list.now in
    let m = c.meta_count-k in
    let e = c.len.ensures in
    let p = parted l c.requires.2 c.len.result m.result c.channel-first.result c.channel.result e m.ensures (rw (m.ensures, e) c.requires.1) c.channel-first.ensures c.channel.ensures c.args.rule c.requires.0 in
    omega (arith, packed_count _ _ (packed_both _ _ p.room _ _ c.empty-steps.ensures c.chroma.ensures _ c.all_channels.ensures), p.room)
