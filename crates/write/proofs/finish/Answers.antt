-- `finish` meets its contract: with the way cleared, each channel is settled from where it stands (proofs/Moving.antt, Settling.antt and Homes.antt).
-- Assumes nothing.
use mathlib.Core.Path.{◌≡◌, ◌∙◌}
use Prim.Native.Nat.{min}
use native.Mathlib.Omega.{arith}
use Rattle.list.specs.Lists.{max_channels}
use Rattle.write.proofs.Homes.{laid_ranged, starting, settled_held}
use Rattle.write.proofs.finish.Goals as goal

pub clear_way-requires : goal.clear_way-requires
clear_way-requires c =
    let p = c.args.places.now in
    let alike = c.requires.0 in
    let full = c.requires.1 in
    (omega (arith, alike.odds_length, alike.evens_length), rw alike.odds_length (laid_ranged p _ 0 (min p.count max_channels) (omega arith) full.laid))

pub settle-requires : goal.settle-requires
settle-requires c =
    let p = c.args.places.now in
    let alike = c.requires.0 in
    let full = c.requires.1 in
    let z : min p.count max_channels ≡ p.count = omega (arith, full.few) in
    (record { odds_length = alike.odds_length; evens_length = c.clear_way.auto.work ∙ alike.evens_length }, rw z (starting p _ full _ c.starts-starts.ensures))

pub returns : goal.returns
returns c =
    let a = c.args in
    let p = a.places.now in
    let z : min p.count max_channels ≡ p.count = omega (arith, c.requires.1.few) in
    settled_held p c.starts-starts.result a.picture.now a.pyramid.now a.work.now c.clear_way.new.work _ (rw z at c.clear_way.ensures) (rw z at c.settle.ensures)
