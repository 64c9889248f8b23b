-- `put_channel` meets its contract: the channel is made in the part of the slice that is its home, and tells its mark. Assumes nothing.
use mathlib.Core.Path.{sym, ap, ◌∙◌}
use mathlib.Core.Bool.{Bool, ◌&&◌}
use Prim.Native.Nat.{ℕ}
use native.Mathlib.Omega.{arith}
use lib.ListN.{length}
use Rattle.places.specs.Places.{area, bare}
use Rattle.places.proofs.Parts.{part_length}
use Rattle.runs.proofs.OneChannel.{back_length}
use Rattle.rebuild.specs.Run.{lying_in, channel_from}
use Rattle.rebuild.proofs.Lent.{lent, back, source_length, made_from}
use Rattle.rebuild.proofs.OneTile.{bare_samples}
use Rattle.rebuild.proofs.Marks.{marked_from}
use Rattle.rebuild.proofs.put_channel.Goals as goal

pub lying-a-requires : goal.lying-a-requires
lying-a-requires g c =
    let f = c.requires in
    (rw (c.area.ensures, c.average.ensures) f.average_in, f.beside_long)

pub lying-r-requires : goal.lying-r-requires
lying-r-requires g c =
    let f = c.requires in
    (rw (c.area-2.ensures, c.residual.ensures) f.residual_in, f.beside_long)

pub slice_bounds-channel_back-end : goal.slice_bounds-channel_back-end
slice_bounds-channel_back-end g c =
    let f = c.requires in
    let e = c.area-3.ensures in
    omega (arith, f.home_in_lem, f.out_long)

pub channel_back-requires : goal.channel_back-requires
channel_back-requires g c =
    let a = c.args in
    let f = c.requires in
    let p = a.place in
    let ea = c.area.ensures ∙ ap area c.average.ensures in
    let er = c.area-2.ensures ∙ ap area c.residual.ensures in
    let e = c.area-3.ensures in
    record {
      avg_long = ap length c.lying-a.ensures ∙ source_length a.avg c.area.result a.pyramid.now a.other.now (rw ea f.average_in) f.beside_long ∙ ea;
      res_long = ap length c.lying-r.ensures ∙ source_length a.res c.area-2.result a.pyramid.now a.other.now (rw er f.residual_in) f.beside_long ∙ er;
      out_long = rw e (ap length (lent p.home (area p) a.out.now) ∙ part_length p.home (area p) a.out.now (omega (arith, f.home_in_lem, f.out_long)));
      few = omega (arith, f.home_in_lem, f.few);
      sides = f.sides;
    }

pub returns : goal.returns
returns g c =
    let a = c.args in
    let p = a.place in
    let ea = c.area.ensures ∙ ap area c.average.ensures in
    let er = c.area-2.ensures ∙ ap area c.residual.ensures in
    let avg = c.lying-a.ensures ∙ ap (λ (k : ℕ). lying_in a.avg k a.pyramid.now a.other.now) ea in
    let res = c.lying-r.ensures ∙ ap (λ (k : ℕ). lying_in a.res k a.pyramid.now a.other.now) er in
    let e = c.channel_back.ensures in (
      back p.home _ _ (channel_from a.horizontal p a.avg a.res a.pyramid.now a.other.now) a.out.now
          (made_from a.horizontal (bare p) _ _ _ _ _ e.0 avg res)
          (back_length a.horizontal (bare p) _ _ ∙ bare_samples p ∙ sym c.area-3.ensures),
      e.1 ∙ ap (λ (b : Bool). g.M.Marking.marks && b) (marked_from a.horizontal (bare p) _ _ _ _ avg res),
    )
