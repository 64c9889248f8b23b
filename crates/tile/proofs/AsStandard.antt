-- On the domain of demand 2 an accepted tile call without outer lines leaves the standard's output (specs/Plain.antt): it makes the uncut squeeze,
-- which is the standard's there (crate line). Assumes nothing.
use mathlib.Core.Path.{◌≡◌}
use mathlib.Core.List.{[]}
use Rattle.line.specs.Uncut.{uncut}
use Rattle.line.specs.Plain.{AllInDomain, IsStandard}
use Rattle.line.proofs.Plain.{uncut_standard}
use Rattle.tile.specs.Call.{Call, answer, squeeze_of}
use Rattle.tile.specs.Plain.{InDomainCall, TileIsStandard}
use Rattle.tile.proofs.Fitted.{fits, fitting, made}

module _ (c : Call) (a : answer c ≡ 0) (no-next : c.next ≡ []) (no-prev : c.prev ≡ []) (d : InDomainCall c) where
  uncut_domain : AllInDomain (uncut (squeeze_of c))
  uncut_domain = rw (made c a) at d.out

  squeeze_standard : IsStandard (squeeze_of c) (uncut (squeeze_of c))
  unfolding squeeze_of
  squeeze_standard =
      let f = fits c a in
      uncut_standard (squeeze_of c) (fitting c f.0 f.1) no-next no-prev (record { avg = d.avg; res = d.res; out = uncut_domain })

-- Demand 2, for tile calls
pub tile_is_standard : TileIsStandard
tile_is_standard c a no-next no-prev d = rw (made c a) (squeeze_standard c a no-next no-prev d)
