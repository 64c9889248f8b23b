-- Demand 2 for tile calls: without outer lines, and where every sample read or made lies in the domain, the output slice is the standard's.
-- Statements only; proofs/AsStandard.antt proves it.
use Rattle.std.specs.Prelude.{◌≡◌, []}
use Rattle.line.specs.Plain.{AllInDomain, IsStandard}
use Rattle.tile.specs.Call.{Call, answer, squeeze_of, after}

-- "every sample read or made" lies in the domain
pub record InDomainCall (c : Call) : Type 0 where
  pub avg : AllInDomain c.avg
  pub res : AllInDomain c.res
  pub out : AllInDomain (after c)

abbrev pub TileIsStandard : Type 0
TileIsStandard = (c : Call) → answer c ≡ 0 → c.next ≡ [] → c.prev ≡ [] → InDomainCall c → IsStandard (squeeze_of c) (after c)
