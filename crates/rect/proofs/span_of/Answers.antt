-- `span_of` meets its contract. A tile side is at most its dimension, so a start is at most 65,535 * 8,192 and fits. A tile side is at most the LF tile side,
-- which is therefore above 0 where the tile is not empty. Assumes nothing.
use Prim.Native.Nat.{◌≤◌}
use native.Mathlib.Nat.{mul-le-mul_left}
use native.Mathlib.Omega.{arith}
use lib.Pow.{shr_le, shr_mono}
use Rattle.rect.specs.Rect.{lf_dimension}
use Rattle.rect.specs.Parts.{max_group}
use Rattle.rect.proofs.span_of.Goals as goal

pub overflow_mul-start : goal.overflow_mul-start
overflow_mul-start c =
    let a = c.args in
    let t : c.tile_side-tile.result ≤ lf_dimension max_group = omega (arith, shr_le a.dimension a.shift) in
    omega (arith, mul-le-mul_left a.position t)

pub start-requires : goal.start-requires
start-requires c =
    omega (arith, shr_mono c.args.shift c.requires.0.within)
