-- What allowed shifts are: both at most 30 where the channel is not meta, and at most 255 in any case. Assumes nothing.
use mathlib.Core.Path.{◌≡◌, refl}
use mathlib.Core.Bool.{Bool, true, false, and-eq-true_iff}
use Prim.Native.Nat.{◌≤◌}
use native.Mathlib.Omega.{arith}
use lib.Dec.{eqb, leb}
use borrow.Author.Tests.{eqb-true, leb-true}
use Rattle.channel.specs.declared.Channel.{Channel}
use Rattle.channel.specs.Channel.{max_shift, meta_shift, is_meta, shifts_allowed}

pub plain_shifts : (c : Channel) → shifts_allowed c ≡ true → is_meta c ≡ false → (c.hshift ≤ max_shift) × (c.vshift ≤ max_shift)
unfolding shifts_allowed
plain_shifts c a e =
    let b = (and-eq-true_iff (leb c.hshift max_shift) (leb c.vshift max_shift)).0 (rw e at a) in
    (leb-true _ _ b.0, leb-true _ _ b.1)

meta_shifts : (c : Channel) → is_meta c ≡ true → (c.hshift ≡ meta_shift) × (c.vshift ≡ meta_shift)
unfolding is_meta
meta_shifts c e =
    let b = (and-eq-true_iff (eqb c.hshift meta_shift) (eqb c.vshift meta_shift)).0 e in
    (eqb-true _ _ b.0, eqb-true _ _ b.1)

pub shifts_small : (c : Channel) → shifts_allowed c ≡ true → (c.hshift ≤ meta_shift) × (c.vshift ≤ meta_shift)
shifts_small c a = go (is_meta c) refl
  where
    go : (m : Bool) → is_meta c ≡ m → (c.hshift ≤ meta_shift) × (c.vshift ≤ meta_shift)
    go true e = let s = meta_shifts c e in (omega arith, omega arith)
    go false e = let s = plain_shifts c a e in (omega arith, omega arith)
