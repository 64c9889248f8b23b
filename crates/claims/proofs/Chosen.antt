-- The rectangle of a channel past the questions on the channel and the group dimension is the one that the pair of kinds chooses. Assumes nothing.
use mathlib.Core.Bool.{true}
use mathlib.Core.Path.{◌≡◌}
use Prim.Native.Nat.{ℕ}
use Rattle.channel.specs.declared.Channel.{Channel}
use Rattle.channel.specs.Channel.{is_allowed}
use Rattle.rect.specs.Rect.{GridRect, group_allowed, by_kinds, rect_of}

module _ (c : Channel) (output stored group gx gy : ℕ) (four : is_allowed c ≡ true) (thirteen : group_allowed group ≡ true) where
  pub by_kinds_lem : (r : GridRect) → r ≡ by_kinds output stored c group gx gy → r ≡ rect_of c output stored group gx gy
  unfolding rect_of
  by_kinds_lem r e = rw (four, thirteen) e
