-- The two directions of a tile make its rectangle: all zeros where one of them is empty, else the starts and sizes. Assumes nothing.
use mathlib.Core.Bool.{Bool, true, false, ◌||◌}
use mathlib.Core.Path.{◌≡◌, refl}
use Prim.Native.Nat.{ℕ}
use lib.Dec.{eqb}
use Rattle.std.specs.declared.option.Option.{Option}
use Rattle.std.specs.Prelude.{cond, None, Some}
use Rattle.channel.specs.declared.Channel.{Channel}
use Rattle.channel.specs.Channel.{is_meta}
use Rattle.rect.specs.declared.Span.{Span}
use Rattle.rect.specs.Rect.{GridRect, StartRule, no_tile, tile_side, size_from, tile, tile_unless_meta}
use Rattle.rect.specs.Parts.{span_of}

-- the rectangle of two directions
abbrev pub joined : Option Span → Option Span → GridRect
joined None down = no_tile
joined (Some across) None = no_tile
joined (Some across) (Some down) = record { answer = 0; x = across.start; y = down.start; width = across.size; height = down.size }

by_tests : (p q : Bool) (s t : Span)
    → joined (cond p None (Some s)) (cond q None (Some t))
    ≡ cond (p || q) no_tile (record { answer = 0; x = s.start; y = t.start; width = s.size; height = t.size })
by_tests true q s t = refl
by_tests false true s t = refl
by_tests false false s t = refl

pub tile_joined : (rule : StartRule) (dimension group gx gy : ℕ) (c : Channel) → is_meta c ≡ false → {across down : Option Span}
    → across ≡ span_of rule dimension group c.width c.hshift gx
    → down ≡ span_of rule dimension group c.height c.vshift gy
    → joined across down ≡ tile_unless_meta rule dimension c group gx gy
unfolding tile tile_unless_meta
tile_joined rule dimension group gx gy c plain a d =
    rw (plain, a, d)
    (by_tests (eqb (size_from c.width (tile_side dimension c.hshift) gx) 0) (eqb (size_from c.height (tile_side dimension c.vshift) gy) 0) _ _)
