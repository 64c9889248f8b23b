-- The rectangle of a channel at grid position (gx, gy) (document 01, "Tiles"), in the paper's order. Definitions only.
use Rattle.std.specs.Prelude.{Bool, cond, ◌||◌, not, ℕ, zero, suc, ◌-◌, ◌*◌, ◌/◌, ◌%◌, ◌^◌, min, eqb, Result, Ok, Err}
use Rattle.numbers.specs.declared.Refusal.{Refusal}
use Rattle.numbers.specs.Numbers.{refused_form, refused_tile, number_of}
use Rattle.channel.specs.declared.Channel.{Channel}
use Rattle.channel.specs.Channel.{is_meta, is_allowed}
use Rattle.rect.specs.declared.Rect as Declared

-- the answer 0 with a rectangle, or a refusal's number with four zeros
pub record GridRect : Type 0 where
  pub answer : ℕ
  pub x : ℕ
  pub y : ℕ
  pub width : ℕ
  pub height : ℕ

-- "Group dimension is 128, 256, 512 or 1,024"
unfoldable pub group_allowed : ℕ → Bool
group_allowed group = eqb group 128 || eqb group 256 || eqb group 512 || eqb group 1024

-- "the LF dimension is 8 times that"
abbrev pub lf_dimension : ℕ → ℕ
lf_dimension group = 8 * group

-- "tile sides are the output kind's dimension shifted right by the channel's shifts"
abbrev pub tile_side : ℕ → ℕ → ℕ
tile_side dimension shift = dimension / 2 ^ shift

-- "the size is what the channel has left, at most the tile side", from "position times tile side" on
abbrev pub size_from : ℕ → ℕ → ℕ → ℕ
size_from side tile position = min (side - position * tile) tile

-- a refusal's number with four zeros
abbrev pub refused : ℕ → GridRect
refused number = record { answer = number; x = 0; y = 0; width = 0; height = 0 }

-- "None/None: the whole channel"
unfoldable pub whole : Channel → GridRect
whole c = record { answer = 0; x = 0; y = 0; width = c.width; height = c.height }

-- the rule by which a tile starts in what is stored, from the start in the channel and the LF tile side
-- "Start (0, 0) when kinds are equal, the start itself when stored None, its remainder by the LF tile side for HF on LF"
abbrev pub StartRule : Type 0
StartRule = ℕ → ℕ → ℕ

abbrev pub at_zero : StartRule
at_zero start lf = 0

abbrev pub at_start : StartRule
at_start start lf = start

abbrev pub within_lf : StartRule
within_lf start lf = start % lf

-- "If either is 0, all four numbers are 0"
abbrev pub no_tile : GridRect
no_tile = record { answer = 0; x = 0; y = 0; width = 0; height = 0 }

-- the tile of a channel that is not meta
unfoldable pub tile : StartRule → ℕ → Channel → ℕ → ℕ → ℕ → GridRect
tile rule dimension c group gx gy =
    cond (eqb (size_from c.width (tile_side dimension c.hshift) gx) 0 || eqb (size_from c.height (tile_side dimension c.vshift) gy) 0)
    no_tile
    (record {
      answer = 0;
      x = rule (gx * tile_side dimension c.hshift) (tile_side (lf_dimension group) c.hshift);
      y = rule (gy * tile_side dimension c.vshift) (tile_side (lf_dimension group) c.vshift);
      width = size_from c.width (tile_side dimension c.hshift) gx;
      height = size_from c.height (tile_side dimension c.vshift) gy;
    })

-- "a meta channel unless None/None" is refused
unfoldable pub tile_unless_meta : StartRule → ℕ → Channel → ℕ → ℕ → ℕ → GridRect
tile_unless_meta rule dimension c group gx gy = cond (is_meta c) (refused refused_tile) (tile rule dimension c group gx gy)

-- "An answer is chosen by the pair of output kind and stored kind. Kinds are None (0), LF (1) and HF (2)"; "Other pairs are refused"
unfoldable pub by_kinds : ℕ → ℕ → Channel → ℕ → ℕ → ℕ → GridRect
by_kinds zero zero c group gx gy = whole c
by_kinds zero (suc stored) c group gx gy = refused refused_tile
by_kinds (suc zero) zero c group gx gy = tile_unless_meta at_start (lf_dimension group) c group gx gy
by_kinds (suc zero) (suc zero) c group gx gy = tile_unless_meta at_zero (lf_dimension group) c group gx gy
by_kinds (suc zero) (suc (suc stored)) c group gx gy = refused refused_tile
by_kinds (suc (suc zero)) zero c group gx gy = tile_unless_meta at_start group c group gx gy
by_kinds (suc (suc zero)) (suc zero) c group gx gy = tile_unless_meta within_lf group c group gx gy
by_kinds (suc (suc zero)) (suc (suc zero)) c group gx gy = tile_unless_meta at_zero group c group gx gy
by_kinds (suc (suc zero)) (suc (suc (suc stored))) c group gx gy = refused refused_tile
by_kinds (suc (suc (suc output))) stored c group gx gy = refused refused_tile

-- question 4, then question 13, then the rectangle
unfoldable pub rect_of : Channel → ℕ → ℕ → ℕ → ℕ → ℕ → GridRect
rect_of c output stored group gx gy =
    cond (not (is_allowed c)) (refused refused_form)
    (cond (not (group_allowed group)) (refused refused_tile)
    (by_kinds output stored c group gx gy))

-- ---- what a call gives, as that record
abbrev pub told : Declared.Rect → GridRect
told r = record { answer = 0; x = r.x; y = r.y; width = r.width; height = r.height }

abbrev pub answered : Result Declared.Rect Refusal → GridRect
answered (Ok r) = told r
answered (Err refusal) = refused (number_of refusal)
