-- `Cell::tile` meets its contract: a channel that is not meta has shifts up to 30 (proofs/Allowed.antt), and its two directions make the rectangle
-- (proofs/Tiles.antt). Assumes nothing.
use mathlib.Core.Bool.{true}
use mathlib.Core.Path.{◌≡◌, refl, sym, ◌∙◌}
use Rattle.channel.specs.Channel.{is_meta}
use Rattle.rect.specs.Rect.{tile_unless_meta}
use Rattle.rect.proofs.Allowed.{shifts_small}
use Rattle.rect.proofs.Tiles.{tile_joined}
use Rattle.rect.proofs.Cell.tile.Goals as goal
use Rattle.rect.proofs.Cell.tile.Goals.{in_default-via-in-Some+in_default, in_default-via-in_default}

pub returns-then-is_meta : goal.returns-then-is_meta
unfolding tile_unless_meta
returns-then-is_meta c =
    let meta : is_meta c.args.self.channel ≡ true = sym c.is_meta.ensures ∙ c.if-is_meta.true in
    rw meta

pub span_of-across-requires : goal.span_of-across-requires
span_of-across-requires c =
    (record { within = c.requires; small = c.args.self.small }, (shifts_small c.args.self.channel (sym c.is_meta.ensures ∙ c.if-is_meta.false) c.args.self.allowed).0)

pub span_of-down-requires : goal.span_of-down-requires
span_of-down-requires c =
    (record { within = c.requires; small = c.args.self.small }, (shifts_small c.args.self.channel (sym c.is_meta.ensures ∙ c.if-is_meta.false) c.args.self.allowed).1)

pub returns-in-Some-Some : goal.returns-in-Some-Some
returns-in-Some-Some c =
    tile_joined _ _ _ _ _ c.args.self.channel (sym c.is_meta.ensures ∙ c.if-is_meta.false)
    (sym c.in-Some-Some.is-0 ∙ c.span_of-across.ensures)
    (sym c.in-Some-Some.is-1 ∙ c.span_of-down.ensures)

pub returns-in_default : goal.returns-in_default
returns-in_default c =
    let none = c.default.ensures in
    rw (none.0, none.1.0, none.1.1.0, none.1.1.1)
    (elim c.in_default.branch [
      | in_default-via-in-Some+in_default w ↦
          tile_joined _ _ _ _ _ c.args.self.channel (sym c.is_meta.ensures ∙ c.if-is_meta.false)
          (sym w.in_default.is-0 ∙ c.span_of-across.ensures)
          (sym w.in_default.is-1 ∙ c.span_of-down.ensures)
      | in_default-via-in_default w ↦
          tile_joined _ _ _ _ _ c.args.self.channel (sym c.is_meta.ensures ∙ c.if-is_meta.false)
          (sym w.in_default.is-0 ∙ c.span_of-across.ensures)
          refl
    ])
