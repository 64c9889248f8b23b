-- A channel (document 01, "The entry"): "each has width and height .. and is either meta or has two shifts (0 to 30)"; its sides are at most
-- 1,048,575 (document 02, A.8).
-- Definitions only.
use Rattle.std.specs.Prelude.{Bool, ◌&&◌, ◌||◌, ℕ, ◌*◌, eqb, leb}
use Rattle.numbers.specs.Numbers.{max_side}
use Rattle.channel.specs.declared.Channel.{Channel}

-- A.8: "Raise a side's limit to 1,048,575"
unfoldable pub sides_fit : Channel → Bool
sides_fit c = leb c.width max_side && leb c.height max_side

-- the largest shift, and the shift that marks a meta channel in both directions
abbrev pub max_shift : ℕ
max_shift = 30

abbrev pub meta_shift : ℕ
meta_shift = 255

-- "both shifts 255 mean meta"
unfoldable pub is_meta : Channel → Bool
is_meta c = eqb c.hshift meta_shift && eqb c.vshift meta_shift

-- question 4: "Are shifts 0 to 30 or both 255"
unfoldable pub shifts_allowed : Channel → Bool
shifts_allowed c = is_meta c || (leb c.hshift max_shift && leb c.vshift max_shift)

-- question 4 of one channel, with A.8: "a side above the limit, is refused with 4"
unfoldable pub is_allowed : Channel → Bool
is_allowed c = shifts_allowed c && sides_fit c

unfoldable pub samples : Channel → ℕ
samples c = c.width * c.height
