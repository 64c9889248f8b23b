-- The numbers of documents 01 and 02 that more than one crate uses: two limits, and what each refusal answers ("The questions"). Definitions only.
use Rattle.std.specs.Prelude.{ℕ, Result, Ok, Err}
use Rattle.numbers.specs.declared.Refusal.{Refusal}
use Rattle.numbers.specs.declared.Refusal.TheVariants.{Outside, Field, Count, Form, Samples, Default, Range, Kinds, Place, Empty, Room, Sizes, Tile, Length}

-- A.8: "Raise a side's limit to 1,048,575, in tile calls too"
abbrev pub max_side : ℕ
max_side = 1_048_575

-- 5. ".. number at most 16,777,216?"
abbrev pub max_samples : ℕ
max_samples = 16_777_216

-- 1. "Does the field's three-byte head, and its stated length, lie inside the bytes?"
abbrev pub refused_outside : ℕ
refused_outside = 1

-- 2. "Is the tag known, the length its own, and no channel after a step?"
abbrev pub refused_field : ℕ
refused_field = 2

-- 3. "Are there 1 to 256 channels and at most 64 steps?"
abbrev pub refused_count : ℕ
refused_count = 3

-- 4. "Are shifts 0 to 30 or both 255, meta channels first, other flag bits 0?" A.8: "a side above the limit, is refused with 4"
abbrev pub refused_form : ℕ
refused_form = 4

-- 5. "Do all samples of the list, or of each rectangle of a tile call, number at most 16,777,216?"
abbrev pub refused_samples : ℕ
refused_samples = 5

-- 6. "Default plan: is there a channel that is not meta?"
abbrev pub refused_default : ℕ
refused_default = 11

-- 7. "Is the number at least 1 and first + number at most the channel count?"
abbrev pub refused_range : ℕ
refused_range = 6

-- 8. "Are the first and last of the range both meta or both not?"
abbrev pub refused_kinds : ℕ
refused_kinds = 7

-- 9. "If meta, is the step in place?"
abbrev pub refused_place : ℕ
refused_place = 8

-- 10. "Has every channel of the range both sides above 0?"
abbrev pub refused_empty : ℕ
refused_empty = 9

-- 11. "Will there be at most 256 channels and no shift above 30?"
abbrev pub refused_room : ℕ
refused_room = 10

-- 12. "Tile call: do the sizes fit, as told below?"
abbrev pub refused_sizes : ℕ
refused_sizes = 13

-- 13. "Rectangle call: are kind and group dimension allowed, as told below?"
abbrev pub refused_tile : ℕ
refused_tile = 14

-- 14. "Has each sample slice exactly its length, and a slice for the record at least the bytes needed?"
abbrev pub refused_length : ℕ
refused_length = 12

-- ---- the refusals as values, each with its number
abbrev pub number_of : Refusal → ℕ
number_of Outside = refused_outside
number_of Field = refused_field
number_of Count = refused_count
number_of Form = refused_form
number_of Samples = refused_samples
number_of Default = refused_default
number_of Range = refused_range
number_of Kinds = refused_kinds
number_of Place = refused_place
number_of Empty = refused_empty
number_of Room = refused_room
number_of Sizes = refused_sizes
number_of Tile = refused_tile
number_of Length = refused_length

-- what a call answers: 0, or the refusal's number
abbrev pub answer_of : {A : Type 0} → Result A Refusal → ℕ
answer_of (Ok _) = 0
answer_of (Err refusal) = number_of refusal
