-- A field's head and what it holds, as values of the code, for the contracts of the private functions that read them. Definitions only; no public
-- contract cites them.
use Rattle.std.specs.Prelude.{cond, List, ℕ, Option, Some, None}
use Rattle.record.specs.declared.Head.{Head}
use Rattle.record.specs.declared.Field.{Field}
use Rattle.record.specs.Reading.{tag_of, length_of, field_inside, is_step, field_step, field_channel}

abbrev pub head_at : List ℕ → Head
head_at bytes = record { tag = tag_of bytes; size = length_of bytes }

-- the head, where it and the body lie inside the bytes
abbrev pub head_inside : List ℕ → Option Head
head_inside bytes = cond (field_inside bytes) (Some (head_at bytes)) None

-- a step or a channel, by the tag
abbrev pub field_of : List ℕ → Field
field_of bytes = cond (is_step bytes) (Field.Step (field_step bytes)) (Field.Channel (field_channel bytes))
