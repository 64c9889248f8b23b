-- The parts of a field that the private functions read and write: its head, and a channel's side of two or four bytes. Definitions only; no public
-- contract cites them.
use Rattle.std.specs.Prelude.{Bool, cond, List, [], ◌∷◌, ℕ, ◌+◌}
use Rattle.record.specs.Bytes.{low, high, word, long}
use Rattle.record.specs.Reading.{byte_at}

-- a field's tag and stated length
abbrev pub head : ℕ → ℕ → List ℕ
head tag size = tag ∷ low size ∷ high size ∷ []

-- the bytes of a side, of a strip or of another channel
abbrev pub side_size : Bool → ℕ
side_size strip = cond strip 4 2

-- the side whose bytes begin at `at`
abbrev pub side_at : List ℕ → ℕ → Bool → ℕ
side_at bytes at strip =
    cond strip (long (byte_at bytes at) (byte_at bytes (at + 1)) (byte_at bytes (at + 2)) (byte_at bytes (at + 3)))
    (word (byte_at bytes at) (byte_at bytes (at + 1)))
