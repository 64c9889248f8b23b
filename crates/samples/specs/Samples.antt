-- Numbers and samples as files store them: four bytes each, least byte first. Definitions only.
use Rattle.std.specs.Prelude.{List, ℕ, ◌+◌, ◌*◌, ℤ, pos, get_or}
use Rattle.arith32.specs.Arith.{wrap}

-- a byte of a list; past its end 0
abbrev pub byte_at : List ℕ → ℕ → ℕ
byte_at bytes at = get_or bytes at 0

-- the number whose four bytes start at `at`, and the sample that has its bits
unfoldable pub word_at : List ℕ → ℕ → ℕ
word_at bytes at = byte_at bytes at + 0x100 * byte_at bytes (at + 1) + 0x1_0000 * byte_at bytes (at + 2) + 0x100_0000 * byte_at bytes (at + 3)

unfoldable pub sample_at : List ℕ → ℕ → ℤ
sample_at bytes at = wrap (pos (word_at bytes at))

-- sample k of those stored one after the other
abbrev pub stored : List ℕ → ℕ → ℤ
stored bytes k = sample_at bytes (4 * k)
