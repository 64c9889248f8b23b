-- What a slice of samples holds after another was copied over its front, and after it was cleared. Definitions only.
use Rattle.std.specs.Prelude.{List, ◌++◌, ℕ, min, ℤ, pos, length, take, drop, replicate}

-- the samples that both slices have room for
abbrev pub both : List ℤ → List ℤ → ℕ
both from to = min (length from) (length to)

unfoldable pub copied : List ℤ → List ℤ → List ℤ
copied from to = take (both from to) from ++ drop (both from to) to

-- as many zeros as a slice has samples
unfoldable pub zeros : List ℤ → List ℤ
zeros xs = replicate (length xs) (pos 0)
