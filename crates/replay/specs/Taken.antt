-- What is taken of an input, where its bytes are known. Definitions only.
use Rattle.std.specs.Prelude.{◌≡◌, ℕ, List, ◌++◌, length, Option}
use Rattle.std.specs.Io.KnownBytes.{Consumes}
use Rattle.samples.specs.Samples.{word_at}

-- the four bytes of a number
abbrev pub TakesWord : Option (List ℕ) → Option (List ℕ) → ℕ → Type 0
TakesWord old new n = (bytes : List ℕ) × (length bytes ≡ 4) × (word_at bytes 0 ≡ n) × Consumes old new bytes

-- the four bytes of a case's length, and then the case
abbrev pub TakesCase : Option (List ℕ) → Option (List ℕ) → List ℕ → Type 0
TakesCase old new case = (head : List ℕ) × (length head ≡ 4) × (word_at head 0 ≡ length case) × Consumes old new (head ++ case)
