-- Entries as numbers over the front of a slice, one entry after the other: what a loop leaves that is told each entry by its index. Definitions only.
use Rattle.std.specs.Prelude.{◌≡◌, List, ℕ, ◌<◌, length, get_or}
use Rattle.record.specs.Bytes.{joined}
use Rattle.layout.specs.Layout.{over}

-- `count` entries, each one that `gives` allows at its index
pub record Entries {T : Type 0} (numbers_of : T → List ℕ) (gives : ℕ → T → Type 0) (count : ℕ) (out out' : List ℕ) : Type 0 where
  pub entries : List T
  pub many : length entries ≡ count
  pub given : (k : ℕ) (d : T) → k < count → gives k (get_or entries k d)
  pub put : out' ≡ over (joined numbers_of entries) out
