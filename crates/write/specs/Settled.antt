-- The end of the writer's run: each channel from where it stands to its start in the pyramid, and what the functions for that ask and leave.
-- Definitions only.
use Rattle.std.specs.Prelude.{◌≡◌, cond, ◌&&◌, List, ℕ, ◌+◌, ◌<◌, ◌≤◌, eqb, ℤ, length, get_or}
use Rattle.list.specs.Tables.{table}
use Rattle.places.specs.declared.Place.{Place}
use Rattle.places.specs.Places.{area, is_unmade, is_odd, sum}
use Rattle.places.specs.Laid.{Apart, part}
use Rattle.runs.specs.Parts.{joined}
use Rattle.write.specs.Standing.{lying}

-- what is to stand at the start of a place: from the picture, as it stands already, or from the work slice
unfoldable pub settling : List ℤ → List ℤ → List ℤ → ℕ → Place → List ℤ
settling picture pyramid work start p =
    cond (is_unmade p.slot) (part p.home (area p) picture)
    (cond (is_odd p.slot && eqb p.home start) (part start (area p) pyramid) (part p.home (area p) work))

-- the work slice before and after it took the channel at p, if the pyramid has it elsewhere than at its start
pub record Moved (start : ℕ) (p : Place) (pyramid work work' : List ℤ) : Type 0 where
  pub own : (picture : List ℤ) → settling picture pyramid work' start p ≡ lying picture pyramid work p
  pub kept : (q : Place) → q.home + area q ≤ length pyramid → Apart q.home (area q) p.home (area p)
      → part q.home (area q) work' ≡ part q.home (area q) work

-- after all of them the slices have what is to stand at each start
abbrev pub Cleared : ℕ → (ℕ → Place) → List ℕ → List ℤ → List ℤ → List ℤ → Type 0
Cleared count at starts pyramid work work' =
    (picture : List ℤ) (k : ℕ) → k < count → settling picture pyramid work' (get_or starts k 0) (at k) ≡ lying picture pyramid work (at k)

-- the starts are the sums of the samples before, and all samples together are n
pub record Starting (n count : ℕ) (at : ℕ → Place) (starts : List ℕ) : Type 0 where
  pub inside : (k : ℕ) → k < count → (at k).home + area (at k) ≤ n
  pub start : (k : ℕ) → k < count → get_or starts k 0 ≡ sum (table (λ j. area (at j)) 0 k)
  pub whole : sum (table (λ j. area (at j)) 0 count) ≡ n

-- the pyramid afterwards
abbrev pub settled : List ℤ → List ℤ → List ℤ → (ℕ → Place) → List ℕ → ℕ → List ℤ
settled picture pyramid work at starts count = joined (table (λ k. settling picture pyramid work (get_or starts k 0) (at k)) 0 count)
