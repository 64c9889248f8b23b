-- Demand 3 over a whole list of tile calls: "Wherever a squeeze is cut into tiles as in 01 .. the tile calls together give exactly the samples of
-- 01's uncut squeeze, each in its place, whatever refused calls stand between them". And what they tell of the plain range (document 02, A.3) is what the
-- uncut squeeze's mark says. Statements only; proofs/Together.antt proves it.
use Rattle.std.specs.Prelude.{◌≡◌, List, [], ◌∷◌, ℕ, ◌+◌, ◌-◌, ◌<◌, ◌≤◌, pos, get_or}
use Rattle.line.specs.Uncut.{Squeeze, place, size, uncut}
use Rattle.line.specs.Marks.{squeeze_marked}
use Rattle.tile.specs.Call.{answer}
use Rattle.cuts.specs.Cut.{Strip, Cut, tile_size, tile_start, tile_out, tile_call, State, Event, runs, other, happens, together, marks, AllRan}

-- "each tile has one accepted call": as the list goes, the call of each tile is accepted
abbrev pub accepted : (s : Squeeze) → Cut s → Event → State → Type 0
accepted s cut (runs k) state = answer (tile_call s (cut.strip k) (state.slices k) (state.done k)) ≡ 0
accepted s cut (other k t c) state = Unit {0}

abbrev pub AllAccepted : (s : Squeeze) → Cut s → List Event → State → Type 0
AllAccepted s cut [] state = Unit {0}
AllAccepted s cut (e ∷ es) state = accepted s cut e state × AllAccepted s cut es (happens s cut e state)

-- "exactly the samples of 01's uncut squeeze": each tile's slice is its part of them
abbrev pub AllHold : (s : Squeeze) → Cut s → State → Type 0
AllHold s cut state = (k t : ℕ) → k < cut.strips → t < (cut.strip k).tiles → state.slices k t ≡ tile_out s (cut.strip k) t

-- ---- "each in its place"
-- position i of line k of the whole output lies in tile t of strip p
pub record LiesIn (s : Squeeze) (p : Strip) (t k i : ℕ) : Type 0 where
  pub tile : t < p.tiles
  pub line_from : p.start ≤ k
  pub line_below : k < p.start + p.lines
  pub from : tile_start p t ≤ i
  pub below : i < tile_start p t + tile_size s p t

-- and stands in that tile's slice at
abbrev pub place_in : Squeeze → Strip → ℕ → ℕ → ℕ → ℕ
place_in s p t k i = place s.horizontal p.lines (tile_size s p t) (k - p.start) (i - tile_start p t)

-- position i of line k lies in one tile of the cut, and in no other
pub record InOneTile (s : Squeeze) (cut : Cut s) (k i : ℕ) : Type 0 where
  pub strip : ℕ
  pub tile : ℕ
  pub inside : strip < cut.strips
  pub lies : LiesIn s (cut.strip strip) tile k i
  pub only : (n t : ℕ) → n < cut.strips → LiesIn s (cut.strip n) t k i → (n ≡ strip) × (t ≡ tile)

-- and that tile's slice holds there the uncut squeeze's sample
pub record InItsPlace (s : Squeeze) (cut : Cut s) (state : State) (k i : ℕ) : Type 0 where
  pub one : InOneTile s cut k i
  pub sample : get_or (state.slices one.strip one.tile) (place_in s (cut.strip one.strip) one.tile k i) (pos 0)
      ≡ get_or (uncut s) (place s.horizontal s.lines (size s) k i) (pos 0)

abbrev pub EachInItsPlace : (s : Squeeze) → Cut s → State → Type 0
EachInItsPlace s cut state = (k i : ℕ) → k < s.lines → i < size s → InItsPlace s cut state k i

-- ---- the claim, of a list of calls from a state on; where each tile of each strip has run the slices hold the output
pub record GiveUncut (s : Squeeze) (cut : Cut s) (es : List Event) (state : State) : Type 0 where
  pub accepted : AllAccepted s cut es state
  pub hold : AllRan s cut (together s cut es state) → AllHold s cut (together s cut es state)
  pub placed : AllRan s cut (together s cut es state) → EachInItsPlace s cut (together s cut es state)
  -- some call tells the mark exactly if the uncut squeeze has it
  pub marked : AllRan s cut (together s cut es state) → marks s cut es state ≡ squeeze_marked s
