-- Document 01's own case ("Wrong, but natural"): "averages 10, 4 with residuals 1, 0 cut in two". All that the claim over tile calls asks holds of
-- it, and the tiles' slices then hold 11 9 and 4 4. A statement only; proofs/Witness.antt proves it.
use Rattle.std.specs.Prelude.{◌≡◌, true, false, List, [], ◌∷◌, ℤ, pos}
use Rattle.line.specs.Uncut.{Squeeze, squeeze, Fitting, uncut}
use Rattle.tile.specs.Call.{Call, call}
use Rattle.cuts.specs.Cut.{Strip, Cut, State, Event, runs, other, together, marks, all_allowed, Begins, AllRan}

abbrev pub row_of : ℤ → Squeeze
row_of residual = squeeze true 1 2 2 (pos 10 ∷ pos 4 ∷ []) (pos 1 ∷ residual ∷ []) [] []

abbrev pub row : Squeeze
row = row_of (pos 0)

-- the same, with a second residual outside the plain range
abbrev pub far : Squeeze
far = row_of (pos 268_435_456)

-- cut into two tiles of one pair each, in one strip
abbrev pub halves : Strip
halves = record { start = 0; lines = 1; tiles = 2; from = λ t. t }

-- a call that is refused on any slice: one residual and no average
abbrev pub unfit : Call
unfit = call 1 0 1 1 1 1 1 [] (pos 1 ∷ []) [] [] []

-- the two tiles in their order, and refused calls on both slices between them
abbrev pub calls : List Event
calls = runs 0 ∷ other 0 0 unfit ∷ other 0 1 unfit ∷ runs 0 ∷ []

-- at the start the slices hold something else
abbrev pub begun : State
begun = record { slices = λ k t. pos 7 ∷ pos 7 ∷ []; done = λ k. 0 }

pub record Witness : Type 0 where
  pub fitting : Fitting row
  pub cut : Cut row
  pub one_strip : cut.strips ≡ 1
  pub two_tiles : cut.strip 0 ≡ halves
  pub begins : Begins row cut begun
  pub allowed : all_allowed row cut calls begun
  pub ran : AllRan row cut (together row cut calls begun)
  pub first : (together row cut calls begun).slices 0 0 ≡ pos 11 ∷ pos 9 ∷ []
  pub second : (together row cut calls begun).slices 0 1 ≡ pos 4 ∷ pos 4 ∷ []
  pub whole : uncut row ≡ pos 11 ∷ pos 9 ∷ pos 4 ∷ pos 4 ∷ []
  -- "Ending a tile on its own average" the first "would start 10 9"
  pub on_its_own : uncut (squeeze true 1 1 1 (pos 10 ∷ []) (pos 1 ∷ []) [] []) ≡ pos 10 ∷ pos 9 ∷ []
  -- the calls tell no mark; of the row with the second residual outside they tell one
  pub plain : marks row cut calls begun ≡ false
  pub far_cut : Cut far
  pub far_marked : marks far far_cut calls begun ≡ true
