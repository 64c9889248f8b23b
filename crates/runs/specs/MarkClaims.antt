-- What the marks of whole runs (specs/Marks.antt) say (document 02, A.3), over any list of steps, refused ones included. Statements only;
-- proofs/Marks.antt, proofs/Other.antt, proofs/Untouched.antt and proofs/Witness.antt prove them.
use Rattle.std.specs.Prelude.{◌≡◌, Bool, true, false, cond, ◌⊎◌, List, [], ◌∷◌, ℕ, ◌+◌, ◌<◌, ◌≤◌, ℤ, pos, negsuc, set}
use Rattle.std.specs.List.{All}
use Rattle.channel.specs.declared.Channel.{Channel}
use Rattle.range.specs.Range.{some_outside}
use Rattle.list.specs.declared.Step.{Step}
use Rattle.list.specs.Lists.{stepped}
use Rattle.runs.specs.Parts.{parts}
use Rattle.runs.specs.Runs.{behind, place_after, is_taken, layout, rebuilt, squeezed}
use Rattle.runs.specs.Claim.{Fills}
use Rattle.runs.specs.Unbounded.{standard_run, RunInDomain}
use Rattle.runs.specs.Marks.{step_marked, run_marked, step_written_marked, run_written_marked}

-- a mark is false exactly where a fact holds
abbrev pub Exactly : Bool → Type 0 → Type 0
Exactly mark Inside = (mark ≡ false → Inside) × (Inside → mark ≡ false)

-- of a pyramid of the layout: "'Inside' for a whole run must mean exactly that the picture is within the domain on which standard and Rust are equalled"
abbrev pub InsideExactly : List Step → List Channel → Type 0
InsideExactly ss cs = (ys : List ℤ) → Fills (layout ss cs) ys → Exactly (run_marked ss cs ys) (RunInDomain ss cs ys)

-- and so without a mark the picture is the standard's
abbrev pub UnmarkedStandard : List Step → List Channel → Type 0
UnmarkedStandard ss cs =
    (ys : List ℤ) → Fills (layout ss cs) ys → run_marked ss cs ys ≡ false → rebuilt ss cs ys ≡ standard_run ss cs ys

-- the writer of a picture tells the mark that rebuilding its pyramid tells
abbrev pub SameMark : List Step → List Channel → Type 0
SameMark ss cs = (xs : List ℤ) → Fills cs xs → run_written_marked ss cs xs ≡ run_marked ss cs (squeezed ss cs xs)

-- where a channel outside a step's range stands, in the list before the step and in the list after it
abbrev pub OtherBefore : Step → ℕ → Type 0
OtherBefore s k = (k < s.begin) ⊎ (s.begin + s.number ≤ k)

abbrev pub OtherAfter : Step → List Channel → ℕ → Type 0
OtherAfter s cs k =
    (k < s.begin)
    ⊎ cond s.inplace (s.begin + s.number + s.number ≤ k) ((s.begin + s.number ≤ k) × (k < s.begin + s.number + behind s cs))

-- "a channel outside a step's range is neither read nor made in that step": whatever stands there, the step's mark is the same
pub record OnlyRange (s : Step) (cs : List Channel) : Type 0 where
  pub back : (ps : List (List ℤ)) (k : ℕ) (p : List ℤ) → OtherAfter s cs k → step_marked s cs (set ps k p) ≡ step_marked s cs ps
  pub forward : (ps : List (List ℤ)) (k : ℕ) (p : List ℤ) → OtherBefore s k → step_written_marked s cs (set ps k p) ≡ step_written_marked s cs ps

-- where no step is taken nothing is read or made, and nothing is marked, whatever the samples are
abbrev pub NoStepNoMark : List Step → List Channel → Type 0
NoStepNoMark ss cs =
    All (λ s. is_taken s cs ≡ false) ss
    → (xs : List ℤ) → (run_marked ss cs xs ≡ false) × (run_written_marked ss cs xs ≡ false)

-- no step that is taken has the channel at k in its range
abbrev pub Untouched : List Step → List Channel → ℕ → Type 0
Untouched [] cs k = Unit {0}
Untouched (s ∷ ss) cs k = cond (is_taken s cs) (OtherBefore s k × Untouched ss (stepped s cs) (place_after s k)) (Untouched ss cs k)

-- two pictures that are the same but for the channel at k
pub record SameBut (cs : List Channel) (k : ℕ) (xs ys : List ℤ) : Type 0 where
  pub part : List ℤ
  pub others : parts cs ys ≡ set (parts cs xs) k part

-- a channel that no step touches never marks: pictures that are the same but for it have one mark, and so have their pyramids
pub record NeverMarks (ss : List Step) (cs : List Channel) (k : ℕ) : Type 0 where
  pub forward : (xs ys : List ℤ) → Fills cs xs → Fills cs ys → SameBut cs k xs ys → run_written_marked ss cs ys ≡ run_written_marked ss cs xs
  pub back : (xs ys : List ℤ) → Fills (layout ss cs) xs → Fills (layout ss cs) ys → SameBut cs k (rebuilt ss cs xs) (rebuilt ss cs ys)
      → run_marked ss cs ys ≡ run_marked ss cs xs

-- ---- witnesses
-- a channel of 2 by 1 samples, alone and before one of a single sample, and a horizontal step on it
abbrev pub small : ℕ → Channel
small width = record { width = width; height = 1; hshift = 0; vshift = 0 }

abbrev pub alone : List Channel
alone = small 2 ∷ []

abbrev pub paired : List Channel
paired = small 2 ∷ small 1 ∷ []

abbrev pub one_step : List Step
one_step = record { horizontal = true; inplace = true; begin = 0; number = 1 } ∷ []

-- the highest and the lowest sample of the plain range, and their pyramid; plain samples, and the largest sample that there is in the other channel
abbrev pub far_apart : List ℤ
far_apart = pos 268_435_455 ∷ negsuc 268_435_455 ∷ []

abbrev pub far_pyramid : List ℤ
far_pyramid = pos 0 ∷ pos 536_870_911 ∷ []

abbrev pub beside : List ℤ
beside = pos 3 ∷ pos 1 ∷ pos 2_147_483_647 ∷ []

pub record Witness : Type 0 where
  -- a picture of the plain range can have a pyramid outside
  pub inside : some_outside far_apart ≡ false
  pub pyramid : squeezed one_step alone far_apart ≡ far_pyramid
  pub picture : rebuilt one_step alone far_pyramid ≡ far_apart
  pub back : run_marked one_step alone far_pyramid ≡ true
  pub forward : run_written_marked one_step alone far_apart ≡ true
  -- and a sample outside in a channel that no step touches does not mark
  pub untouched : Untouched one_step paired 1
  pub outside : some_outside beside ≡ true
  pub back_beside : run_marked one_step paired (squeezed one_step paired beside) ≡ false
  pub forward_beside : run_written_marked one_step paired beside ≡ false
