-- The calls that tell a mark (document 02, A.3), beside those that do not: a slice for one number comes with the other slices, and "question 14" judges it
-- with them. Answer and slices are those of the call without a mark. The mark is 0 or 1; "a refusal has no mark": the slice stays. Definitions only.
use Rattle.std.specs.Prelude.{Bool, cond, List, ◌∷◌, ℕ, eqb, leb, ℤ, length, drop}
use Rattle.numbers.specs.Numbers.{refused_length}
use Rattle.list.specs.Questions.{ask}
use Rattle.record.specs.Records.{channels_of, steps_of}
use Rattle.runs.specs.Marks.{run_marked, run_written_marked}

-- the answer, from that of the call without a mark and the mark's slice
unfoldable pub with_mark : ℕ → List ℕ → ℕ
with_mark unmarked mark = ask (eqb unmarked 0) unmarked (ask (leb 1 (length mark)) refused_length 0)

-- a slice afterwards, from what the call without a mark leaves there
unfoldable pub slice_after : ℕ → List ℕ → List ℤ → List ℤ → List ℤ
slice_after unmarked mark after before = cond (eqb (with_mark unmarked mark) 0) after before

-- the mark's slice afterwards
unfoldable pub mark_after : ℕ → List ℕ → Bool → List ℕ
mark_after unmarked mark marked = cond (eqb (with_mark unmarked mark) 0) (cond marked 1 0 ∷ drop 1 mark) mark

-- the marks of whole runs: of the record's plan on the slice that is read
abbrev pub rebuild_mark : List ℕ → List ℤ → Bool
rebuild_mark bytes pyramid = run_marked (steps_of bytes) (channels_of bytes) pyramid

abbrev pub write_mark : List ℕ → List ℤ → Bool
write_mark bytes picture = run_written_marked (steps_of bytes) (channels_of bytes) picture
