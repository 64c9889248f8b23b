-- Rebuilding and writing by a record (document 01, "The entry", "The questions", "Whole runs"): the record's questions 1 to 11, then 14 of the
-- slices. Definitions only.
use Rattle.std.specs.Prelude.{Bool, cond, ◌&&◌, List, ℕ, eqb, ℤ, length}
use Rattle.numbers.specs.Numbers.{refused_length}
use Rattle.list.specs.Lists.{total}
use Rattle.list.specs.Questions.{ask}
use Rattle.record.specs.Records.{read_answer, channels_of, steps_of}
use Rattle.buffer.specs.Buffer.{zeros}
use Rattle.runs.specs.Runs.{rebuilt, squeezed}

-- 14. "Has each sample slice exactly its length"
abbrev pub fits : List ℕ → List ℤ → Bool
fits bytes xs = eqb (length xs) (total (channels_of bytes))

-- the slice that is read, the slice that is filled, the work slice
unfoldable pub answer : List ℕ → List ℤ → List ℤ → List ℤ → ℕ
answer bytes read filled work =
    ask (eqb (read_answer bytes) 0) (read_answer bytes)
    (ask (fits bytes read && (fits bytes filled && fits bytes work)) refused_length 0)

-- ---- the slices afterwards: "lent slices keep their contents" where the call is refused
-- rebuilding: the picture of the pyramid; writing: the pyramid of the picture
unfoldable pub picture_of : List ℕ → List ℤ → List ℤ → List ℤ → List ℤ
picture_of bytes pyramid picture work =
    cond (eqb (answer bytes pyramid picture work) 0) (rebuilt (steps_of bytes) (channels_of bytes) pyramid) picture

unfoldable pub pyramid_of : List ℕ → List ℤ → List ℤ → List ℤ → List ℤ
pyramid_of bytes picture pyramid work =
    cond (eqb (answer bytes picture pyramid work) 0) (squeezed (steps_of bytes) (channels_of bytes) picture) pyramid

-- "a work slice as long as the picture, all zero after success"
unfoldable pub work_of : List ℕ → List ℤ → List ℤ → List ℤ → List ℤ
work_of bytes read filled work = cond (eqb (answer bytes read filled work) 0) (zeros work) work
