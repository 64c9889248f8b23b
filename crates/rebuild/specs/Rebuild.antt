-- The plan run (document 01, "The entry", "The questions", "Whole runs"): "Rebuilding reads a pyramid slice and fills a picture slice .. a work
-- slice as long as the picture, all zero after success"; and whether it leaves the plain range (document 02, A.3). Definitions only.
use Rattle.std.specs.Prelude.{Bool, false, cond, ◌&&◌, List, ℕ, eqb, ℤ, length}
use Rattle.numbers.specs.Numbers.{refused_length}
use Rattle.list.specs.declared.ChannelList.{ChannelList}
use Rattle.list.specs.Lists.{channels, total}
use Rattle.list.specs.Questions.{ask}
use Rattle.plan.specs.declared.Steps.{Steps}
use Rattle.plan.specs.Steps.{steps}
use Rattle.plan.specs.Plans.{meant, judge_plan}
use Rattle.buffer.specs.Buffer.{zeros}
use Rattle.runs.specs.Runs.{rebuilt}
use Rattle.runs.specs.Marks.{run_marked}

-- 14. "Has each sample slice exactly its length": one i32 for each sample of the list
abbrev pub fits : ChannelList → List ℤ → Bool
fits l xs = eqb (length xs) (total (channels l))

unfoldable pub slices_fit : ChannelList → List ℤ → List ℤ → List ℤ → Bool
slices_fit l pyramid picture work = fits l pyramid && (fits l picture && fits l work)

-- questions 3 to 11 of version, list and steps, then 14
unfoldable pub answer_of : ℕ → ChannelList → Steps → List ℤ → List ℤ → List ℤ → ℕ
answer_of version l s pyramid picture work =
    ask (eqb (judge_plan version l s) 0) (judge_plan version l s) (ask (slices_fit l pyramid picture work) refused_length 0)

-- the lent slices afterwards: "lent slices keep their contents" where the call is refused
unfoldable pub picture_after : ℕ → ChannelList → Steps → List ℤ → List ℤ → List ℤ → List ℤ
picture_after version l s pyramid picture work =
    cond (eqb (answer_of version l s pyramid picture work) 0) (rebuilt (meant version (steps s) (channels l)) (channels l) pyramid) picture

unfoldable pub work_after : ℕ → ChannelList → Steps → List ℤ → List ℤ → List ℤ → List ℤ
work_after version l s pyramid picture work = cond (eqb (answer_of version l s pyramid picture work) 0) (zeros work) work

-- the mark: "Lines, tiles, steps and whole runs say it for all pairs under them"; a refused call has none
unfoldable pub mark : ℕ → ChannelList → Steps → List ℤ → List ℤ → List ℤ → Bool
mark version l s pyramid picture work =
    cond (eqb (answer_of version l s pyramid picture work) 0) (run_marked (meant version (steps s) (channels l)) (channels l) pyramid) false
