-- The writer (document 01, "The entry", "Whole runs"): the questions 3 to 11 of list and plan, then 14 of the slices; the first "no" is the
-- refusal, and a refused call leaves the slices as they were and has no mark (document 02, A.3). Definitions only.
use Rattle.std.specs.Prelude.{Bool, false, cond, ◌&&◌, List, ℕ, eqb, ℤ, length}
use Rattle.numbers.specs.Numbers.{refused_length}
use Rattle.channel.specs.declared.Channel.{Channel}
use Rattle.list.specs.declared.ChannelList.{ChannelList}
use Rattle.list.specs.Lists.{channels, total}
use Rattle.list.specs.Questions.{ask}
use Rattle.plan.specs.declared.Steps.{Steps}
use Rattle.plan.specs.Steps.{steps}
use Rattle.plan.specs.Plans.{meant, judge_plan}
use Rattle.runs.specs.Runs.{squeezed}
use Rattle.runs.specs.Marks.{run_written_marked}
use Rattle.buffer.specs.Buffer.{zeros}

-- 14. "Has each sample slice exactly its length"
unfoldable pub slices_fit : List Channel → List ℤ → List ℤ → List ℤ → Bool
slices_fit cs picture pyramid work =
    eqb (length picture) (total cs) && (eqb (length pyramid) (total cs) && eqb (length work) (total cs))

unfoldable pub answer : ℕ → ChannelList → Steps → List ℤ → List ℤ → List ℤ → ℕ
answer version l s picture pyramid work =
    ask (eqb (judge_plan version l s) 0) (judge_plan version l s)
    (ask (slices_fit (channels l) picture pyramid work) refused_length 0)

-- the pyramid slice afterwards: the plan's steps on the picture, first to last
unfoldable pub written : ℕ → ChannelList → Steps → List ℤ → List ℤ → List ℤ → List ℤ
written version l s picture pyramid work =
    cond (eqb (answer version l s picture pyramid work) 0) (squeezed (meant version (steps s) (channels l)) (channels l) picture) pyramid

-- the work slice afterwards
unfoldable pub cleared : ℕ → ChannelList → Steps → List ℤ → List ℤ → List ℤ → List ℤ
cleared version l s picture pyramid work = cond (eqb (answer version l s picture pyramid work) 0) (zeros work) work

-- the mark: whether a pair or a tail under a step of the plan leaves the plain range
unfoldable pub mark : ℕ → ChannelList → Steps → List ℤ → List ℤ → List ℤ → Bool
mark version l s picture pyramid work =
    cond (eqb (answer version l s picture pyramid work) 0) (run_written_marked (meant version (steps s) (channels l)) (channels l) picture) false
