-- Whole runs (document 01, "Whole runs"): a step back and forward on the samples of a list, and a list of steps of any length. Definitions only.
use Rattle.std.specs.Prelude.{Bool, cond, List, [], ◌∷◌, ◌++◌, ℕ, ◌+◌, ◌-◌, eqb, ltb, ℤ, length, take, drop}
use Rattle.channel.specs.declared.Channel.{Channel}
use Rattle.list.specs.declared.Step.{Step}
use Rattle.list.specs.Lists.{range, stepped}
use Rattle.list.specs.Questions.{judge_step}
use Rattle.line.specs.Uncut.{squeeze, uncut}
use Rattle.line.specs.Forward.{average_count, residual_count, averages_of, residuals_of}
use Rattle.runs.specs.Parts.{parts, joined}

-- ---- one channel
-- the lines of a channel, and the samples along each
abbrev pub lines_of : Bool → Channel → ℕ
lines_of horizontal c = cond horizontal c.height c.width

abbrev pub size_of : Bool → Channel → ℕ
size_of horizontal c = cond horizontal c.width c.height

-- "makes each channel of its range from average and residual by the uncut squeeze without outer lines"
unfoldable pub channel_back : Bool → Channel → List ℤ → List ℤ → List ℤ
channel_back horizontal c avg res =
    uncut (squeeze horizontal (lines_of horizontal c) (average_count (size_of horizontal c)) (residual_count (size_of horizontal c)) avg res [] [])

-- the writer's averages and residuals
unfoldable pub channel_averages : Bool → Channel → List ℤ → List ℤ
channel_averages horizontal c xs = averages_of horizontal (lines_of horizontal c) (size_of horizontal c) xs

unfoldable pub channel_residuals : Bool → Channel → List ℤ → List ℤ
channel_residuals horizontal c xs = residuals_of horizontal (lines_of horizontal c) (size_of horizontal c) xs

-- ---- the channels of a range
-- each channel made from its average and its residual by f
abbrev pub all_back_by : (Channel → List ℤ → List ℤ → List ℤ) → List Channel → List (List ℤ) → List (List ℤ) → List (List ℤ)
all_back_by f [] avgs ress = []
all_back_by f (c ∷ cs) [] ress = []
all_back_by f (c ∷ cs) (a ∷ avgs) [] = []
all_back_by f (c ∷ cs) (a ∷ avgs) (r ∷ ress) = f c a r ∷ all_back_by f cs avgs ress

abbrev pub all_back : Bool → List Channel → List (List ℤ) → List (List ℤ) → List (List ℤ)
all_back horizontal = all_back_by (channel_back horizontal)

abbrev pub each : (Channel → List ℤ → List ℤ) → List Channel → List (List ℤ) → List (List ℤ)
each f [] ps = []
each f (c ∷ cs) [] = []
each f (c ∷ cs) (p ∷ ps) = f c p ∷ each f cs ps

-- ---- one step, channel by channel
-- the channels behind the range of a step
abbrev pub behind : Step → List Channel → ℕ
behind s cs = length cs - (s.begin + s.number)

-- where the residuals stand among the parts behind the averages: "straight after the range if in place, else after the last channel"
abbrev pub residual_parts : Step → List Channel → List (List ℤ) → List (List ℤ)
residual_parts s cs rest = cond s.inplace (take s.number rest) (drop (behind s cs) rest)

abbrev pub other_parts : Step → List Channel → List (List ℤ) → List (List ℤ)
other_parts s cs rest = cond s.inplace (drop s.number rest) (take (behind s cs) rest)

-- "Back, a step makes each channel of its range from average and residual .. and copies the others, placed as in the list before"
abbrev pub back_parts_by : (Channel → List ℤ → List ℤ → List ℤ) → Step → List Channel → List (List ℤ) → List (List ℤ)
back_parts_by f s cs ps =
    take s.begin ps
    ++ (all_back_by f (range s cs) (take s.number (drop s.begin ps)) (residual_parts s cs (drop (s.begin + s.number) ps))
    ++ other_parts s cs (drop (s.begin + s.number) ps))

unfoldable pub back_parts : Step → List Channel → List (List ℤ) → List (List ℤ)
back_parts s cs ps = back_parts_by (channel_back s.horizontal) s cs ps

-- "Forward, averages are the writer's .."
unfoldable pub forward_parts : Step → List Channel → List (List ℤ) → List (List ℤ)
forward_parts s cs ps =
    take s.begin ps
    ++ (each (channel_averages s.horizontal) (range s cs) (take s.number (drop s.begin ps))
    ++ cond s.inplace
    (each (channel_residuals s.horizontal) (range s cs) (take s.number (drop s.begin ps)) ++ drop (s.begin + s.number) ps)
    (drop (s.begin + s.number) ps ++ each (channel_residuals s.horizontal) (range s cs) (take s.number (drop s.begin ps))))

-- where what stood at p stands after a step: an average where its channel stood, and in place the residuals move on what is behind the range
unfoldable pub place_after : Step → ℕ → ℕ
place_after s p = cond (ltb p (s.begin + s.number)) p (cond s.inplace (p + s.number) p)

-- a step taken by a list, on slices: from the samples of the list after it to those before it, and the other way
unfoldable pub step_back : Step → List Channel → List ℤ → List ℤ
step_back s cs xs = joined (back_parts s cs (parts (stepped s cs) xs))

unfoldable pub step_forward : Step → List Channel → List ℤ → List ℤ
step_forward s cs xs = joined (forward_parts s cs (parts cs xs))

-- ---- any number of steps
-- "questions 7 to 11 judge each on the list the last one left"
abbrev pub is_taken : Step → List Channel → Bool
is_taken s cs = eqb (judge_step s cs) 0

-- "The layout is the list reached"; "A refused one leaves list and samples as they are"
abbrev pub layout : List Step → List Channel → List Channel
layout [] cs = cs
layout (s ∷ ss) cs = cond (is_taken s cs) (layout ss (stepped s cs)) (layout ss cs)

-- "rebuilding takes the accepted steps last first"
abbrev pub rebuilt : List Step → List Channel → List ℤ → List ℤ
rebuilt [] cs xs = xs
rebuilt (s ∷ ss) cs xs = cond (is_taken s cs) (step_back s cs (rebuilt ss (stepped s cs) xs)) (rebuilt ss cs xs)

-- the writer takes them first to last
abbrev pub squeezed : List Step → List Channel → List ℤ → List ℤ
squeezed [] cs xs = xs
squeezed (s ∷ ss) cs xs = cond (is_taken s cs) (squeezed ss (stepped s cs) (step_forward s cs xs)) (squeezed ss cs xs)
