-- Whether whole runs leave the plain range (document 02, A.3): "Lines, tiles, steps and whole runs say it for all pairs under them and for the averages
-- that a step copies", back and forward. "A channel outside a step's range is neither read nor made in that step", so it never marks: a step's mark is that
-- of its range, and a run without a step has none. Definitions only.
use Rattle.std.specs.Prelude.{Bool, false, cond, ◌||◌, List, [], ◌∷◌, ◌+◌, ℤ, take, drop}
use Rattle.channel.specs.declared.Channel.{Channel}
use Rattle.list.specs.declared.Step.{Step}
use Rattle.list.specs.Lists.{range, stepped}
use Rattle.line.specs.Uncut.{squeeze}
use Rattle.line.specs.Forward.{average_count, residual_count}
use Rattle.line.specs.Marks.{squeeze_marked, lines_marked}
use Rattle.runs.specs.Parts.{parts}
use Rattle.runs.specs.Runs.{lines_of, size_of, residual_parts, is_taken, rebuilt, step_forward}

-- ---- back
-- a channel made from average and residual, by the squeeze of `channel_back`
unfoldable pub channel_marked : Bool → Channel → List ℤ → List ℤ → Bool
channel_marked horizontal c avg res =
    squeeze_marked (squeeze horizontal (lines_of horizontal c) (average_count (size_of horizontal c)) (residual_count (size_of horizontal c)) avg res [] [])

-- some channel of a range
abbrev pub range_marked : Bool → List Channel → List (List ℤ) → List (List ℤ) → Bool
range_marked h [] avgs ress = false
range_marked h (c ∷ cs) [] ress = false
range_marked h (c ∷ cs) (a ∷ avgs) [] = false
range_marked h (c ∷ cs) (a ∷ avgs) (r ∷ ress) = channel_marked h c a r || range_marked h cs avgs ress

-- a step, on the samples of the list after it
unfoldable pub step_marked : Step → List Channel → List (List ℤ) → Bool
step_marked s cs ps =
    range_marked s.horizontal (range s cs) (take s.number (drop s.begin ps)) (residual_parts s cs (drop (s.begin + s.number) ps))

-- some step that is taken, on what the later ones made
abbrev pub run_marked : List Step → List Channel → List ℤ → Bool
run_marked [] cs ys = false
run_marked (s ∷ ss) cs ys =
    cond (is_taken s cs)
    (run_marked ss (stepped s cs) ys || step_marked s cs (parts (stepped s cs) (rebuilt ss (stepped s cs) ys)))
    (run_marked ss cs ys)

-- ---- forward: the writer's
unfoldable pub channel_written_marked : Bool → Channel → List ℤ → Bool
channel_written_marked horizontal c xs = lines_marked horizontal (lines_of horizontal c) (size_of horizontal c) xs

-- some channel by f
abbrev pub each_marked : (Channel → List ℤ → Bool) → List Channel → List (List ℤ) → Bool
each_marked f [] ps = false
each_marked f (c ∷ cs) [] = false
each_marked f (c ∷ cs) (p ∷ ps) = f c p || each_marked f cs ps

-- a step, on the samples of the list before it
unfoldable pub step_written_marked : Step → List Channel → List (List ℤ) → Bool
step_written_marked s cs ps = each_marked (channel_written_marked s.horizontal) (range s cs) (take s.number (drop s.begin ps))

-- some step that is taken, on what the earlier ones made
abbrev pub run_written_marked : List Step → List Channel → List ℤ → Bool
run_written_marked [] cs xs = false
run_written_marked (s ∷ ss) cs xs =
    cond (is_taken s cs)
    (step_written_marked s cs (parts cs xs) || run_written_marked ss (stepped s cs) (step_forward s cs xs))
    (run_written_marked ss cs xs)
