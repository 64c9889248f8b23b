-- The standard's whole run over whole numbers without a bound (ISO/IEC 18181-1: "The inverse takes the steps last first"), and the domain of demand 2
-- for a whole run: "every sample read or made in any step". Definitions only.
use Rattle.std.specs.Prelude.{Bool, cond, List, [], ◌∷◌, ◌+◌, ◌*◌, ℤ, take, drop}
use Rattle.channel.specs.declared.Channel.{Channel}
use Rattle.list.specs.declared.Step.{Step}
use Rattle.list.specs.Lists.{range, stepped}
use Rattle.line.specs.Uncut.{line_at, position_at, table}
use Rattle.line.specs.Forward.{average_count, residual_count, line_in}
use Rattle.line.specs.Plain.{AllInDomain}
use Rattle.standard.specs.Standard as Std
use Rattle.runs.specs.Parts.{parts, joined}
use Rattle.runs.specs.Runs.{lines_of, size_of, channel_back, residual_parts, back_parts_by, is_taken, rebuilt}

-- a channel by the standard's inverse step along each of its lines
unfoldable pub standard_back : Bool → Channel → List ℤ → List ℤ → List ℤ
standard_back horizontal c avg res =
    let lines = lines_of horizontal c in
    let n = size_of horizontal c in
    table
    (λ j.
    Std.out
    (line_in horizontal lines (average_count n) avg (line_at horizontal lines n j))
    (line_in horizontal lines (residual_count n) res (line_at horizontal lines n j))
    (average_count n) (residual_count n) (position_at horizontal lines n j))
    0 (lines * n)

-- a step and a run, with that in place of 32-bit arithmetic
unfoldable pub standard_step : Step → List Channel → List ℤ → List ℤ
standard_step s cs xs = joined (back_parts_by (standard_back s.horizontal) s cs (parts (stepped s cs) xs))

abbrev pub standard_run : List Step → List Channel → List ℤ → List ℤ
standard_run [] cs xs = xs
standard_run (s ∷ ss) cs xs = cond (is_taken s cs) (standard_step s cs (standard_run ss (stepped s cs) xs)) (standard_run ss cs xs)

-- what a step reads and makes: of each channel of its range the average, the residual and the channel itself
abbrev pub RangeInDomain : Bool → List Channel → List (List ℤ) → List (List ℤ) → Type 0
RangeInDomain h [] avgs ress = Unit {0}
RangeInDomain h (c ∷ cs) [] ress = Unit {0}
RangeInDomain h (c ∷ cs) (a ∷ avgs) [] = Unit {0}
RangeInDomain h (c ∷ cs) (a ∷ avgs) (r ∷ ress) =
    AllInDomain a × AllInDomain r × AllInDomain (channel_back h c a r) × RangeInDomain h cs avgs ress

abbrev pub StepInDomain : Step → List Channel → List (List ℤ) → Type 0
StepInDomain s cs ps =
    RangeInDomain s.horizontal (range s cs) (take s.number (drop s.begin ps)) (residual_parts s cs (drop (s.begin + s.number) ps))

abbrev pub RunInDomain : List Step → List Channel → List ℤ → Type 0
RunInDomain [] cs ys = Unit {0}
RunInDomain (s ∷ ss) cs ys =
    cond (is_taken s cs)
    (RunInDomain ss (stepped s cs) ys × StepInDomain s cs (parts (stepped s cs) (rebuilt ss (stepped s cs) ys)))
    (RunInDomain ss cs ys)
