-- The marks of whole runs (specs/MarkClaims.antt): a channel's by the law of its squeeze (crate line), a range's channel by channel, a step's by what
-- it reads, and a run's by induction along the list of steps. Assumes nothing.
use mathlib.Core.Path.{◌≡◌, refl, ◌∙◌}
use mathlib.Core.Bool.{Bool, true, ◌||◌}
use mathlib.Core.List.{List, [], ◌∷◌}
use Prim.Native.Nat.{ℕ, ◌+◌}
use lib.IntN.{ℤ}
use lib.ListN.{length, take, drop}
use Rattle.std.proofs.Math.Bool.{or_comm}
use Rattle.std.proofs.lemmas.List.Elements.{All-head, All-tail, All-take, All-drop}
use Rattle.channel.specs.declared.Channel.{Channel}
use Rattle.channel.specs.Channel.{samples}
use Rattle.range.proofs.Some.{left_false, right_false, both_false}
use Rattle.list.specs.declared.Step.{Step}
use Rattle.list.specs.Lists.{average, residual, range, stepped}
use Rattle.list.specs.Tables.{map}
use Rattle.line.specs.Uncut.{squeeze}
use Rattle.line.specs.Forward.{average_count, residual_count, Samples}
use Rattle.line.specs.Plain.{AllInDomain}
use Rattle.line.proofs.Marks.{no_outers, marked_domain}
use Rattle.line.proofs.WrittenMarks.{written_as_rebuilt}
use Rattle.runs.specs.Parts.{parts}
use Rattle.runs.specs.Runs.{lines_of, size_of, channel_back, channel_averages, channel_residuals, each, residual_parts, step_forward, is_taken, layout, rebuilt, squeezed}
use Rattle.runs.specs.Claim.{Fills}
use Rattle.runs.specs.Unbounded.{RangeInDomain, StepInDomain, RunInDomain}
use Rattle.runs.specs.Marks.{channel_marked, range_marked, step_marked, run_marked, channel_written_marked, each_marked, step_written_marked}
use Rattle.runs.specs.MarkClaims.{Exactly, InsideExactly, UnmarkedStandard, SameMark}
use Rattle.runs.proofs.Taken.{by_taken, taken_inside}
use Rattle.runs.proofs.Shapes.{Shaped, AllSamples, parts_shaped, parts_samples}
use Rattle.runs.proofs.OneChannel.{samples_by, channel_fits}
use Rattle.runs.proofs.OneStep.{step_shapes, step_reads, forward_again}
use Rattle.runs.proofs.Whole.{forward_fills, squeezed_rebuilds, rebuilt_fills}
use Rattle.runs.proofs.AsStandard.{run_standard}

-- a part of the parts holds 32-bit samples
some_samples : (a n : ℕ) (ps : List (List ℤ)) → AllSamples ps → AllSamples (take n (drop a ps))
some_samples a n ps f = All-take Samples n (drop a ps) (All-drop Samples a ps f)

-- ---- one channel
channel_exactly : (h : Bool) (c : Channel) (avg res : List ℤ) → length avg ≡ samples (average h c) → length res ≡ samples (residual h c) → Samples avg
    → Exactly (channel_marked h c avg res) (AllInDomain avg × AllInDomain res × AllInDomain (channel_back h c avg res))
unfolding channel_marked channel_back
channel_exactly h c avg res la lr f =
    let n = size_of h c in
    let q = squeeze h (lines_of h c) (average_count n) (residual_count n) avg res [] [] in
    let e = marked_domain q (channel_fits h c avg res la lr) f (no_outers q refl refl) in
    (e.0, λ d. e.1 d.0 d.1 d.2)

channel_same : (h : Bool) (c : Channel) (xs : List ℤ) → length xs ≡ samples c → Samples xs
    → channel_written_marked h c xs ≡ channel_marked h c (channel_averages h c xs) (channel_residuals h c xs)
unfolding channel_written_marked channel_marked channel_averages channel_residuals
channel_same h c xs l f = written_as_rebuilt h (lines_of h c) (size_of h c) xs (l ∙ samples_by h c) f

-- ---- the channels of a range
range_exactly : (h : Bool) (cs : List Channel) (avgs ress : List (List ℤ)) → Shaped (map (average h) cs) avgs → Shaped (map (residual h) cs) ress
    → AllSamples avgs → Exactly (range_marked h cs avgs ress) (RangeInDomain h cs avgs ress)
range_exactly h [] avgs ress s t f = (λ e. tt, λ d. refl)
range_exactly h (c ∷ cs) [] ress s t f = (λ e. tt, λ d. refl)
range_exactly h (c ∷ cs) (a ∷ avgs) [] s t f = (λ e. tt, λ d. refl)
range_exactly h (c ∷ cs) (a ∷ avgs) (r ∷ ress) s t f =
    let x = channel_marked h c a r in
    let y = range_marked h cs avgs ress in
    let m = channel_exactly h c a r s.0 t.0 (All-head Samples a avgs f) in
    let k = range_exactly h cs avgs ress s.1 t.1 (All-tail Samples a avgs f) in (
      λ e. let d = m.0 (left_false x y e) in (d.0, d.1, d.2, k.0 (right_false x y e)),
      λ d. both_false x y (m.1 (d.0, d.1, d.2)) (k.1 d.3),
    )

range_same : (h : Bool) (cs : List Channel) (ps : List (List ℤ)) → Shaped cs ps → AllSamples ps
    → each_marked (channel_written_marked h) cs ps ≡ range_marked h cs (each (channel_averages h) cs ps) (each (channel_residuals h) cs ps)
range_same h [] [] s f = refl
range_same h [] (p ∷ ps) s f = absurd s
range_same h (c ∷ cs) [] s f = absurd s
range_same h (c ∷ cs) (p ∷ ps) s f =
    rw (channel_same h c p s.0 (All-head Samples p ps f), range_same h cs ps s.1 (All-tail Samples p ps f))

-- ---- one step
step_exactly : (s : Step) (cs : List Channel) (xs : List ℤ) → is_taken s cs ≡ true → Fills (stepped s cs) xs
    → Exactly (step_marked s cs (parts (stepped s cs) xs)) (StepInDomain s cs (parts (stepped s cs) xs))
unfolding step_marked
step_exactly s cs xs t f =
    let ps = parts (stepped s cs) xs in
    let a = parts_samples (stepped s cs) xs f.samples in
    let h = step_shapes s cs (taken_inside s cs t) ps (parts_shaped (stepped s cs) xs f.long) a in
    range_exactly s.horizontal (range s cs) (take s.number (drop s.begin ps)) (residual_parts s cs (drop (s.begin + s.number) ps)) h.0 h.1
    (some_samples s.begin s.number ps a)

step_same : (s : Step) (cs : List Channel) (xs : List ℤ) → is_taken s cs ≡ true → Fills cs xs
    → step_written_marked s cs (parts cs xs) ≡ step_marked s cs (parts (stepped s cs) (step_forward s cs xs))
unfolding step_marked step_written_marked
step_same s cs xs t f =
    let i = taken_inside s cs t in
    let ps = parts cs xs in
    let a = parts_samples cs xs f.samples in
    let r = step_reads s cs i ps (parts_shaped cs xs f.long) a in
    rw (forward_again s cs i xs f.long f.samples, r.averages, r.residuals)
    (range_same s.horizontal (range s cs) (take s.number (drop s.begin ps)) r.shape (some_samples s.begin s.number ps a))

-- ---- any number of steps
pub inside_exactly : (ss : List Step) (cs : List Channel) → InsideExactly ss cs
inside_exactly [] cs ys f = (λ e. tt, λ d. refl)
inside_exactly (s ∷ ss) cs ys f =
    by_taken s cs
    (λ t.
    let g : Fills (layout ss (stepped s cs)) ys = rw t at f in
    let xs = rebuilt ss (stepped s cs) ys in
    let x = run_marked ss (stepped s cs) ys in
    let y = step_marked s cs (parts (stepped s cs) xs) in
    let k = inside_exactly ss (stepped s cs) ys g in
    let m = step_exactly s cs xs t (rebuilt_fills ss (stepped s cs) ys g) in
    let both : Exactly (x || y) (RunInDomain ss (stepped s cs) ys × StepInDomain s cs (parts (stepped s cs) xs)) =
    (λ e. (k.0 (left_false x y e), m.0 (right_false x y e)), λ d. both_false x y (k.1 d.0) (m.1 d.1)) in
    rw t both)
    (λ t. rw t (inside_exactly ss cs ys (rw t at f)))

pub unmarked_standard : (ss : List Step) (cs : List Channel) → UnmarkedStandard ss cs
unmarked_standard ss cs ys f e = run_standard ss cs ys f ((inside_exactly ss cs ys f).0 e)

pub same_mark : (ss : List Step) (cs : List Channel) → SameMark ss cs
same_mark [] cs xs f = refl
same_mark (s ∷ ss) cs xs f =
    by_taken s cs
    (λ t.
    let g = forward_fills s cs xs t f in
    let ys = step_forward s cs xs in
    rw (t, squeezed_rebuilds ss (stepped s cs) ys g, step_same s cs xs t f, same_mark ss (stepped s cs) ys g)
    (or_comm (step_marked s cs (parts (stepped s cs) ys)) (run_marked ss (stepped s cs) (squeezed ss (stepped s cs) ys))))
    (λ t. rw t (same_mark ss cs xs f))
