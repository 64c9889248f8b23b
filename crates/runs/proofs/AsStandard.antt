-- Demand 2 for a whole run: where every sample read or made in any step lies in the domain, the run is the standard's over whole numbers without a
-- bound (specs/Unbounded.antt). A channel is the standard's line by line (crate line), so is a step, and so is the run by induction along the
-- list of steps. Assumes nothing.
use mathlib.Core.Path.{◌≡◌, refl, ap, ◌∙◌}
use mathlib.Core.Bool.{Bool, true}
use mathlib.Core.List.{List, [], ◌∷◌}
use Prim.Native.Nat.{◌+◌}
use lib.IntN.{ℤ}
use lib.ListN.{length, take, drop}
use Rattle.channel.specs.declared.Channel.{Channel}
use Rattle.channel.specs.Channel.{samples}
use Rattle.list.specs.declared.Step.{Step}
use Rattle.list.specs.Lists.{average, residual, range, stepped}
use Rattle.list.specs.Tables.{map}
use Rattle.line.specs.Uncut.{squeeze, uncut}
use Rattle.line.specs.Forward.{average_count, residual_count}
use Rattle.line.specs.Plain.{AllInDomain}
use Rattle.line.proofs.Places.{is_entries}
use Rattle.line.proofs.Outputs.{uncut_length}
use Rattle.line.proofs.Plain.{uncut_standard}
use Rattle.line.proofs.ThereAndBack.{all_samples}
use Rattle.runs.specs.Parts.{parts}
use Rattle.runs.specs.Runs.{lines_of, size_of, channel_back, all_back_by, residual_parts, back_parts, step_back, is_taken, layout, rebuilt}
use Rattle.runs.specs.Claim.{Fills}
use Rattle.runs.specs.Unbounded.{standard_back, standard_step, standard_run, RangeInDomain, StepInDomain, RunInDomain}
use Rattle.runs.proofs.Taken.{by_taken, taken_inside}
use Rattle.runs.proofs.Shapes.{Shaped, parts_shaped, parts_samples}
use Rattle.runs.proofs.OneChannel.{channel_fits}
use Rattle.runs.proofs.OneStep.{step_shapes}
use Rattle.runs.proofs.Whole.{rebuilt_fills}

-- ---- one channel
module _ (h : Bool) (c : Channel) (avg res : List ℤ) (la : length avg ≡ samples (average h c)) (lr : length res ≡ samples (residual h c))
    (da : AllInDomain avg) (dr : AllInDomain res) (dm : AllInDomain (channel_back h c avg res)) where
  channel_standard : channel_back h c avg res ≡ standard_back h c avg res
  unfolding channel_back standard_back
  channel_standard =
      let n = size_of h c in
      let q = squeeze h (lines_of h c) (average_count n) (residual_count n) avg res [] [] in
      is_entries h (lines_of h c) n _ (uncut q) (uncut_length q ∙ rw (all_samples n))
      (λ k i hk hi. rw (all_samples n) at (uncut_standard q (channel_fits h c avg res la lr) refl refl (record { avg = da; res = dr; out = dm }) k i hk (rw (all_samples n) hi)))

-- ---- the channels of a range
range_standard : (h : Bool) (cs : List Channel) (avgs ress : List (List ℤ)) → Shaped (map (average h) cs) avgs → Shaped (map (residual h) cs) ress
    → RangeInDomain h cs avgs ress → all_back_by (channel_back h) cs avgs ress ≡ all_back_by (standard_back h) cs avgs ress
range_standard h [] avgs ress s t d = refl
range_standard h (c ∷ cs) [] ress s t d = refl
range_standard h (c ∷ cs) (a ∷ avgs) [] s t d = refl
range_standard h (c ∷ cs) (a ∷ avgs) (r ∷ ress) s t d =
    rw (channel_standard h c a r s.0 t.0 d.0 d.1 d.2, range_standard h cs avgs ress s.1 t.1 d.3)

-- ---- one step
step_standard : (s : Step) (cs : List Channel) (xs : List ℤ) → is_taken s cs ≡ true → Fills (stepped s cs) xs
    → StepInDomain s cs (parts (stepped s cs) xs) → step_back s cs xs ≡ standard_step s cs xs
unfolding step_back standard_step back_parts
step_standard s cs xs e f d =
    let ps = parts (stepped s cs) xs in
    let sh = step_shapes s cs (taken_inside s cs e) ps (parts_shaped (stepped s cs) xs f.long) (parts_samples (stepped s cs) xs f.samples) in
    rw (range_standard s.horizontal (range s cs) (take s.number (drop s.begin ps)) (residual_parts s cs (drop (s.begin + s.number) ps)) sh.0 sh.1 d)

-- Demand 2, over a whole list of steps
pub run_standard : (ss : List Step) (cs : List Channel) (ys : List ℤ) → Fills (layout ss cs) ys → RunInDomain ss cs ys
    → rebuilt ss cs ys ≡ standard_run ss cs ys
run_standard [] cs ys f d = refl
run_standard (s ∷ ss) cs ys f d =
    by_taken s cs
    (λ t.
    let g : Fills (layout ss (stepped s cs)) ys = rw t at f in
    let e : RunInDomain ss (stepped s cs) ys × StepInDomain s cs (parts (stepped s cs) (rebuilt ss (stepped s cs) ys)) = rw t at d in
    rw t
    (step_standard s cs (rebuilt ss (stepped s cs) ys) t (rebuilt_fills ss (stepped s cs) ys g) e.1
    ∙ ap (standard_step s cs) (run_standard ss (stepped s cs) ys g e.0)))
    (λ t. rw t (run_standard ss cs ys (rw t at f) (rw t at d)))
