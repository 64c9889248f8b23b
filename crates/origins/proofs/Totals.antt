-- "For each origin, the samples of all its channels total the samples of the original": a step keeps the total of each origin, since average and residual
-- take the origin of the channel squeezed. Assumes nothing.
use mathlib.Core.Path.{◌≡◌, refl, sym, ap, ◌∙◌}
use mathlib.Core.Bool.{true}
use mathlib.Core.List.{List, [], ◌∷◌, ◌++◌}
use Prim.Native.Nat.{ℕ, ◌+◌, ◌<◌}
use native.Mathlib.Omega.{arith}
use lib.ListN.{length, length-take, length-drop}
use Rattle.channel.specs.declared.Channel.{Channel}
use Rattle.channel.specs.Channel.{samples}
use Rattle.list.specs.declared.Step.{Step}
use Rattle.list.specs.Tables.{map}
use Rattle.list.specs.Lists as Lists
use Rattle.list.specs.Lists.{average, residual, before, range, after, stepped, stepped_origins, total}
use Rattle.list.specs.Questions.{no_channel, channel_of}
use Rattle.list.proofs.Channels.{own_length}
use Rattle.list.proofs.Maps.{map_length}
use Rattle.list.proofs.Parts.{joined, parts_whole}
use Rattle.list.proofs.Entries.{stepped_length, origins_stepped}
use Rattle.list.proofs.Totals.{total_append, parts_total, joined_total}
use Rattle.runs.specs.Runs.{is_taken, layout}
use Rattle.runs.proofs.Taken.{by_taken, taken_inside}
use Rattle.origins.specs.Origins.{origins_from, layout_origins, of_origin}
use Rattle.origins.proofs.Kept.{map_itself, of_append, of_joined, own_one, of_map}

-- there are as many origins as channels after an accepted step too
pub step_same : (s : Step) (cs : List Channel) (os : List ℕ) → length os ≡ length cs → is_taken s cs ≡ true → length (stepped_origins s os) ≡ length (stepped s cs)
step_same s cs os e t =
    let i = taken_inside s cs t in
    omega (arith, origins_stepped s os (omega arith), stepped_length s cs i)

module _ (o : ℕ) (s : Step) (os : List ℕ) (cs : List Channel) (same : length os ≡ length cs) where
  -- the parts of the origins and of the channels have equal lengths
  same_before : length (before s os) ≡ length (before s cs)
  same_before = omega (arith, length-take s.begin os, length-take s.begin cs)

  same_range : length (range s os) ≡ length (range s cs)
  same_range = simp (length-take, length-drop) (omega arith)

  same_after : length (after s os) ≡ length (after s cs)
  same_after = omega (arith, length-drop (s.begin + s.number) os, length-drop (s.begin + s.number) cs)

  pub step_total : total (of_origin o (stepped_origins s os) (stepped s cs)) ≡ total (of_origin o os cs)
  unfolding Lists.stepped Lists.stepped_origins
  step_total =
      let h = s.horizontal in
      let rc = range s cs in
      let ro = range s os in
      let la : length ro ≡ length (map (average h) rc) = same_range ∙ sym (map_length (average h) rc) in
      let lr : length ro ≡ length (map (residual h) rc) = same_range ∙ sym (map_length (residual h) rc) in
      let B = of_origin o (before s os) (before s cs) in
      let Z = of_origin o (after s os) (after s cs) in
      rw (
        map_itself ro,
        of_append o (before s os) (ro ++ joined s.inplace ro (after s os)) (before s cs) (map (average h) rc ++ joined s.inplace (map (residual h) rc) (after s cs)) same_before,
        of_append o ro (joined s.inplace ro (after s os)) (map (average h) rc) (joined s.inplace (map (residual h) rc) (after s cs)) la,
        of_joined o s.inplace ro (after s os) (map (residual h) rc) (after s cs) lr same_after,
        of_map o (average h) ro rc,
        of_map o (residual h) ro rc,
      )
      (omega (
        arith,
        total_append B (map (average h) (of_origin o ro rc) ++ joined s.inplace (map (residual h) (of_origin o ro rc)) Z),
        total_append (map (average h) (of_origin o ro rc)) (joined s.inplace (map (residual h) (of_origin o ro rc)) Z),
        joined_total s.inplace (map (residual h) (of_origin o ro rc)) Z,
        parts_total h (of_origin o ro rc),
        whole,
      ))
    where
      whole : total (of_origin o os cs)
          ≡ total (of_origin o (before s os) (before s cs)) + (total (of_origin o (range s os) (range s cs)) + total (of_origin o (after s os) (after s cs)))
      whole =
          let e : of_origin o os cs ≡ of_origin o (before s os ++ (range s os ++ after s os)) (before s cs ++ (range s cs ++ after s cs)) = rw (parts_whole s os, parts_whole s cs) in
          ap total (e
          ∙ of_append o (before s os) (range s os ++ after s os) (before s cs) (range s cs ++ after s cs) same_before
          ∙ ap (λ r. of_origin o (before s os) (before s cs) ++ r) (of_append o (range s os) (after s os) (range s cs) (after s cs) same_range))
          ∙ omega (
            arith,
            total_append (of_origin o (before s os) (before s cs)) (of_origin o (range s os) (range s cs) ++ of_origin o (after s os) (after s cs)),
            total_append (of_origin o (range s os) (range s cs)) (of_origin o (after s os) (after s cs)),
          )

-- ---- along the steps
module _ (o : ℕ) where
  run_total : (ss : List Step) (cs : List Channel) (os : List ℕ) → length os ≡ length cs → total (of_origin o (origins_from ss cs os) (layout ss cs)) ≡ total (of_origin o os cs)
  run_total [] cs os e = refl
  run_total (s ∷ ss) cs os e =
      by_taken s cs
      (λ t. rw t (run_total ss (stepped s cs) (stepped_origins s os) (step_same s cs os e t) ∙ step_total o s os cs e))
      (λ t. rw t (run_total ss cs os e))

  pub origin_total : (ss : List Step) (cs : List Channel) → o < length cs → total (of_origin o (layout_origins ss cs) (layout ss cs)) ≡ samples (channel_of cs o)
  origin_total ss cs h = run_total ss cs _ (own_length (length cs)) ∙ rw (own_one o (length cs) cs no_channel refl h) (omega arith)
