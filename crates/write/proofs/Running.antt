-- Accepted steps one after the other on the places of a list (`squeezed` of crate runs): before each step the list that is reached, what its places
-- hold and the steps that are left give the whole run, and what is told so far and those steps its mark. Assumes nothing.
use mathlib.Core.Path.{◌≡◌, sym, ap, ◌∙◌}
use mathlib.Core.Bool.{Bool, false, ◌||◌, ◌&&◌}
use mathlib.Core.List.{List, []}
use Prim.Native.Nat.{ℕ, ◌+◌, ◌-◌, ◌<◌, ◌≤◌, min}
use native.Mathlib.Omega.{arith}
use borrow.Author.Tests.{leb-true}
use lib.IntN.{ℤ}
use lib.ListN.{length}
use Rattle.numbers.specs.Numbers.{max_samples}
use Rattle.channel.specs.declared.Channel.{Channel}
use Rattle.list.specs.declared.Step.{Step}
use Rattle.list.specs.Lists.{max_channels, max_steps, stepped, total}
use Rattle.list.specs.Questions as Questions
use Rattle.list.specs.Questions.{channel_of, judge_step}
use Rattle.list.specs.Accepted.{Accepted, StepAccepted}
use Rattle.list.proofs.Tables.{table_none}
use Rattle.list.proofs.Maps.{map_length, map_at}
use Rattle.list.proofs.Acceptance.{step_accepted}
use Rattle.list.proofs.Kept.{stepped_allowed}
use Rattle.list.proofs.Totals.{stepped_total}
use Rattle.places.specs.declared.Slot.{Slot}
use Rattle.places.specs.declared.Slot.TheVariants.{Unmade, Odd, Even}
use Rattle.places.specs.declared.Place.{Place}
use Rattle.places.specs.Places.{area, step_places, place_of}
use Rattle.places.specs.Laid.{Laid, Sided, part}
use Rattle.places.proofs.Parts.{part_length}
use Rattle.places.proofs.Laid.{laid_step}
use Rattle.places.proofs.Sided.{sided_step, sided_area}
use Rattle.plan.specs.declared.Steps.{Steps}
use Rattle.plan.specs.Steps as S
use Rattle.plan.specs.Steps.{step_at, steps}
use Rattle.plan.specs.Plans.{judge_steps}
use Rattle.plan.proofs.Reached.{left, left_next}
use Rattle.plan.proofs.Runs.{none_refused}
use Rattle.runs.specs.Parts.{parts, joined}
use Rattle.runs.specs.Runs as Runs
use Rattle.runs.specs.Runs.{step_forward, squeezed}
use Rattle.runs.specs.Marks.{step_written_marked, run_written_marked}
use Rattle.runs.proofs.Shapes.{Shaped, parts_joined, shaped_by}
use Rattle.write.specs.Standing as Standing
use Rattle.write.specs.Standing.{Alike, slice_of, lying, held, places_marked, Squeezed}
use Rattle.write.proofs.Stepping.{held_step_lem}
use Rattle.write.proofs.Marks.{step_told, steps_more, steps_all}

-- ---- what the places hold has the shape of the list
module _ (picture odds evens : List ℤ) (alike : Alike picture odds evens) where
  lying_length : (p : Place) → p.home + area p ≤ length picture → length (lying picture odds evens p) ≡ area p
  unfolding Standing.lying
  lying_length p i = go p.slot
    where
      go : (s : Slot) → length (part p.home (area p) (slice_of picture odds evens s)) ≡ area p
      go Unmade = part_length p.home (area p) picture i
      go Odd = let l = alike.odds_length in part_length p.home (area p) odds (omega arith)
      go Even = let l = alike.evens_length in part_length p.home (area p) evens (omega arith)

  held_shaped : (cs : List Channel) (ps : List Place) → Sided cs ps → Laid (length picture) ps → Shaped cs (held picture odds evens ps)
  held_shaped cs ps s w =
      let l = s.long in
      shaped_by cs (held picture odds evens ps) (map_length (lying picture odds evens) ps ∙ l)
      (λ k h.
      let b : k < length ps = omega arith in
      ap length (map_at (lying picture odds evens) ps k _ [] b) ∙ lying_length (place_of ps k) (w.inside k b) ∙ sided_area cs ps s k b)

-- ---- the run
-- a list is reached, with these places, and the steps from k on are left
pub record Running (l : List Channel) (s : Steps) (picture : List ℤ) (marks : Bool) (ps : List Place) (odds evens : List ℤ) (told : Bool) (k : ℕ) : Type 0 where
  pub cs : List Channel
  pub fine : Accepted cs
  pub judged : judge_steps (left s k) cs ≡ 0
  pub same : total cs ≡ length picture
  pub sided : Sided cs ps
  pub laid : Laid (length picture) ps
  pub alike : Alike picture odds evens
  pub so : squeezed (left s k) cs (joined (held picture odds evens ps)) ≡ squeezed (steps s) l picture
  pub marked : (told || (marks && run_written_marked (left s k) cs (joined (held picture odds evens ps)))) ≡ (marks && run_written_marked (steps s) l picture)

module _ (l : List Channel) (s : Steps) (picture : List ℤ) (marks : Bool) where
  pub running_none : (ps : List Place) (odds evens : List ℤ) → Accepted l → judge_steps (steps s) l ≡ 0 → length picture ≡ total l
      → Sided l ps → Laid (length picture) ps → Alike picture odds evens → joined (held picture odds evens ps) ≡ picture
      → Running l s picture marks ps odds evens false 0
  unfolding S.steps
  running_none ps odds evens fine judged long sided laid alike e =
      let z : min s.count max_steps - 0 ≡ min s.count max_steps = omega arith in
      record { cs = l; fine = fine; judged = rw z judged; same = sym long; sided = sided; laid = laid; alike = alike; so = rw (z, e); marked = rw (z, e) }

  pub small : (ps : List Place) (odds evens : List ℤ) (told : Bool) (k : ℕ) → Running l s picture marks ps odds evens told k → length picture ≤ max_samples
  unfolding Questions.total_allowed
  small ps odds evens told k w = let t = leb-true (total w.cs) max_samples w.fine.samples in omega (arith, w.same)

  -- step x is the one at k
  module _ (ps : List Place) (odds evens : List ℤ) (told : Bool) (k : ℕ) (w : Running l s picture marks ps odds evens told k) (h : k < min s.count max_steps) (x : Step) (ex : x ≡ step_at s k) where
    apart : (judge_step x w.cs ≡ 0) × (judge_steps (left s (k + 1)) (stepped x w.cs) ≡ 0)
    apart = none_refused (judge_step x w.cs) (judge_steps (left s (k + 1)) (stepped x w.cs)) (rw (left_next s k h x ex) at w.judged)

    pub accepted : StepAccepted x w.cs
    accepted = step_accepted x w.cs apart.0

    -- its range lies inside, and there is room for its residuals
    pub reach : (x.begin + x.number ≤ length ps) × (length ps + x.number ≤ max_channels)
    reach =
        let n = w.sided.long in
        let i = accepted.inside in
        let r = accepted.room in
        (omega arith, omega arith)

    pub running_more : (odds' evens' : List ℤ) → length odds' ≡ length odds → length evens' ≡ length evens
        → Squeezed x.horizontal (place_of ps) x.begin (x.begin + x.number) picture odds evens odds' evens'
        → (turn : Bool) → turn ≡ (marks && places_marked x.horizontal (place_of ps) x.begin x.number picture odds evens)
        → (ps' : List Place) → ps' ≡ step_places x ps → Running l s picture marks ps' odds' evens' (told || turn) (k + 1)
    unfolding Runs.step_forward
    running_more odds' evens' lo le q turn et ps' ep =
        let cs = w.cs in
        let hs = held picture odds evens ps in
        let c : parts cs (joined hs) ≡ hs = parts_joined cs hs (held_shaped picture odds evens w.alike cs ps w.sided w.laid) in
        let t : step_forward x cs (joined hs) ≡ joined (held picture odds' evens' (step_places x ps)) =
        rw c (ap joined (sym (held_step_lem x cs ps reach.0 w.sided picture odds evens odds' evens' (small ps odds evens told k w) w.laid q))) in
        let v : turn ≡ (marks && step_written_marked x cs (parts cs (joined hs))) = rw (c, ← step_told x cs ps reach.0 w.sided picture odds evens) et in
        let a = w.alike in
        record {
          cs = stepped x cs;
          fine = stepped_allowed x cs accepted w.fine;
          judged = apart.1;
          same = stepped_total x cs ∙ w.same;
          sided = rw ep (sided_step x cs ps accepted.inside w.sided);
          laid = rw ep (laid_step (length picture) x ps reach.0 (small ps odds evens told k w) w.laid);
          alike = record { odds_length = lo ∙ a.odds_length; evens_length = le ∙ a.evens_length };
          so = rw (ep, ← t) (rw (left_next s k h x ex, apart.0) at w.so);
          marked =
              rw (ep, ← t)
              (steps_more marks told turn (step_written_marked x cs (parts cs (joined hs))) _ _ v
              (rw (left_next s k h x ex, apart.0) at w.marked));
        }

  module _ (ps : List Place) (odds evens : List ℤ) (told : Bool) (k : ℕ) (end : min s.count max_steps ≤ k) (w : Running l s picture marks ps odds evens told k) where
    pub running_all : joined (held picture odds evens ps) ≡ squeezed (steps s) l picture
    running_all = rw (table_none (step_at s) k (min s.count max_steps) end) at w.so

    pub told_all : told ≡ (marks && run_written_marked (steps s) l picture)
    told_all = steps_all marks told _ (rw (table_none (step_at s) k (min s.count max_steps) end) at w.marked)
