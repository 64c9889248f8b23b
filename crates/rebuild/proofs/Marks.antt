-- The mark of a plan run (`mark` of specs/Rebuild.antt) as its parts tell it: a channel's by what it is made of, a step's by the channels of its range,
-- each from what its sources hold before the step, and a run's step by step, last first. Assumes nothing.
use mathlib.Core.Path.{◌≡◌, refl, sym, ap, ◌∙◌}
use mathlib.Core.Bool.{Bool, false, ◌||◌, ◌&&◌}
use mathlib.Core.List.{List}
use Prim.Native.Nat.{ℕ, suc, ◌+◌, ◌-◌, ◌<◌}
use native.Mathlib.Omega.{arith}
use borrow.Author.Tests.{eq-eqb}
use lib.IntN.{ℤ}
use lib.ListN.{length}
use Rattle.std.proofs.Math.Bool.{and-or_distrib_left}
use Rattle.std.specs.Prelude.{Result, Ok, Err}
use Rattle.std.specs.Result.{result_unwrap_or}
use Rattle.range.specs.Range.{some, mark_of}
use Rattle.range.proofs.Some.{some_cong}
use Rattle.range.proofs.Told.{nothing}
use Rattle.channel.specs.declared.Channel.{Channel}
use Rattle.list.specs.declared.ChannelList.{ChannelList}
use Rattle.list.specs.declared.Step.{Step}
use Rattle.list.specs.Tables.{table}
use Rattle.list.specs.Lists.{channels, stepped}
use Rattle.list.specs.Questions.{channel_of, judge_step}
use Rattle.list.proofs.Tables.{table_none, table_rest}
use Rattle.places.specs.declared.Place.{Place}
use Rattle.places.specs.Places.{bare, is_odd, residuals_at, place_of}
use Rattle.places.proofs.Steps.{residuals_from_lem}
use Rattle.plan.specs.declared.Steps.{Steps}
use Rattle.plan.specs.Steps.{step_at, steps}
use Rattle.runs.specs.Parts.{parts}
use Rattle.runs.specs.Runs.{rebuilt}
use Rattle.runs.specs.Marks.{channel_marked, step_marked, run_marked}
use Rattle.rebuild.specs.declared.Sources.{Sources}
use Rattle.rebuild.specs.Run.{other, channel_from_marked, source_at, RangeFits, held_marked, range_held_marked, step_count, list_at, places_at, marked_at, RunFits, Back}
use Rattle.rebuild.proofs.Backs.{channel_at_marked, step_by_channels}
use Rattle.rebuild.proofs.Firsts.{all_steps_lem, list_more, step_judged, places_sided}
use Rattle.rebuild.proofs.Ranges.{Taken, avg_still, res_still}
use Rattle.rebuild.proofs.StepsBack.{in_range, here, cs_long, cs_range, old_count}

-- ---- what is told
-- by a call that may be refused
pub told_by : (marks : Bool) {E : Type 0} (r : Result Bool E) {told a b : Bool} → told ≡ result_unwrap_or r false → mark_of r ≡ (marks && a) → a ≡ b → told ≡ (marks && b)
told_by marks (Ok mark) e m same = e ∙ m ∙ rw same
told_by marks (Err refusal) e m same = e ∙ m ∙ rw same

pub told_more : (marks before here : Bool) {told turn : Bool} → told ≡ (marks && before) → turn ≡ (marks && here) → (told || turn) ≡ (marks && (before || here))
told_more marks before here e f = rw (e, f) (sym (and-or_distrib_left marks before here))

-- ---- one channel
pub marked_from : (h : Bool) (c : Channel) (avg res avg2 res2 : List ℤ) → avg ≡ avg2 → res ≡ res2 → channel_marked h c avg res ≡ channel_marked h c avg2 res2
marked_from h c avg res avg2 res2 ea er = rw (ea, er)

-- a channel's sides are all that a squeeze knows of it
marked_sides : (h : Bool) (p : Place) (c : Channel) (avg res : List ℤ) → p.width ≡ c.width → p.height ≡ c.height → channel_marked h (bare p) avg res ≡ channel_marked h c avg res
unfolding channel_marked
marked_sides h p c avg res ew eh = rw (ew, eh)

-- ---- a step's range: one channel more
module _ (s : Step) (qs : List Place) (sources : Sources) (pyramid picture₀ work₀ : List ℤ) (f : RangeFits s qs sources pyramid picture₀ work₀)
    (i : ℕ) (h : i < s.number) (picture work : List ℤ) (t : Taken s qs sources pyramid picture₀ work₀ i picture work) where
  -- what it is made of lies as it did before the step
  turn_is : channel_from_marked s.horizontal (place_of qs (s.begin + i)) (source_at sources (s.begin + i)) (source_at sources (residuals_at (length qs) s + i)) pyramid (other (is_odd (place_of qs (s.begin + i)).slot) picture work)
      ≡ held_marked s qs sources pyramid picture₀ work₀ i
  turn_is =
      marked_from s.horizontal (bare (place_of qs (s.begin + i))) _ _ _ _ (avg_still s qs sources pyramid picture₀ work₀ f i h picture work t)
      (res_still s qs sources pyramid picture₀ work₀ f i h picture work t)

  pub range_more : (marks told : Bool) {turn : Bool} (p : Place) → p ≡ place_of qs (s.begin + i) → (r : ℕ) → r ≡ residuals_at (length qs) s
      → told ≡ (marks && some (held_marked s qs sources pyramid picture₀ work₀) i)
      → turn ≡ (marks && channel_from_marked s.horizontal p (source_at sources (s.begin + i)) (source_at sources (r + i)) pyramid (other (is_odd p.slot) picture work))
      → (told || turn) ≡ (marks && some (held_marked s qs sources pyramid picture₀ work₀) (i + 1))
  range_more marks told p e r er before now =
      let z : i + 1 ≡ suc i = omega arith in
      rw z (told_more marks _ _ before (rw (e, er) at now ∙ ap (λ (b : Bool). marks && b) turn_is))

-- ---- a run
module _ (l : ChannelList) (s : Steps) (pyramid : List ℤ) where
  pub run_none : (marks : Bool) → false ≡ (marks && marked_at l s (step_count s) pyramid)
  run_none marks = rw (table_none (step_at s) (step_count s) (step_count s) (omega arith)) (nothing marks)

  pub run_whole : marked_at l s 0 pyramid ≡ run_marked (steps s) (channels l) pyramid
  run_whole = rw (all_steps_lem s 0 (omega arith))

-- one step more
module _ (l : ChannelList) (s : Steps) (pyramid : List ℤ) (f : RunFits l s pyramid) (m : ℕ) (h : m < step_count s)
    (sources : Sources) (picture work : List ℤ) (w : Back l s (m + 1) sources pyramid picture work) where
  abbrev st : Step
  st = step_at s m

  abbrev qs : List Place
  qs = places_at l s m

  abbrev cs : List Channel
  cs = list_at l s m

  abbrev old : List (List ℤ)
  old = parts (stepped st cs) (rebuilt (table (step_at s) (m + 1) (step_count s - (m + 1))) (stepped st cs) pyramid)

  channel_is : (i : ℕ) → i < st.number → held_marked st qs sources pyramid picture work i ≡ channel_at_marked st cs old (cs_range l s pyramid f m h sources picture work w) (old_count l s pyramid f m h sources picture work w) i
  channel_is i b =
      let n = in_range l s pyramid f m h sources picture work w in
      let r = residuals_from_lem st qs n in
      let sd = places_sided l s pyramid f m (omega arith) in
      rw (
        here l s pyramid f m h sources picture work w (st.begin + i) (omega arith),
        here l s pyramid f m h sources picture work w (residuals_at (length qs) st + i) (omega arith),
        ← cs_long l s pyramid f m h sources picture work w,
      )
      (marked_sides st.horizontal (place_of qs (st.begin + i)) (channel_of cs (st.begin + i)) _ _ (sd.wide (st.begin + i) (omega arith)) (sd.high (st.begin + i) (omega arith)))

  step_is : range_held_marked st qs sources pyramid picture work ≡ step_marked st cs old
  step_is =
      let i = cs_range l s pyramid f m h sources picture work w in
      let n = old_count l s pyramid f m h sources picture work w in
      some_cong (held_marked st qs sources pyramid picture work) _ st.number channel_is ∙ sym (step_by_channels st cs old i n)

  turn_adds : (marked_at l s (m + 1) pyramid || step_marked st cs old) ≡ marked_at l s m pyramid
  turn_adds = sym (rw (table_rest (step_at s) m (step_count s) h, eq-eqb (judge_step st cs) 0 (step_judged l s pyramid f m h), list_more l s m) refl)

  pub run_more : (marks told : Bool) {turn : Bool} (t : Step) → t ≡ st → (rs : List Place) → rs ≡ qs
      → told ≡ (marks && marked_at l s (m + 1) pyramid)
      → turn ≡ (marks && range_held_marked t rs sources pyramid picture work)
      → (told || turn) ≡ (marks && marked_at l s m pyramid)
  run_more marks told t et rs er before now =
      told_more marks _ _ before (rw (et, er) at now ∙ ap (λ (b : Bool). marks && b) step_is) ∙ ap (λ (b : Bool). marks && b) turn_adds
