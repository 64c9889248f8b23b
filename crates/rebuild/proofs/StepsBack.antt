-- A run of accepted steps back, last first (`Back` of specs/Run.antt): what a step's range, marks and closing leave is the list before the step with
-- its samples. Assumes nothing.
use mathlib.Core.Path.{◌≡◌, refl, sym, ap, subst, ◌∙◌}
use mathlib.Core.Bool.{Bool, true, false, cond}
use mathlib.Core.List.{List, [], ◌∷◌}
use mathlib.Core.Logic.{◌⊎◌, inl, inr}
use Prim.Native.Nat.{ℕ, suc, ◌+◌, ◌-◌, ◌<◌, ◌≤◌}
use native.Mathlib.Omega.{arith}
use borrow.Author.Tests.{eq-eqb, lt-ltb, le-ltb}
use lib.Dec.{ltb}
use lib.IntN.{ℤ}
use lib.ListN.{length, get_or}
use Rattle.channel.specs.declared.Channel.{Channel}
use Rattle.list.specs.declared.ChannelList.{ChannelList}
use Rattle.list.specs.declared.Step.{Step}
use Rattle.list.specs.Tables.{table}
use Rattle.list.specs.Lists.{stepped}
use Rattle.list.specs.Questions.{channel_of, judge_step}
use Rattle.list.proofs.Tables.{table_rest}
use Rattle.list.proofs.Entries.{stepped_length}
use Rattle.std.proofs.lemmas.Bool.{cases_lt}
use Rattle.places.specs.declared.Place.{Place}
use Rattle.places.specs.Places.{area, is_odd, step_places, residuals_at, root, place_of, bare}
use Rattle.places.specs.Laid.{part}
use Rattle.places.proofs.Steps.{steps_length, step_before, step_between, step_after, root_average, residuals_from_lem}
use Rattle.places.proofs.Sided.{sided_area, sided_fit}
use Rattle.plan.specs.declared.Steps.{Steps}
use Rattle.plan.specs.Steps.{step_at}
use Rattle.runs.specs.Parts.{parts}
use Rattle.runs.specs.Runs.{channel_back, back_parts, step_back, rebuilt}
use Rattle.runs.proofs.Shapes.{Shaped, parts_joined, joined_length, shaped_by}
use Rattle.rebuild.specs.declared.Source.TheVariants.{Home}
use Rattle.rebuild.specs.declared.Sources.{Sources}
use Rattle.rebuild.specs.Run.{slice_of, start_of, made_of, lying_in, source_at, start_at, made_at, held, step_count, RangeFits, TakenBack, list_at, places_at, samples_at, RunFits, Back}
use Rattle.rebuild.proofs.Lent.{source_length, slice_length}
use Rattle.rebuild.proofs.Backs.{back_count, back_before, back_range, back_behind}
use Rattle.rebuild.proofs.Firsts.{list_more, places_more, step_judged, step_ok, list_ok, list_total, total_few, places_sided, places_laid, step_inside}

pub parts_count : (cs : List Channel) (xs : List ℤ) → length (parts cs xs) ≡ length cs
parts_count [] xs = refl
parts_count (c ∷ cs) xs = ap suc (parts_count cs _)

-- a channel's sides are all that a squeeze knows of it
back_sides : (h : Bool) (p : Place) (c : Channel) (a r : List ℤ) → p.width ≡ c.width → p.height ≡ c.height → channel_back h (bare p) a r ≡ channel_back h c a r
unfolding channel_back
back_sides h p c a r ew eh = rw (ew, eh)

-- an entry behind the range comes from itself
root_behind : (n : ℕ) (s : Step) (k : ℕ) → s.begin + s.number ≤ k → k < n → root n s (k + cond s.inplace s.number 0) ≡ k
unfolding root
root_behind n s k g b = by s.inplace
  where
    by : (t : Bool)
        → cond (ltb (k + cond t s.number 0) (cond t (s.begin + s.number) n)) (k + cond t s.number 0)
        (cond (ltb (k + cond t s.number 0) (cond t (s.begin + s.number) n + s.number)) (s.begin + (k + cond t s.number 0 - cond t (s.begin + s.number) n))
        (k + cond t s.number 0 - s.number))
        ≡ k
    by true = rw (le-ltb (k + s.number) (s.begin + s.number) (omega arith), le-ltb (k + s.number) (s.begin + s.number + s.number) (omega arith)) (omega arith)
    by false = rw (lt-ltb (k + 0) n (omega arith)) (omega arith)

module _ (l : ChannelList) (s : Steps) (pyramid : List ℤ) (f : RunFits l s pyramid) (m : ℕ) (h : m < step_count s)
    (sources : Sources) (picture work : List ℤ) (w : Back l s (m + 1) sources pyramid picture work) where
  abbrev st : Step
  st = step_at s m

  abbrev qs : List Place
  qs = places_at l s m

  abbrev cs : List Channel
  cs = list_at l s m

  abbrev ps : List Place
  ps = step_places st qs

  -- the samples of the list after the step
  abbrev xs : List ℤ
  xs = rebuilt (table (step_at s) (m + 1) (step_count s - (m + 1))) (stepped st cs) pyramid

  abbrev old : List (List ℤ)
  old = parts (stepped st cs) xs

  pub in_range : st.begin + st.number ≤ length qs
  in_range = step_inside l s pyramid f m h

  after_long : length (places_at l s (m + 1)) ≡ length qs + st.number
  after_long = ap length (places_more l s m) ∙ steps_length st qs in_range

  starts_in : (j : ℕ) → j < length qs + st.number → start_at sources j + area (place_of ps j) ≤ length pyramid
  starts_in j b = rw (places_more l s m) at (w.starts_in j (let n = after_long in omega arith))

  at_home_lem : (j : ℕ) → j < length qs + st.number → made_at sources j ≡ true → start_at sources j ≡ (place_of ps j).home
  at_home_lem j b e = rw (places_more l s m) at (w.at_home_lem j (let n = after_long in omega arith) e)

  pub here : (j : ℕ) → j < length qs + st.number → held st qs sources pyramid picture work j ≡ get_or old j []
  here j b = rw (places_more l s m, list_more l s m) at (w.here j (let n = after_long in omega arith))

  range_fits : RangeFits st qs sources pyramid picture work
  range_fits =
      let sd = places_sided l s pyramid f m (omega arith) in
      let n = sd.long in
      let r = (step_ok l s pyramid f m h).room in
      record {
        inside = in_range;
        room = omega arith;
        laid = places_laid l s pyramid f m (omega arith);
        few = total_few l s pyramid f;
        sides = sided_fit cs qs sd (list_ok l s pyramid f m h);
        starts_in = starts_in;
        at_home_lem = at_home_lem;
        picture_long = w.picture_long;
        work_long = w.work_long;
      }

  -- the same of a step and of places that are these
  pub fits_here : (t : Step) → t ≡ st → (rs : List Place) → rs ≡ qs → RangeFits t rs sources pyramid picture work
  fits_here t et rs er = rw (et, er) range_fits

  -- ---- the samples before the step
  samples_are : samples_at l s m pyramid ≡ step_back st cs xs
  samples_are = rw (table_rest (step_at s) m (step_count s) h, eq-eqb (judge_step st cs) 0 (step_judged l s pyramid f m h))

  pub cs_long : length qs ≡ length cs
  cs_long = (places_sided l s pyramid f m (omega arith)).long

  pub old_count : length old ≡ length cs + st.number
  old_count = parts_count (stepped st cs) _ ∙ stepped_length st cs (let n = cs_long in let i = in_range in omega arith)

  abbrev new : List (List ℤ)
  new = back_parts st cs old

  pub cs_range : st.begin + st.number ≤ length cs
  cs_range = let n = cs_long in let i = in_range in omega arith

  -- entry k behind or before the range comes from entry j
  abbrev shift : ℕ
  shift = cond st.inplace st.number 0

  behind_place : (b : Bool) → st.inplace ≡ b → (k : ℕ) → st.begin + st.number ≤ k → k < length qs → place_of ps (k + cond b st.number 0) ≡ place_of qs k
  behind_place true e k g b =
      let z : k + st.number - st.number ≡ k = omega arith in
      let r : residuals_at (length qs) st ≡ st.begin + st.number = rw e in
      rw z at (step_after st qs in_range (k + st.number) (omega arith) (omega arith))
  behind_place false e k g b =
      let z : k + 0 ≡ k = omega arith in
      let r : residuals_at (length qs) st ≡ length qs = rw e in
      rw z (step_between st qs in_range k g (omega arith))

  -- ---- what the step leaves
  module _ (sources2 : Sources) (picture2 work2 : List ℤ) (tk : TakenBack st qs sources pyramid picture work sources2 picture2 work2)
      (ep : length picture2 ≡ length pyramid) (ew : length work2 ≡ length pyramid) where
    -- entry k of the list before the step
    record Fine (k : ℕ) : Type 0 where
      start_in : start_at sources2 k + area (place_of qs k) ≤ length pyramid
      home_is : made_at sources2 k ≡ true → start_at sources2 k ≡ (place_of qs k).home
      lies : lying_in (source_at sources2 k) (area (place_of qs k)) pyramid (slice_of (is_odd (place_of qs k).slot) picture2 work2) ≡ get_or new k []

    -- in the range
    ranged : (i : ℕ) → i < st.number → Fine (st.begin + i)
    ranged i b =
        let k = st.begin + i in
        let n = in_range in
        let r = residuals_from_lem st qs in_range in
        let e : source_at sources2 k ≡ Home (place_of qs k).home =
        tk.closed.before k (omega arith) ∙ tk.marked.within k (omega arith) (omega arith) ∙ ap (λ (p : Place). Home p.home) (tk.homes_are k (omega arith)) in
        let es = ap start_of e in
        let em = ap made_of e in
        let sd = places_sided l s pyramid f m (omega arith) in
        record {
          start_in = rw es ((places_laid l s pyramid f m (omega arith)).inside k (omega arith));
          home_is = λ t. es;
          lies =
              rw (em, es)
              (tk.ranged.range_made i b
              ∙ rw (here k (omega arith), here (residuals_at (length qs) st + i) (omega arith))
              (back_sides st.horizontal (place_of qs k) (channel_of cs k) _ _ (sd.wide k (omega arith)) (sd.high k (omega arith))
              ∙ sym (rw (← cs_long) at (back_range st cs old cs_range old_count i b))));
        }

    -- outside of it, from entry j
    outside : (k j : ℕ) → k < length qs → j < length qs + st.number → place_of ps j ≡ place_of qs k → root (length qs) st j ≡ k
        → ((i : ℕ) → i < st.number → k ≡ st.begin + i → ⊥) → get_or new k [] ≡ get_or old j []
        → source_at sources2 k ≡ source_at sources j → Fine k
    outside k j b c e er out en ek =
        let es = ap start_of ek in
        let em = ap made_of ek in
        record {
          start_in = rw es (rw e at (starts_in j c));
          home_is = λ t. es ∙ at_home_lem j c (sym em ∙ t) ∙ ap (λ (p : Place). p.home) e;
          lies = rw (es, em) (by (made_at sources j) refl ∙ here j c ∙ sym en);
        }
      where
        by : (t : Bool) → made_at sources j ≡ t
            → part (start_at sources j) (area (place_of qs k)) (cond t (slice_of (is_odd (place_of qs k).slot) picture2 work2) pyramid)
            ≡ part (start_at sources j) (area (place_of ps j)) (cond t (slice_of (is_odd (place_of ps j).slot) picture work) pyramid)
        by false et = rw e
        by true et = rw (at_home_lem j c et, ← e) (tk.ranged.others_kept j c (λ i l z. out i l (sym er ∙ z)))

    before : (k : ℕ) → k < st.begin → Fine k
    before k b =
        let n = in_range in
        let r = residuals_from_lem st qs in_range in
        outside k k (omega arith) (omega arith) (step_before st qs in_range k b) (root_average st qs in_range k (omega arith)) (λ i c z. absurd (omega arith)) (back_before st cs old cs_range old_count k b)
        (tk.closed.before k (omega arith) ∙ tk.marked.else k (inl b))

    behind_source : (t : Bool) → st.inplace ≡ t → (k : ℕ) → st.begin + st.number ≤ k → k < length qs → source_at sources2 k ≡ source_at sources (k + cond t st.number 0)
    behind_source true e k g b =
        let r : residuals_at (length qs) st ≡ st.begin + st.number = rw e in
        tk.closed.behind k (omega arith) b ∙ tk.marked.else (k + st.number) (inr (omega arith))
    behind_source false e k g b =
        let z : k + 0 ≡ k = omega arith in
        let r : residuals_at (length qs) st ≡ length qs = rw e in
        rw z (tk.closed.before k (omega arith) ∙ tk.marked.else k (inr g))

    shift_few : (t : Bool) → cond t st.number 0 ≤ st.number
    shift_few true = omega arith
    shift_few false = omega arith

    behind : (k : ℕ) → st.begin + st.number ≤ k → k < length qs → Fine k
    behind k g b =
        let t = st.inplace in
        let n = shift_few st.inplace in
        outside k (k + shift) b (omega arith) (behind_place t refl k g b) (root_behind (length qs) st k g b) (λ i c z. absurd (omega arith))
        (back_behind st cs old cs_range old_count k g (let z = cs_long in omega arith)) (behind_source t refl k g b)

    fine : (k : ℕ) → k < length qs → Fine k
    fine k b = by (cases_lt k st.begin) (cases_lt k (st.begin + st.number))
      where
        by : (k < st.begin) ⊎ (st.begin ≤ k) → (k < st.begin + st.number) ⊎ (st.begin + st.number ≤ k) → Fine k
        by (inl c) d = before k c
        by (inr c) (inl d) = let z : st.begin + (k - st.begin) ≡ k = omega arith in subst Fine z (ranged (k - st.begin) (omega arith))
        by (inr c) (inr d) = behind k d b

    new_shape : Shaped cs new
    new_shape =
        shaped_by cs new (back_count st cs old cs_range old_count)
        (λ k b.
        let n = cs_long in
        let x = fine k (omega arith) in
        sym (ap length x.lies) ∙ source_length (source_at sources2 k) (area (place_of qs k)) pyramid _ x.start_in (slice_length (is_odd (place_of qs k).slot) picture2 work2 _ ep ew)
        ∙ sided_area cs qs (places_sided l s pyramid f m (omega arith)) k (omega arith))

    parts_are : parts cs (samples_at l s m pyramid) ≡ new
    unfolding step_back
    parts_are = ap (parts cs) samples_are ∙ parts_joined cs new new_shape

    samples_long : length (samples_at l s m pyramid) ≡ length pyramid
    unfolding step_back
    samples_long = ap length samples_are ∙ joined_length cs new new_shape ∙ list_total l s pyramid f m

    back_more : Back l s m sources2 pyramid picture2 work2
    back_more =
        record {
          inside = omega arith;
          starts_in = λ k b. (fine k b).start_in;
          at_home_lem = λ k b. (fine k b).home_is;
          here = λ k b. (fine k b).lies ∙ ap (λ (ps : List (List ℤ)). get_or ps k []) (sym parts_are);
          samples_long = samples_long;
          picture_long = ep;
          work_long = ew;
        }

  pub back_here : (t : Step) → t ≡ st → (rs : List Place) → rs ≡ qs → (sources2 : Sources) (picture2 work2 : List ℤ)
      → TakenBack t rs sources pyramid picture work sources2 picture2 work2
      → length picture2 ≡ length picture → length work2 ≡ length work → Back l s m sources2 pyramid picture2 work2
  back_here t et rs er sources2 picture2 work2 tk ep ew =
      back_more sources2 picture2 work2 (rw (et, er) at tk) (ep ∙ w.picture_long) (ew ∙ w.work_long)
