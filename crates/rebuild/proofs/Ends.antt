-- The two ends of a run of steps back: at its begin every channel lies in the pyramid in list order, and at its end the channels of the first list are
-- settled to the rebuilt picture. Assumes nothing.
use mathlib.Core.Path.{◌≡◌, refl, sym, ap, ◌∙◌}
use mathlib.Core.Bool.{false≢true}
use mathlib.Core.List.{List, [], ◌∷◌}
use Prim.Native.Nat.{ℕ, zero, suc, ◌<◌, ◌≤◌, min}
use native.Mathlib.Omega.{arith}
use lib.IntN.{ℤ}
use lib.ListN.{length, get_or}
use lib.Seq.{ext_get_or, drop-drop}
use Rattle.channel.specs.declared.Channel.{Channel}
use Rattle.channel.specs.Channel.{samples}
use Rattle.list.specs.declared.ChannelList.{ChannelList}
use Rattle.list.specs.Tables.{table, map}
use Rattle.list.specs.Lists.{max_channels, channels}
use Rattle.list.specs.Questions.{channel_of}
use Rattle.list.proofs.Tables.{table_none}
use Rattle.list.proofs.Maps.{map_length, map_at}
use Rattle.places.specs.declared.Place.{Place}
use Rattle.places.specs.declared.Places.{Places}
use Rattle.places.specs.Places.{area, sum, starts_from, none, places_in, areas_in, places_from, place_of}
use Rattle.places.specs.Laid.{Sided, part}
use Rattle.places.proofs.Laid.{starts_at, sum_inside, first_home}
use Rattle.places.proofs.Sided.{sided_area}
use Rattle.plan.specs.declared.Steps.{Steps}
use Rattle.plan.specs.Steps as S
use Rattle.plan.specs.Steps.{step_at, steps}
use Rattle.plan.proofs.Runs.{plan_accepted}
use Rattle.runs.specs.Parts.{parts, joined}
use Rattle.runs.specs.Runs.{rebuilt}
use Rattle.runs.proofs.Shapes.{joined_parts}
use Rattle.rebuild.specs.declared.Source.TheVariants.{Pyramid}
use Rattle.rebuild.specs.declared.Sources.{Sources}
use Rattle.rebuild.specs.Run.{made_of, source_at, Lying, step_count, list_at, places_at, samples_at, RunFits, Back, place_in, given_at, SettleFits, Settled}
use Rattle.places.proofs.Arrays.{places_length}
use Rattle.places.proofs.First.{from_areas, from_homes, from_sided, sum_samples}
use Rattle.rebuild.proofs.Arrays.{areas_are, from_slots}
use Rattle.rebuild.proofs.Firsts.{all_steps_lem, list_total, total_few, accepted_few, places_sided, places_laid}
use Rattle.rebuild.proofs.StepsBack.{parts_count}

-- ---- the parts of a slice, by index
parts_at : (cs : List Channel) (xs : List ℤ) (k : ℕ) → k < length cs → get_or (parts cs xs) k [] ≡ part (place_in cs k) (samples (channel_of cs k)) xs
unfolding part
parts_at [] xs k h = absurd (omega arith)
parts_at (c ∷ cs) xs zero h = refl
parts_at (c ∷ cs) xs (suc k) h = parts_at cs _ k (omega arith) ∙ rw (drop-drop (place_in cs k) (samples c) xs)

-- a list's samples by its places
areas_same : (cs : List Channel) (ps : List Place) → Sided cs ps → map area ps ≡ map samples cs
areas_same cs ps w =
    let a = map_length area ps in
    let b = map_length samples cs in
    let n = w.long in
    ext_get_or 0 (map area ps) (map samples cs) (omega arith)
    (λ k h.
    map_at area ps k none 0 (omega arith) ∙ sided_area cs ps w k (omega arith)
    ∙ sym (map_at samples cs k (record { width = 0; height = 0; hshift = 0; vshift = 0 }) 0 (omega arith)))

module _ (l : ChannelList) (s : Steps) (pyramid : List ℤ) (f : RunFits l s pyramid) where
  -- ---- before the first step back
  module _ (p : Places) (sources : Sources) (ep : places_in p ≡ places_at l s (step_count s)) (ly : Lying p sources)
      (picture work : List ℤ) (lp : length picture ≡ length pyramid) (lw : length work ≡ length pyramid) where
    abbrev cs : List Channel
    cs = list_at l s (step_count s)

    abbrev ps : List Place
    ps = places_at l s (step_count s)

    sided : Sided cs ps
    sided = places_sided l s pyramid f (step_count s) (omega arith)

    count_is : p.count ≡ length ps
    count_is = sym (places_length p) ∙ ap length ep

    whole : steps s ≡ table (step_at s) 0 (step_count s)
    unfolding S.steps
    whole = refl

    count_few : p.count ≤ max_channels
    count_few =
        let a = (plan_accepted (table (step_at s) 0 (step_count s)) (channels l) f.accepted (rw whole at f.taken)).few in
        let n = sided.long in
        let e = count_is in
        omega arith

    areas : areas_in p ≡ map samples cs
    areas = areas_are p count_few ∙ ap (map area) ep ∙ areas_same cs ps sided

    sum_is : sum (map samples cs) ≡ length pyramid
    sum_is = sum_samples cs ∙ list_total l s pyramid f (step_count s)

    lies_at : (k : ℕ) → k < length ps → source_at sources k ≡ Pyramid (place_in cs k)
    lies_at k h =
        let n = sided.long in
        let e = count_is in
        let few = count_few in
        let b = map_length samples cs in
        let t = total_few l s pyramid f in
        let q = sum_is in
        let z : get_or (starts_from 0 (map samples cs)) k 0 ≡ place_in cs k = starts_at 0 (map samples cs) (omega arith) k (omega arith) ∙ omega arith in
        rw areas at (ly k (omega arith)) ∙ ap Pyramid z

    size_is : (k : ℕ) → k < length ps → area (place_of ps k) ≡ samples (channel_of cs k)
    size_is k h = sided_area cs ps sided k h

    pyramid_is : samples_at l s (step_count s) pyramid ≡ pyramid
    pyramid_is = rw (table_none (step_at s) (step_count s) (step_count s) (omega arith))

    pub back_none : Back l s (step_count s) sources pyramid picture work
    back_none =
        record {
          inside = omega arith;
          starts_in = λ k h.
              let b = sum_inside (map samples cs) k in
              let n = sided.long in
              let c = map_at samples cs k (record { width = 0; height = 0; hshift = 0; vshift = 0 }) 0 (omega arith) in
              rw (lies_at k h, size_is k h) (let q = sum_is in omega (arith, b, c, q));
          at_home_lem = λ k h e. absurd (false≢true (sym (ap made_of (lies_at k h)) ∙ e));
          here = λ k h.
              let n = sided.long in
              rw (lies_at k h, size_is k h, pyramid_is) (sym (parts_at cs pyramid k (omega arith)));
          samples_long = ap length pyramid_is;
          picture_long = lp;
          work_long = lw;
        }

  -- ---- after the last
  module _ (p : Places) (ep : places_in p ≡ places_at l s 0) (sources : Sources) (picture work : List ℤ) (w : Back l s 0 sources pyramid picture work) where
    abbrev ds : List Channel
    ds = channels l

    first_long : length (places_from 0 ds) ≡ length ds
    first_long = (from_sided 0 ds).long

    first_area : (k : ℕ) → k < length ds → area (place_of (places_from 0 ds) k) ≡ samples (channel_of ds k)
    first_area k h = let n = first_long in sided_area ds (places_from 0 ds) (from_sided 0 ds) k (omega arith)

    first_place : (k : ℕ) → k < length ds → (place_of (places_from 0 ds) k).home ≡ place_in ds k
    first_place k h =
        let n = first_long in
        let q = sum_samples ds in
        let t = accepted_few ds f.accepted in
        first_home (places_from 0 ds) (map samples ds) (sym (from_areas 0 ds)) (from_homes 0 ds) (omega arith) k (omega arith)

    pub settle_fits : SettleFits (places_in p) sources pyramid picture
    settle_fits =
        rw ep
        (record {
          laid = places_laid l s pyramid f 0 (omega arith);
          starts_in = w.starts_in;
          at_home_lem = w.at_home_lem;
          picture_long = w.picture_long;
        })

    given : (k : ℕ) → k < length ds → given_at (places_from 0 ds) sources pyramid picture k ≡ get_or (parts ds (samples_at l s 0 pyramid)) k []
    given k h = let n = first_long in rw (from_slots 0 ds k) at (w.here k (omega arith))

    pub settled_is : (picture2 : List ℤ) → length picture2 ≡ length picture → Settled (min p.count max_channels) (places_in p) sources pyramid picture picture2
        → picture2 ≡ rebuilt (steps s) ds pyramid
    settled_is picture2 e t =
        let few = f.accepted.few in
        let n : p.count ≡ length ds = sym (places_length p) ∙ ap length ep ∙ first_long in
        let a = parts_count ds picture2 in
        let b = parts_count ds (samples_at l s 0 pyramid) in
        let there : (k : ℕ) → k < length ds → part (place_in ds k) (samples (channel_of ds k)) picture2 ≡ get_or (parts ds (samples_at l s 0 pyramid)) k [] =
        λ k h. rw (← first_place k h, ← first_area k h) (rw ep at (t k (omega arith)) ∙ given k h) in
        let same : parts ds picture2 ≡ parts ds (samples_at l s 0 pyramid) =
        ext_get_or [] (parts ds picture2) (parts ds (samples_at l s 0 pyramid)) (omega arith)
        (λ k h. parts_at ds picture2 k (omega arith) ∙ there k (omega arith)) in
        sym (joined_parts ds picture2 (e ∙ w.picture_long ∙ f.pyramid_long)) ∙ ap joined same ∙ joined_parts ds (samples_at l s 0 pyramid) (w.samples_long ∙ f.pyramid_long)
        ∙ rw (all_steps_lem s 0 (omega arith))
