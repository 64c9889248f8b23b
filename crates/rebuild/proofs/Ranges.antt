-- The range of a step made channel by channel (`Ranged` of specs/Run.antt): a channel is written to its home, which lies apart from every home that
-- is not of its own average or residual. Assumes nothing.
use mathlib.Core.Path.{◌≡◌, refl, ap, ◌∙◌}
use mathlib.Core.Bool.{Bool, true, false, cond}
use mathlib.Core.List.{List}
use mathlib.Core.Logic.{◌⊎◌, inl, inr}
use Prim.Native.Nat.{ℕ, ◌+◌, ◌<◌, ◌≤◌}
use native.Mathlib.Omega.{arith}
use lib.IntN.{ℤ}
use lib.ListN.{length}
use Rattle.list.specs.declared.Step.{Step}
use Rattle.list.specs.Lists.{max_channels}
use Rattle.std.proofs.lemmas.Bool.{cases_lt}
use Rattle.places.specs.Places as Places
use Rattle.places.specs.declared.Slot.{Slot}
use Rattle.places.specs.declared.Place.{Place}
use Rattle.places.specs.Places.{area, is_odd, turned, average_place, residual_place, step_places, residuals_at, root, place_of, bare}
use Rattle.places.specs.Laid.{Apart, part}
use Rattle.places.proofs.Steps.{step_average, step_residual, root_average, root_residual, root_inside, residuals_from_lem}
use Rattle.places.proofs.Laid.{step_within, laid_apart}
use Rattle.places.proofs.Parts.{part_own, part_other, written_length}
use Rattle.runs.specs.Runs.{channel_back}
use Rattle.runs.proofs.OneChannel.{back_length}
use Rattle.rebuild.specs.declared.Sources.{Sources}
use Rattle.rebuild.specs.Run.{slice_of, other, Wrote, lying_in, channel_from, PutFits, source_at, start_at, made_at, RangeFits, held, at_home, Ranged}
use Rattle.rebuild.proofs.Lent.{made_from}
use Rattle.rebuild.proofs.OneTile.{bare_samples}

-- what a step makes stands in the other slice
pub other_slice : (slot : Slot) (picture work : List ℤ) → slice_of (is_odd (turned slot)) picture work ≡ other (is_odd slot) picture work
unfolding turned
other_slice slot picture work = by (is_odd slot)
  where
    by : (b : Bool) → slice_of (is_odd (cond b Places.even Places.odd)) picture work ≡ other b picture work
    by true = refl
    by false = refl

-- ---- a part that lies apart from what is written, in either slice
module _ (home n : ℕ) (ys picture work picture2 work2 : List ℤ) (ep : length picture ≡ n) (ew : length work ≡ n) (room : home + length ys ≤ n) where
  kept : (b d : Bool) → Wrote b home ys picture work picture2 work2 → (at m : ℕ) → at + m ≤ n → Apart at m home (length ys)
      → part at m (slice_of d picture2 work2) ≡ part at m (slice_of d picture work)
  kept true true w at m l a = ap (part at m) w.there ∙ part_other at m home ys work (omega arith) (omega arith) a
  kept false false w at m l a = ap (part at m) w.there ∙ part_other at m home ys picture (omega arith) (omega arith) a
  kept true false w at m l a = ap (part at m) w.else
  kept false true w at m l a = ap (part at m) w.else

  own : (b : Bool) → Wrote b home ys picture work picture2 work2 → part home (length ys) (slice_of b picture2 work2) ≡ ys
  own true w = ap (part home (length ys)) w.there ∙ part_own home ys work (omega arith)
  own false w = ap (part home (length ys)) w.there ∙ part_own home ys picture (omega arith)

  pub wrote_length : (b : Bool) → Wrote b home ys picture work picture2 work2 → (length picture2 ≡ n) × (length work2 ≡ n)
  wrote_length true w = (ap length w.else ∙ ep, ap length w.there ∙ written_length home ys work (omega arith) ∙ ew)
  wrote_length false w = (ap length w.there ∙ written_length home ys picture (omega arith) ∙ ep, ap length w.else ∙ ew)

module _ (s : Step) (qs : List Place) (sources : Sources) (pyramid picture₀ work₀ : List ℤ) where
  abbrev target : ℕ → List ℤ
  target i =
      channel_back s.horizontal (bare (place_of qs (s.begin + i))) (held s qs sources pyramid picture₀ work₀ (s.begin + i)) (held s qs sources pyramid picture₀ work₀ (residuals_at (length qs) s + i))

  -- i channels of the range are made
  pub record Taken (i : ℕ) (picture work : List ℤ) : Type 0 where
    pub upto : (m : ℕ) → m < i → at_home (place_of qs (s.begin + m)) picture work ≡ target m
    pub left : (j : ℕ) → j < length qs + s.number → ((m : ℕ) → m < i → root (length qs) s j ≡ s.begin + m → ⊥)
        → at_home (place_of (step_places s qs) j) picture work ≡ at_home (place_of (step_places s qs) j) picture₀ work₀
    pub picture_long : length picture ≡ length pyramid
    pub work_long : length work ≡ length pyramid

module _ (s : Step) (qs : List Place) (sources : Sources) (pyramid picture₀ work₀ : List ℤ) (f : RangeFits s qs sources pyramid picture₀ work₀) where
  pub taken_none : Taken s qs sources pyramid picture₀ work₀ 0 picture₀ work₀
  taken_none = record { upto = λ m h. absurd (omega arith); left = λ j h r. refl; picture_long = f.picture_long; work_long = f.work_long }

  pub taken_all : (i : ℕ) (picture work : List ℤ) → s.number ≤ i → i ≤ s.number → Taken s qs sources pyramid picture₀ work₀ i picture work → Ranged s qs sources pyramid picture₀ work₀ picture work
  taken_all i picture work h l t =
      record {
        range_made = λ m b. t.upto m (omega arith);
        others_kept = λ j b r. t.left j b (λ m c e. r m (omega arith) e);
      }

  module _ (i : ℕ) (h : i < s.number) (picture work : List ℤ) (t : Taken s qs sources pyramid picture₀ work₀ i picture work) where
    -- the average or the residual of channel i lies as it did
    still : (j : ℕ) → j < length qs + s.number → root (length qs) s j ≡ s.begin + i
        → lying_in (source_at sources j) (area (place_of (step_places s qs) j)) pyramid (slice_of (is_odd (place_of (step_places s qs) j).slot) picture work) ≡ held s qs sources pyramid picture₀ work₀ j
    still j b e = by (made_at sources j) refl
      where
        by : (m : Bool) → made_at sources j ≡ m
            → part (start_at sources j) (area (place_of (step_places s qs) j)) (cond m (slice_of (is_odd (place_of (step_places s qs) j).slot) picture work) pyramid)
            ≡ part (start_at sources j) (area (place_of (step_places s qs) j)) (cond m (slice_of (is_odd (place_of (step_places s qs) j).slot) picture₀ work₀) pyramid)
        by false em = refl
        by true em = rw (f.at_home_lem j b em) (t.left j b (λ m l c. absurd (omega (arith, e, c))))

    average_at_lem : s.begin + i < length qs + s.number
    average_at_lem = let n = f.inside in omega arith

    residual_at_lem : residuals_at (length qs) s + i < length qs + s.number
    residual_at_lem = let n = residuals_from_lem s qs f.inside in omega arith

    pub avg_still : lying_in (source_at sources (s.begin + i)) (area (average_place s.horizontal (place_of qs (s.begin + i)))) pyramid (other (is_odd (place_of qs (s.begin + i)).slot) picture work)
        ≡ held s qs sources pyramid picture₀ work₀ (s.begin + i)
    avg_still =
        let e = step_average s qs f.inside (s.begin + i) (omega arith) (omega arith) in
        rw (← (other_slice (place_of qs (s.begin + i)).slot picture work))
        (rw e at (still (s.begin + i) average_at_lem (root_average s qs f.inside (s.begin + i) (omega arith))) ∙ rw e)

    pub res_still : lying_in (source_at sources (residuals_at (length qs) s + i)) (area (residual_place s.horizontal (place_of qs (s.begin + i)))) pyramid (other (is_odd (place_of qs (s.begin + i)).slot) picture work)
        ≡ held s qs sources pyramid picture₀ work₀ (residuals_at (length qs) s + i)
    res_still =
        let e = step_residual s qs f.inside i h in
        rw (← (other_slice (place_of qs (s.begin + i)).slot picture work))
        (rw e at (still (residuals_at (length qs) s + i) residual_at_lem (root_residual s qs f.inside i h)) ∙ rw e)

    abbrev ys : List ℤ
    ys =
        channel_from s.horizontal (place_of qs (s.begin + i)) (source_at sources (s.begin + i)) (source_at sources (residuals_at (length qs) s + i)) pyramid (other (is_odd (place_of qs (s.begin + i)).slot) picture work)

    ys_target : ys ≡ target s qs sources pyramid picture₀ work₀ i
    ys_target = made_from s.horizontal (bare (place_of qs (s.begin + i))) ys _ _ _ _ refl avg_still res_still

    ys_long : length ys ≡ area (place_of qs (s.begin + i))
    ys_long = back_length s.horizontal (bare (place_of qs (s.begin + i))) _ _ ∙ bare_samples (place_of qs (s.begin + i))

    room : (place_of qs (s.begin + i)).home + length ys ≤ length pyramid
    room = let n = f.inside in omega (arith, ys_long, f.laid.inside (s.begin + i) (omega arith))

    -- where the turn's entries are, and what it asks
    pub turn_inside : residuals_at (length qs) s + i < max_channels
    turn_inside = let n = f.room in let l = residual_at_lem in omega arith

    pub put_fits : (p : Place) → p ≡ place_of qs (s.begin + i) → (r : ℕ) → r ≡ residuals_at (length qs) s
        → PutFits s.horizontal p (source_at sources (s.begin + i)) (source_at sources (r + i)) pyramid picture work
    put_fits p e r er2 =
        let n = f.inside in
        let ea = step_average s qs n (s.begin + i) (omega arith) (omega arith) in
        let er = step_residual s qs n i h in
        let la = rw ea at (f.starts_in (s.begin + i) average_at_lem) in
        let lr = rw er at (f.starts_in (residuals_at (length qs) s + i) residual_at_lem) in
        rw (e, er2)
        (record {
          average_in = la;
          residual_in = lr;
          home_in_lem = f.laid.inside (s.begin + i) (omega arith);
          few = f.few;
          sides = f.sides (s.begin + i) (omega arith);
          beside_long = t.picture_long;
          out_long = t.work_long;
        })

    taken_next : (picture2 work2 : List ℤ) → Wrote (is_odd (place_of qs (s.begin + i)).slot) (place_of qs (s.begin + i)).home ys picture work picture2 work2 → Taken s qs sources pyramid picture₀ work₀ (i + 1) picture2 work2
    taken_next picture2 work2 w =
        record {
          upto = λ m b. by m b (cases_lt m i);
          left = λ j b r. apart j b r;
          picture_long = long.0;
          work_long = long.1;
        }
      where
        n_in : s.begin + s.number ≤ length qs
        n_in = f.inside

        long : (length picture2 ≡ length pyramid) × (length work2 ≡ length pyramid)
        long = wrote_length (place_of qs (s.begin + i)).home (length pyramid) ys picture work picture2 work2 t.picture_long t.work_long room (is_odd (place_of qs (s.begin + i)).slot) w

        -- a part apart from channel i
        frame : (d : Bool) (at m : ℕ) → at + m ≤ length pyramid → Apart at m (place_of qs (s.begin + i)).home (area (place_of qs (s.begin + i))) → part at m (slice_of d picture2 work2) ≡ part at m (slice_of d picture work)
        frame d at m l a = kept (place_of qs (s.begin + i)).home (length pyramid) ys picture work picture2 work2 t.picture_long t.work_long room (is_odd (place_of qs (s.begin + i)).slot) d w at m l (rw ys_long a)

        by : (m : ℕ) → m < i + 1 → (m < i) ⊎ (i ≤ m) → at_home (place_of qs (s.begin + m)) picture2 work2 ≡ target s qs sources pyramid picture₀ work₀ m
        by m b (inl l) =
            frame (is_odd (place_of qs (s.begin + m)).slot) (place_of qs (s.begin + m)).home (area (place_of qs (s.begin + m))) (f.laid.inside (s.begin + m) (omega arith))
            (laid_apart (length pyramid) qs f.laid (s.begin + m) (s.begin + i) (λ e. absurd (omega (arith, e))) (omega arith) (omega arith))
            ∙ t.upto m l
        by m b (inr l) =
            let z : m ≡ i = omega arith in
            rw z (rw ys_long at (own (place_of qs (s.begin + i)).home (length pyramid) ys picture work picture2 work2 t.picture_long t.work_long room (is_odd (place_of qs (s.begin + i)).slot) w) ∙ ys_target)

        apart : (j : ℕ) → j < length qs + s.number → ((m : ℕ) → m < i + 1 → root (length qs) s j ≡ s.begin + m → ⊥)
            → at_home (place_of (step_places s qs) j) picture2 work2 ≡ at_home (place_of (step_places s qs) j) picture₀ work₀
        apart j b r =
            let v = step_within (length pyramid) s qs n_in f.few f.laid j b in
            let k = root_inside s qs n_in j b in
            let u = f.laid.inside (root (length qs) s j) k in
            frame (is_odd (place_of (step_places s qs) j).slot) (place_of (step_places s qs) j).home (area (place_of (step_places s qs) j)) (omega (arith, v.1, u))
            (inner v.0 v.1 (laid_apart (length pyramid) qs f.laid (root (length qs) s j) (s.begin + i) (r i (omega arith)) k (omega arith)))
            ∙ t.left j b (λ m l e. r m (omega arith) e)
          where
            inner : (place_of qs (root (length qs) s j)).home ≤ (place_of (step_places s qs) j).home → (place_of (step_places s qs) j).home + area (place_of (step_places s qs) j) ≤ (place_of qs (root (length qs) s j)).home + area (place_of qs (root (length qs) s j))
                → Apart (place_of qs (root (length qs) s j)).home (area (place_of qs (root (length qs) s j))) (place_of qs (s.begin + i)).home (area (place_of qs (s.begin + i))) → Apart (place_of (step_places s qs) j).home (area (place_of (step_places s qs) j)) (place_of qs (s.begin + i)).home (area (place_of qs (s.begin + i)))
            inner x y (inl z) = inl (omega arith)
            inner x y (inr z) = inr (omega arith)

    pub taken_more : (p : Place) → p ≡ place_of qs (s.begin + i) → (r : ℕ) → r ≡ residuals_at (length qs) s → (picture2 work2 : List ℤ)
        → Wrote (is_odd p.slot) p.home (channel_from s.horizontal p (source_at sources (s.begin + i)) (source_at sources (r + i)) pyramid (other (is_odd p.slot) picture work)) picture work picture2 work2
        → Taken s qs sources pyramid picture₀ work₀ (i + 1) picture2 work2
    taken_more p e r er picture2 work2 w = taken_next picture2 work2 (rw (e, er) at w)
