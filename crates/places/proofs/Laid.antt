-- Homes inside a slice and apart from each other (`Laid`): one after the other they are so from the first, and a step keeps them so, since an average
-- and its residual lie side by side in their channel's home. Assumes nothing.
use mathlib.Core.Path.{◌≡◌, refl, sym, ap, ◌∙◌}
use mathlib.Core.Bool.{Bool, true, false}
use mathlib.Core.List.{List, [], ◌∷◌}
use mathlib.Core.Logic.{inl, inr, ⊎_swap}
use Prim.Native.Nat.{ℕ, zero, suc, ◌+◌, ◌-◌, ◌*◌, ◌<◌, ◌≤◌}
use native.Mathlib.Omega.{arith}
use native.Mathlib.Nat.{add-mul, mul-add}
use lib.Dec.{eqb, ltb}
use lib.ListN.{length, get_or, take}
use borrow.Author.Tests.{eqb-true, eqb-false, ltb-true, ltb-false}
use Rattle.numbers.specs.Numbers.{max_samples}
use Rattle.channel.specs.declared.Channel.{Channel}
use Rattle.channel.specs.Channel.{samples}
use Rattle.list.specs.declared.Step.{Step}
use Rattle.list.specs.Tables.{map}
use Rattle.list.specs.Lists.{halved, rest, total}
use Rattle.list.proofs.Maps.{map_length, map_default}
use Rattle.places.specs.Places as Places
use Rattle.places.specs.declared.Place.{Place}
use Rattle.places.specs.Places.{area, starts_from, sum, average_place, residual_place, step_places, residuals_at, root, place_of}
use Rattle.places.specs.Laid.{Apart, Laid, Sided}
use Rattle.places.proofs.Steps.{steps_length, step_before, step_average, step_between, step_residual, step_after, root_front, root_average, root_residual, root_behind, root_inside, same_root, Entry, before, average, between, residual, after, entry_is}

-- ---- average and residual divide the home
halves_whole : (side : ℕ) → halved side + rest side ≡ side
halves_whole side = omega arith

pub average_area : (h : Bool) (p : Place) → area (average_place h p) + area (residual_place h p) ≡ area p
average_area true p = sym (add-mul (halved p.width) (rest p.width) p.height) ∙ ap (λ (n : ℕ). n * p.height) (halves_whole p.width)
average_area false p = sym (mul-add p.width (halved p.height) (rest p.height)) ∙ ap (λ (n : ℕ). p.width * n) (halves_whole p.height)

pub residual_home : (n : ℕ) (h : Bool) (p : Place) → n ≤ max_samples → p.home + area p ≤ n → (residual_place h p).home ≡ p.home + area (average_place h p)
unfolding Places.behind
residual_home n h p m l = let a = average_area h p in omega arith

-- ---- a place inside another's home
abbrev Within : Place → Place → Type 0
Within r p = (r.home ≤ p.home) × (p.home + area p ≤ r.home + area r)

average_within : (h : Bool) (p : Place) → Within p (average_place h p)
average_within h p = let a = average_area h p in omega arith

residual_within : (n : ℕ) (h : Bool) (p : Place) → n ≤ max_samples → p.home + area p ≤ n → Within p (residual_place h p)
residual_within n h p m l =
    let a = average_area h p in
    let e = residual_home n h p m l in
    omega arith

pub step_within : (n : ℕ) (s : Step) (ps : List Place) → s.begin + s.number ≤ length ps → n ≤ max_samples → Laid n ps → (k : ℕ) → k < length ps + s.number
    → let r = place_of ps (root (length ps) s k) in
    let p = place_of (step_places s ps) k in
    (r.home ≤ p.home) × (p.home + area p ≤ r.home + area r)
step_within n s ps i m w k h = go (entry_is (length ps) s k)
  where
    go : Entry (length ps) s k → Within (place_of ps (root (length ps) s k)) (place_of (step_places s ps) k)
    go (before b) = rw (root_average s ps i k (omega arith), step_before s ps i k b) (omega arith)
    go (average l b) = rw (root_average s ps i k b, step_average s ps i k l b) (average_within s.horizontal (place_of ps k))
    go (between l b) = rw (root_front s ps i k b, step_between s ps i k l b) (omega arith)
    go (residual j b e) =
        rw (e, root_residual s ps i j b, step_residual s ps i j b)
        (residual_within n s.horizontal (place_of ps (s.begin + j)) m (w.inside (s.begin + j) (omega arith)))
    go (after l) = rw (root_behind s ps i k l, step_after s ps i k l h) (omega arith)

-- ---- parts that lie apart
pub laid_apart : (n : ℕ) (ps : List Place) → Laid n ps → (i j : ℕ) → (i ≡ j → ⊥) → i < length ps → j < length ps
    → Apart (place_of ps i).home (area (place_of ps i)) (place_of ps j).home (area (place_of ps j))
laid_apart n ps w i j d a b = go (ltb i j) refl
  where
    go : (t : Bool) → ltb i j ≡ t → Apart (place_of ps i).home (area (place_of ps i)) (place_of ps j).home (area (place_of ps j))
    go true e = w.apart i j (ltb-true i j e) b
    go false e = let l = ltb-false i j e in ⊎_swap (w.apart j i (omega arith) a)

-- parts inside of parts that lie apart
apart_within : (p q r t : Place) → Within r p → Within t q → Apart r.home (area r) t.home (area t) → Apart p.home (area p) q.home (area q)
apart_within p q r t u v (inl l) = inl (omega arith)
apart_within p q r t u v (inr l) = inr (omega arith)

module _ (n : ℕ) (s : Step) (ps : List Place) (i : s.begin + s.number ≤ length ps) (m : n ≤ max_samples) (w : Laid n ps) where
  step_inside : (k : ℕ) → k < length ps + s.number → (place_of (step_places s ps) k).home + area (place_of (step_places s ps) k) ≤ n
  step_inside k h =
      let u = step_within n s ps i m w k h in
      let v = w.inside (root (length ps) s k) (root_inside s ps i k h) in
      omega arith

  -- an average and its residual
  halves_apart : (a b : ℕ) → a < s.begin + s.number → s.begin ≤ a → b ≡ residuals_at (length ps) s + (a - s.begin)
      → Apart (place_of (step_places s ps) a).home (area (place_of (step_places s ps) a)) (place_of (step_places s ps) b).home (area (place_of (step_places s ps) b))
  halves_apart a b h l e =
      let z : s.begin + (a - s.begin) ≡ a = omega arith in
      let r = residual_home n s.horizontal (place_of ps a) m (w.inside a (omega arith)) in
      let q = ap (place_of (step_places s ps)) e ∙ step_residual s ps i (a - s.begin) (omega arith) ∙ ap (λ (k : ℕ). residual_place s.horizontal (place_of ps k)) z in
      rw (step_average s ps i a l h, q) (inl (omega arith))

  step_apart : (a b : ℕ) → a < b → b < length ps + s.number
      → Apart (place_of (step_places s ps) a).home (area (place_of (step_places s ps) a)) (place_of (step_places s ps) b).home (area (place_of (step_places s ps) b))
  step_apart a b l h = go (eqb (root (length ps) s a) (root (length ps) s b)) refl
    where
      go : (t : Bool) → eqb (root (length ps) s a) (root (length ps) s b) ≡ t
          → Apart (place_of (step_places s ps) a).home (area (place_of (step_places s ps) a)) (place_of (step_places s ps) b).home (area (place_of (step_places s ps) b))
      go true e =
          let r = same_root s ps i a b l (eqb-true _ _ e) in
          halves_apart a b r.0 r.1 r.2
      go false e =
          let c : a < length ps + s.number = omega arith in
          apart_within (place_of (step_places s ps) a) (place_of (step_places s ps) b) (place_of ps (root (length ps) s a)) (place_of ps (root (length ps) s b))
          (step_within n s ps i m w a c)
          (step_within n s ps i m w b h)
          (laid_apart n ps w (root (length ps) s a) (root (length ps) s b) (eqb-false _ _ e) (root_inside s ps i a c) (root_inside s ps i b h))

pub laid_step : (n : ℕ) (s : Step) (ps : List Place) → s.begin + s.number ≤ length ps → n ≤ max_samples → Laid n ps → Laid n (step_places s ps)
laid_step n s ps i m w =
    let l = steps_length s ps i in
    record { inside = λ k h. step_inside n s ps i m w k (omega arith); apart = λ a b h r. step_apart n s ps i m w a b h (omega arith) }

-- ---- homes one after the other
pub starts_at : (at : ℕ) (ns : List ℕ) → at + sum ns ≤ max_samples → (k : ℕ) → k < length ns → get_or (starts_from at ns) k 0 ≡ at + sum (take k ns)
unfolding Places.behind
starts_at at [] m k h = absurd (omega arith)
starts_at at (n ∷ ns) m zero h = omega arith
starts_at at (n ∷ ns) m (suc k) h =
    let e : Places.behind at n ≡ at + n = omega arith in
    rw e (starts_at (at + n) ns (omega arith) k (omega arith) ∙ omega arith)

-- a part ends before the next starts, and inside the sum
pub sum_next : (ns : List ℕ) (i j : ℕ) → i < j → sum (take i ns) + get_or ns i 0 ≤ sum (take j ns)
sum_next [] zero (suc j) h = omega arith
sum_next [] (suc i) (suc j) h = omega arith
sum_next (n ∷ ns) zero (suc j) h = omega arith
sum_next (n ∷ ns) (suc i) (suc j) h = let r = sum_next ns i j (omega arith) in omega arith
sum_next ns i zero h = absurd (omega arith)

pub sum_inside : (ns : List ℕ) (k : ℕ) → sum (take k ns) + get_or ns k 0 ≤ sum ns
sum_inside [] zero = omega arith
sum_inside [] (suc k) = omega arith
sum_inside (n ∷ ns) zero = omega arith
sum_inside (n ∷ ns) (suc k) = let r = sum_inside ns k in omega arith

module _ (ps : List Place) (ns : List ℕ) (en : ns ≡ map area ps) (eh : map (λ (p : Place). p.home) ps ≡ starts_from 0 ns) (m : sum ns ≤ max_samples) where
  pub first_home : (k : ℕ) → k < length ps → (place_of ps k).home ≡ sum (take k ns)
  first_home k h =
      let l : length ns ≡ length ps = ap length en ∙ map_length area ps in
      sym (map_default (λ (p : Place). p.home) ps k _) ∙ ap (λ (hs : List ℕ). get_or hs k 0) eh ∙ starts_at 0 ns (omega arith) k (omega arith) ∙ omega arith

  first_area : (k : ℕ) → area (place_of ps k) ≡ get_or ns k 0
  first_area k = sym (map_default area ps k _) ∙ ap (λ (ks : List ℕ). get_or ks k 0) (sym en)

  pub laid_first : Laid (sum ns) ps
  laid_first =
      record {
        inside = λ k h. omega (arith, first_home k h, first_area k, sum_inside ns k);
        apart = λ i j h l. inl (omega (arith, first_home i (omega arith), first_area i, first_home j l, sum_next ns i j h));
      }

-- ---- the places of a list's channels have its samples
sided_rest : (c : Channel) (cs : List Channel) (p : Place) (ps : List Place) → Sided (c ∷ cs) (p ∷ ps) → Sided cs ps
sided_rest c cs p ps w =
    let l = w.long in
    record { long = omega arith; wide = λ k h. w.wide (suc k) (omega arith); high = λ k h. w.high (suc k) (omega arith) }

pub sum_total : (cs : List Channel) (ps : List Place) → Sided cs ps → sum (map area ps) ≡ total cs
unfolding samples
sum_total [] [] w = refl
sum_total [] (p ∷ ps) w = let l = w.long in absurd (omega arith)
sum_total (c ∷ cs) [] w = let l = w.long in absurd (omega arith)
sum_total (c ∷ cs) (p ∷ ps) w =
    let r = sum_total cs ps (sided_rest c cs p ps w) in
    rw (← r, w.wide 0 (omega arith), w.high 0 (omega arith))
