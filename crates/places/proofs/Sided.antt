-- Places with the sides of a list's channels (`Sided`): a step keeps them so, they have the channels' samples, and sides that fit where the list is
-- accepted. Assumes nothing.
use mathlib.Core.Path.{◌≡◌, refl, ap, ◌∙◌}
use mathlib.Core.Bool.{Bool, true, false, cond}
use mathlib.Core.List.{List}
use Prim.Native.Nat.{ℕ, ◌+◌, ◌-◌, ◌<◌, ◌≤◌}
use native.Mathlib.Omega.{arith}
use lib.ListN.{length}
use Rattle.channel.specs.declared.Channel.{Channel}
use Rattle.channel.specs.Channel.{sides_fit, is_meta, samples}
use Rattle.list.specs.declared.Step.{Step}
use Rattle.list.specs.Lists as Lists
use Rattle.list.specs.Lists.{halved, rest, raised, sided, stepped}
use Rattle.list.specs.Questions.{channel_of}
use Rattle.list.specs.Accepted.{Accepted}
use Rattle.list.proofs.Acceptance.{accepted_sides}
use Rattle.list.proofs.Shifts.{lifted}
use Rattle.list.proofs.Entries as Entries
use Rattle.places.specs.declared.Place.{Place}
use Rattle.places.specs.Places.{bare, area, average_place, residual_place, step_places, residuals_at, place_of}
use Rattle.places.specs.Laid.{Sided}
use Rattle.places.proofs.Steps.{steps_length, residuals_from_lem, step_before, step_average, step_between, step_residual, step_after, Entry, before, average, between, residual, after, entry_is}

-- a place with the sides of a channel
abbrev Sides : Channel → Place → Type 0
Sides c p = (p.width ≡ c.width) × (p.height ≡ c.height)

-- `raised` changes shifts only
raised_sides : (h : Bool) (c : Channel) → ((raised h c).width ≡ c.width) × ((raised h c).height ≡ c.height)
unfolding raised
raised_sides h c = go (is_meta c)
  where
    go : (m : Bool) → ((cond m c (lifted h c)).width ≡ c.width) × ((cond m c (lifted h c)).height ≡ c.height)
    go true = (refl, refl)
    go false = (refl, refl)

average_sides : (h : Bool) (c : Channel) (p : Place) → Sides c p → Sides (Lists.average h c) (average_place h p)
unfolding Lists.average
average_sides h c p e = let r = raised_sides h (sided halved h c) in (rw (r.0, e.0), rw (r.1, e.1))

residual_sides : (h : Bool) (c : Channel) (p : Place) → Sides c p → Sides (Lists.residual h c) (residual_place h p)
unfolding Lists.residual
residual_sides h c p e = let r = raised_sides h (sided rest h c) in (rw (r.0, e.0), rw (r.1, e.1))

module _ (s : Step) (cs : List Channel) (ps : List Place) (inside : s.begin + s.number ≤ length cs) (w : Sided cs ps) where
  within : s.begin + s.number ≤ length ps
  within = let l = w.long in omega arith

  at : (k : ℕ) → k < length ps → Sides (channel_of cs k) (place_of ps k)
  at k h = (w.wide k h, w.high k h)

  -- where the residuals start, by the channels
  residuals_alike : residuals_at (length ps) s ≡ Entries.residuals_at s cs
  residuals_alike = ap (λ (n : ℕ). residuals_at n s) w.long

  step_sides : (k : ℕ) → k < length ps + s.number → Entry (length ps) s k → Sides (channel_of (stepped s cs) k) (place_of (step_places s ps) k)
  step_sides k h (before b) = rw (Entries.entry_before s cs inside k b, step_before s ps within k b) (at k (let i = within in omega arith))
  step_sides k h (average l b) =
      rw (Entries.entry_average s cs inside k l b, step_average s ps within k l b) (average_sides s.horizontal (channel_of cs k) (place_of ps k) (at k (let i = within in omega arith)))
  step_sides k h (between l b) =
      let r = residuals_from_lem s ps within in
      rw ((Entries.entry_between s cs inside k (residuals_at (length ps) s) residuals_alike l b).1, step_between s ps within k l b) (at k (omega arith))
  step_sides k h (residual i b e) =
      let r = residuals_from_lem s ps within in
      let z : k - residuals_at (length ps) s + s.begin ≡ s.begin + i = omega arith in
      let c = Entries.entry_residual s cs inside k (residuals_at (length ps) s) residuals_alike (omega arith) (omega arith) (omega arith) in
      let p = ap (place_of (step_places s ps)) e ∙ step_residual s ps within i b in
      rw (c, p, z) (residual_sides s.horizontal (channel_of cs (s.begin + i)) (place_of ps (s.begin + i)) (at (s.begin + i) (let i = within in omega arith)))
  step_sides k h (after l) =
      let r = residuals_from_lem s ps within in
      let n = w.long in
      rw (Entries.entry_after s cs inside k (residuals_at (length ps) s) residuals_alike (omega arith) l (omega arith), step_after s ps within k l h) (at (k - s.number) (omega arith))

pub sided_step : (s : Step) (cs : List Channel) (ps : List Place) → s.begin + s.number ≤ length cs → Sided cs ps → Sided (stepped s cs) (step_places s ps)
sided_step s cs ps h w =
    let n = steps_length s ps (within s cs ps h w) in
    let c = Entries.stepped_length s cs h in
    let l = w.long in
    let e : (k : ℕ) → k < length (step_places s ps) → Sides (channel_of (stepped s cs) k) (place_of (step_places s ps) k)
    = λ k b. step_sides s cs ps h w k (omega arith) (entry_is (length ps) s k) in
    record { long = omega arith; wide = λ k b. (e k b).0; high = λ k b. (e k b).1 }

pub sided_area : (cs : List Channel) (ps : List Place) → Sided cs ps → (k : ℕ) → k < length ps → area (place_of ps k) ≡ samples (channel_of cs k)
unfolding samples
sided_area cs ps w k h = rw (w.wide k h, w.high k h)

pub sided_fit : (cs : List Channel) (ps : List Place) → Sided cs ps → Accepted cs → (k : ℕ) → k < length ps → sides_fit (bare (place_of ps k)) ≡ true
unfolding sides_fit
sided_fit cs ps w ok k h = let l = w.long in rw (w.wide k h, w.high k h) (accepted_sides cs ok k (omega arith))
