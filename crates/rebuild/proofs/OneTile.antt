-- A channel of an accepted list as one tile without outer lines: the call is accepted, and leaves the channel that average and residual make
-- (`channel_back` of crate runs) and its mark. Assumes nothing.
use mathlib.Core.Path.{◌≡◌, refl, sym, ◌∙◌}
use mathlib.Core.Bool.{Bool, true, false}
use mathlib.Core.List.{List, []}
use mathlib.Core.Logic.{inl}
use Prim.Native.Nat.{ℕ, ◌+◌, ◌*◌, ◌≤◌}
use native.Mathlib.Omega.{arith}
use lib.IntN.{ℤ}
use Rattle.numbers.specs.Numbers.{max_side}
use Rattle.channel.specs.declared.Channel.{Channel}
use Rattle.channel.specs.Channel.{samples, is_meta}
use Rattle.list.specs.Lists.{average, residual, raised}
use Rattle.channel.proofs.Sides.{fit_sides}
use Rattle.line.specs.Forward.{average_count, residual_count}
use Rattle.line.proofs.ThereAndBack.{all_samples}
use Rattle.places.specs.declared.Place.{Place}
use Rattle.places.specs.Places.{bare, area, average_place, residual_place}
use Rattle.tile.specs.declared.Sides.{Sides}
use Rattle.tile.specs.Call.{sides, call_on, after, call_mark}
use Rattle.tile.proofs.Accepted.{Arguments, accepted_after, accepted_mark}
use Rattle.runs.specs.Runs.{lines_of, size_of, channel_back}
use Rattle.runs.specs.Marks.{channel_marked}
use Rattle.runs.proofs.OneChannel.{samples_by, average_samples, residual_samples}
use Rattle.rebuild.specs.Run.{sides_of, ChannelFits}

-- a channel without a side above n
module _ (h : Bool) (c : Channel) (n : ℕ) (w : c.width ≤ n) (t : c.height ≤ n) where
  pub lines_small : lines_of h c ≤ n
  lines_small = by h
    where
      by : (h : Bool) → lines_of h c ≤ n
      by true = omega arith
      by false = omega arith

  pub size_small : size_of h c ≤ n
  size_small = by h
    where
      by : (h : Bool) → size_of h c ≤ n
      by true = omega arith
      by false = omega arith

module _ (h : Bool) (c : Channel) where
  -- the sides of the channel are its lines by averages and residuals
  channel_sides : record { width = c.width; height = c.height } ≡ sides h (lines_of h c) (average_count (size_of h c) + residual_count (size_of h c))
  channel_sides = rw (all_samples (size_of h c)) (by h)
    where
      by : (h : Bool) → record { width = c.width; height = c.height } ≡ sides h (lines_of h c) (size_of h c)
      by true = refl
      by false = refl

-- ---- a place: its average and its residual have the sides of these
pub average_bare : (h : Bool) (p : Place) → samples (average h (bare p)) ≡ area (average_place h p)
unfolding samples average raised is_meta
average_bare true p = refl
average_bare false p = refl

pub residual_bare : (h : Bool) (p : Place) → samples (residual h (bare p)) ≡ area (residual_place h p)
unfolding samples residual raised is_meta
residual_bare true p = refl
residual_bare false p = refl

pub bare_samples : (p : Place) → samples (bare p) ≡ area p
unfolding samples
bare_samples p = refl

average_sides : (h : Bool) (p : Place) → sides_of (average_place h p) ≡ sides h (lines_of h (bare p)) (average_count (size_of h (bare p)))
average_sides true p = refl
average_sides false p = refl

residual_sides : (h : Bool) (p : Place) → sides_of (residual_place h p) ≡ sides h (lines_of h (bare p)) (residual_count (size_of h (bare p)))
residual_sides true p = refl
residual_sides false p = refl

module _ (h : Bool) (p : Place) (avg res out : List ℤ) (f : ChannelFits h p avg res out) where
  abbrev c : Channel
  c = bare p

  arguments : Arguments (lines_of h c) (average_count (size_of h c)) (residual_count (size_of h c)) avg res [] [] out
  arguments =
      let s = fit_sides c f.sides in
      let l = lines_small h c max_side s.0 s.1 in
      let z = size_small h c max_side s.0 s.1 in
      let whole = all_samples (size_of h c) in
      let area : lines_of h c * (average_count (size_of h c) + residual_count (size_of h c)) ≡ area p = rw whole (sym (samples_by h c) ∙ bare_samples p) in
      record {
        low = omega arith;
        high = omega arith;
        across = l;
        along = omega arith;
        room = rw area f.few;
        avg_length = f.avg_long ∙ sym (average_bare h p) ∙ average_samples h c;
        res_length = f.res_long ∙ sym (residual_bare h p) ∙ residual_samples h c;
        out_length = f.out_long ∙ sym area;
        next_length = inl refl;
        prev_length = inl refl;
      }

  pub one_tile : (a r o : Sides) → a ≡ sides_of (average_place h p) → r ≡ sides_of (residual_place h p) → o ≡ sides_of p
      → (after (call_on h a r o avg res [] [] out) ≡ channel_back h c avg res) × (call_mark (call_on h a r o avg res [] [] out) ≡ channel_marked h c avg res)
  unfolding channel_back channel_marked
  one_tile a r o ea er eo =
      let m = average_count (size_of h c) in
      let n = residual_count (size_of h c) in
      rw (ea, er, eo, average_sides h p, residual_sides h p, channel_sides h c)
      (accepted_after h (lines_of h c) m n avg res [] [] out arguments, accepted_mark h (lines_of h c) m n avg res [] [] out arguments)
