-- The places of a list's channels before any step (`places_from`): they have the channels' sides, and their homes lie apart. Assumes nothing.
use mathlib.Core.Path.{◌≡◌, refl, sym, ap}
use mathlib.Core.List.{List, [], ◌∷◌}
use Prim.Native.Nat.{ℕ, zero, suc, ◌+◌, ◌*◌, ◌<◌, ◌≤◌}
use native.Mathlib.Omega.{arith}
use lib.ListN.{length}
use Rattle.numbers.specs.Numbers.{max_samples}
use Rattle.channel.specs.declared.Channel.{Channel}
use Rattle.channel.specs.Channel.{samples}
use Rattle.list.specs.Tables.{map}
use Rattle.list.specs.Lists.{total}
use Rattle.list.specs.Questions.{channel_of}
use Rattle.places.specs.declared.Place.{Place}
use Rattle.places.specs.Places.{area, behind, sum, starts_from, places_from, place_of}
use Rattle.places.specs.Laid.{Laid, Sided}
use Rattle.places.proofs.Laid.{laid_first}

pub from_areas : (at : ℕ) (cs : List Channel) → map area (places_from at cs) ≡ map samples cs
unfolding samples
from_areas at [] = refl
from_areas at (c ∷ cs) = ap (λ (ns : List ℕ). c.width * c.height ∷ ns) (from_areas (behind at (samples c)) cs)

pub from_homes : (at : ℕ) (cs : List Channel) → map (λ (p : Place). p.home) (places_from at cs) ≡ starts_from at (map samples cs)
from_homes at [] = refl
from_homes at (c ∷ cs) = ap (λ (ns : List ℕ). at ∷ ns) (from_homes (behind at (samples c)) cs)

pub from_length : (at : ℕ) (cs : List Channel) → length (places_from at cs) ≡ length cs
from_length at [] = refl
from_length at (c ∷ cs) = ap suc (from_length (behind at (samples c)) cs)

pub sum_samples : (cs : List Channel) → sum (map samples cs) ≡ total cs
sum_samples [] = refl
sum_samples (c ∷ cs) = ap (λ (n : ℕ). samples c + n) (sum_samples cs)

sided_more : (c : Channel) (cs : List Channel) (p : Place) (ps : List Place) → p.width ≡ c.width → p.height ≡ c.height → Sided cs ps → Sided (c ∷ cs) (p ∷ ps)
sided_more c cs p ps ew eh r = record { long = ap suc r.long; wide = λ k h. wides k h; high = λ k h. highs k h }
  where
    wides : (k : ℕ) → k < suc (length ps) → (place_of (p ∷ ps) k).width ≡ (channel_of (c ∷ cs) k).width
    wides zero h = ew
    wides (suc k) h = r.wide k (omega arith)

    highs : (k : ℕ) → k < suc (length ps) → (place_of (p ∷ ps) k).height ≡ (channel_of (c ∷ cs) k).height
    highs zero h = eh
    highs (suc k) h = r.high k (omega arith)

pub from_sided : (at : ℕ) (cs : List Channel) → Sided cs (places_from at cs)
from_sided at [] = record { long = refl; wide = λ k h. absurd (omega arith); high = λ k h. absurd (omega arith) }
from_sided at (c ∷ cs) = sided_more c cs _ _ refl refl (from_sided (behind at (samples c)) cs)

pub from_laid : (cs : List Channel) → total cs ≤ max_samples → Laid (total cs) (places_from 0 cs)
from_laid cs few =
    rw (sum_samples cs)
    at (laid_first (places_from 0 cs) (map samples cs) (sym (from_areas 0 cs)) (from_homes 0 cs) (let e = sum_samples cs in omega arith))
