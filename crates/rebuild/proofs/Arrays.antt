-- The places of a list (`places_in` of crate places) after so many steps, and their areas. Assumes nothing.
use mathlib.Core.Path.{◌≡◌, refl, sym, ap, ◌∙◌}
use mathlib.Core.Bool.{true}
use mathlib.Core.List.{List, [], ◌∷◌}
use Prim.Native.Nat.{ℕ, zero, suc, ◌+◌, ◌≤◌, min}
use native.Mathlib.Omega.{arith}
use lib.ListN.{length}
use Rattle.channel.specs.declared.Channel.{Channel}
use Rattle.channel.specs.Channel.{samples}
use Rattle.list.specs.declared.Step.{Step}
use Rattle.list.specs.Tables.{map}
use Rattle.list.specs.Lists.{max_channels}
use Rattle.plan.specs.declared.Steps.{Steps}
use Rattle.plan.specs.Steps.{step_at}
use Rattle.places.specs.declared.Place.{Place}
use Rattle.places.specs.declared.Places.{Places}
use Rattle.places.specs.Places.{area, unmade, behind, place_at, places_in, places_from, areas_in, step_fits, places_after, place_of}
use Rattle.list.proofs.Tables.{map_table}
use Rattle.places.proofs.Arrays.{places_length}
use Rattle.rebuild.specs.Run.{places_all, first_steps}
use Rattle.rebuild.proofs.Firsts.{places_next}

-- the areas of an array's places
pub areas_are : (p : Places) → p.count ≤ max_channels → areas_in p ≡ map area (places_in p)
unfolding areas_in places_in
areas_are p h =
    let e : min p.count max_channels ≡ p.count = omega arith in
    rw e (sym (map_table area (place_at p) 0 p.count))

-- no step has made what is laid first
pub from_slots : (at : ℕ) (cs : List Channel) (k : ℕ) → (place_of (places_from at cs) k).slot ≡ unmade
from_slots at [] k = refl
from_slots at (c ∷ cs) zero = refl
from_slots at (c ∷ cs) (suc k) = from_slots (behind at (samples c)) cs k

-- one step more
pub placed_more : (s : Steps) (k : ℕ) (ps : List Place) (p q : Places) (st : Step) → st ≡ step_at s k
    → step_fits (length (places_all (first_steps s k) ps)) (step_at s k) ≡ true → places_in p ≡ places_all (first_steps s k) ps
    → places_in q ≡ places_after st p → places_in q ≡ places_all (first_steps s (k + 1)) ps
unfolding places_after
placed_more s k ps p q st e fits now after =
    let n : p.count ≡ length (places_all (first_steps s k) ps) = sym (places_length p) ∙ ap length now in
    let t : step_fits p.count st ≡ true = rw (e, n) fits in
    after ∙ rw (t, e, now) (sym (places_next s k ps))
