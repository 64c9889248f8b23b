-- What the rectangle call comes to (specs/GridRect.antt), by what `get_grid_rect` promises. Assumes nothing.
use mathlib.Core.Path.{◌≡◌, refl}
use mathlib.Core.List.{List, [], ◌∷◌}
use Prim.Native.Nat.{ℕ}
use lib.ListN.{length}
use borrow.Author.Tests.{ne_eqb}
use Rattle.channel.specs.declared.Channel.{Channel}
use Rattle.rect.specs.Rect.{GridRect, rect_of}
use Rattle.squeeze.specs.GridRect.{answer, numbers_after}

-- f is what `get_grid_rect` gave
module _ (c : Channel) (output stored group gx gy : ℕ) (f : GridRect) (e : f ≡ rect_of c output stored group gx gy) (ns : List ℕ) where
  pub rect_refused : (f.answer ≡ 0 → ⊥) → (f.answer ≡ answer c output stored group gx gy ns) × (ns ≡ numbers_after c output stored group gx gy ns)
  unfolding answer numbers_after
  rect_refused h = rw (← e, ne_eqb f.answer 0 h, ne_eqb f.answer 0 h) (refl, refl)

  module _ (z : f.answer ≡ 0) where
    pub rect_misfit : (length ns ≡ 4 → ⊥) → (12 ≡ answer c output stored group gx gy ns) × (ns ≡ numbers_after c output stored group gx gy ns)
    unfolding answer numbers_after
    rect_misfit h = rw (← e, z, ne_eqb (length ns) 4 h) (refl, refl)

    pub rect_done : length ns ≡ 4
        → (0 ≡ answer c output stored group gx gy ns)
        × (f.x ∷ f.y ∷ f.width ∷ f.height ∷ [] ≡ numbers_after c output stored group gx gy ns)
    unfolding answer numbers_after
    rect_done h = rw (← e, z, h) (refl, refl)
