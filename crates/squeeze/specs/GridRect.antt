-- The rectangle call of the C interface (document 01, "Tiles"): questions 4 and 13, then 14 of the slice that takes the four numbers.
-- Definitions only.
use Rattle.std.specs.Prelude.{cond, List, [], ◌∷◌, ℕ, eqb, length}
use Rattle.numbers.specs.Numbers.{refused_length}
use Rattle.channel.specs.declared.Channel.{Channel}
use Rattle.list.specs.Questions.{ask}
use Rattle.rect.specs.Rect.{GridRect, rect_of}

abbrev pub channel : ℕ → ℕ → ℕ → ℕ → Channel
channel width height hshift vshift = record { width = width; height = height; hshift = hshift; vshift = vshift }

abbrev pub numbers_of : GridRect → List ℕ
numbers_of r = r.x ∷ r.y ∷ r.width ∷ r.height ∷ []

unfoldable pub answer : Channel → ℕ → ℕ → ℕ → ℕ → ℕ → List ℕ → ℕ
answer c output stored group gx gy numbers =
    ask (eqb (rect_of c output stored group gx gy).answer 0) (rect_of c output stored group gx gy).answer (ask (eqb (length numbers) 4) refused_length 0)

-- the slice afterwards
unfoldable pub numbers_after : Channel → ℕ → ℕ → ℕ → ℕ → ℕ → List ℕ → List ℕ
numbers_after c output stored group gx gy numbers =
    cond (eqb (answer c output stored group gx gy numbers) 0) (numbers_of (rect_of c output stored group gx gy)) numbers
