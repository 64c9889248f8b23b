-- The block of document 01, "What form each place takes": four blocks of eight neighbouring samples in, an array of two blocks out.
-- Each lane is the pair. Definitions only.
use Rattle.std.specs.Prelude.{List, [], ◌∷◌, ℤ}
use Rattle.pair.specs.Pair.{first, second}

-- f of four lists, lane by lane, as far as the shortest goes
abbrev pub lanes : (ℤ → ℤ → ℤ → ℤ → ℤ) → List ℤ → List ℤ → List ℤ → List ℤ → List ℤ
lanes f [] bs cs ds = []
lanes f (a ∷ avg) [] cs ds = []
lanes f (a ∷ avg) (r ∷ res) [] ds = []
lanes f (a ∷ avg) (r ∷ res) (n ∷ next) [] = []
lanes f (a ∷ avg) (r ∷ res) (n ∷ next) (p ∷ prev) = f a r n p ∷ lanes f avg res next prev

-- the first samples of the pairs, then the second ones
abbrev pub unsqueezed : List ℤ → List ℤ → List ℤ → List ℤ → List (List ℤ)
unsqueezed avg res next prev = lanes first avg res next prev ∷ lanes second avg res next prev ∷ []
