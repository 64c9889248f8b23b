-- Each refusal's number is above 0: so what a call answers tells whether it was refused. Assumes nothing.
use Rattle.std.proofs.Common.{◌≡◌}
use Rattle.numbers.specs.declared.Refusal.{Refusal}
use Rattle.numbers.specs.declared.Refusal.TheVariants.{Outside, Field, Count, Form, Samples, Default, Range, Kinds, Place, Empty, Room, Sizes, Tile, Length}
use Rattle.numbers.specs.Numbers.{number_of}

pub number_some : (r : Refusal) → number_of r ≡ 0 → ⊥
number_some Outside h = cc
number_some Field h = cc
number_some Count h = cc
number_some Form h = cc
number_some Samples h = cc
number_some Default h = cc
number_some Range h = cc
number_some Kinds h = cc
number_some Place h = cc
number_some Empty h = cc
number_some Room h = cc
number_some Sizes h = cc
number_some Tile h = cc
number_some Length h = cc
