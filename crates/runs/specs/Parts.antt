-- The samples of a channel list (document 01, "The entry"): "Its samples are i32, row by row, channel after channel in list order, in one slice",
-- cut into one part a channel and put together again. Definitions only.
use Rattle.std.specs.Prelude.{List, [], ◌∷◌, ◌++◌, ℤ, take, drop}
use Rattle.channel.specs.declared.Channel.{Channel}
use Rattle.channel.specs.Channel.{samples}

abbrev pub parts : List Channel → List ℤ → List (List ℤ)
parts [] xs = []
parts (c ∷ cs) xs = take (samples c) xs ∷ parts cs (drop (samples c) xs)

abbrev pub joined : List (List ℤ) → List ℤ
joined [] = []
joined (p ∷ ps) = p ++ joined ps
