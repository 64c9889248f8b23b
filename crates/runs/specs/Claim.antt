-- Demand 3 over a whole list of steps: "whatever 32-bit samples a picture holds, exactly one pyramid of the layout reached rebuilds to that
-- picture". Statements only; proofs/Whole.antt proves it.
use Rattle.std.specs.Prelude.{◌≡◌, List, ℤ, length}
use Rattle.channel.specs.declared.Channel.{Channel}
use Rattle.list.specs.declared.Step.{Step}
use Rattle.list.specs.Lists.{total}
use Rattle.line.specs.Forward.{Samples}
use Rattle.runs.specs.Runs.{layout, rebuilt}

-- a slice of 32-bit samples that fills a list: "one i32 for each sample"
pub record Fills (cs : List Channel) (xs : List ℤ) : Type 0 where
  pub long : length xs ≡ total cs
  pub samples : Samples xs

-- one pyramid of the layout rebuilds to the picture, and no other does
pub record ExactlyOne (ss : List Step) (cs : List Channel) (picture : List ℤ) : Type 0 where
  pub pyramid : List ℤ
  pub fills : Fills (layout ss cs) pyramid
  pub rebuilds : rebuilt ss cs pyramid ≡ picture
  pub only : (ys : List ℤ) → Fills (layout ss cs) ys → rebuilt ss cs ys ≡ picture → ys ≡ pyramid
