-- A.4 over whole runs: "For each origin, the samples of all its channels total the samples of the original." For any list and any steps, refused ones
-- among them, which leave list and samples as they are. Statements only; proofs/Whole.antt proves it.
use Rattle.std.specs.Prelude.{◌≡◌, List, ℕ, ◌<◌, length, get_or}
use Rattle.channel.specs.declared.Channel.{Channel}
use Rattle.channel.specs.Channel.{samples}
use Rattle.list.specs.declared.Step.{Step}
use Rattle.list.specs.Lists.{total}
use Rattle.list.specs.Questions.{channel_of}
use Rattle.runs.specs.Runs.{layout}
use Rattle.origins.specs.Origins.{layout_origins, of_origin, averages_place, averages_channel}

-- p is the first place of o
pub record IsFirst (o : ℕ) (os : List ℕ) (p : ℕ) : Type 0 where
  pub within : p < length os
  pub here : get_or os p 0 ≡ o
  pub before : (k : ℕ) → k < p → get_or os k 0 ≡ o → ⊥

-- each channel of the layout has an origin, a position of the first list
pub record OriginsOf (ss : List Step) (cs : List Channel) : Type 0 where
  pub each : length (layout_origins ss cs) ≡ length (layout ss cs)
  pub positions : (k : ℕ) → k < length (layout ss cs) → get_or (layout_origins ss cs) k 0 < length cs

-- the channels of position o: their samples, and the first of them, which is that of its averages
pub record OfPosition (ss : List Step) (cs : List Channel) (o : ℕ) : Type 0 where
  pub totals : total (of_origin o (layout_origins ss cs) (layout ss cs)) ≡ samples (channel_of cs o)
  pub first : IsFirst o (layout_origins ss cs) (averages_place ss cs o)
  pub averages : channel_of (layout ss cs) (averages_place ss cs o) ≡ averages_channel ss cs o (channel_of cs o)

pub record OriginLaws (ss : List Step) (cs : List Channel) : Type 0 where
  pub all : OriginsOf ss cs
  pub one : (o : ℕ) → o < length cs → OfPosition ss cs o
