-- "A list as numbers" is one form, given and taken: the numbers of steps and channels that a layout gives are read as those steps and channels where
-- numbers make a record (crate numbered). Statements only; proofs/Back.antt proves them.
use Rattle.std.specs.Prelude.{◌≡◌, List}
use Rattle.channel.specs.declared.Channel.{Channel}
use Rattle.list.specs.declared.Step.{Step}
use Rattle.numbered.specs.Numbered.{channels_of, steps_of}
use Rattle.layout.specs.Layout.{all_steps, all_channels}

pub record NumbersBack : Type 0 where
  pub steps : (ss : List Step) → steps_of (all_steps ss) ≡ ss
  pub channels : (cs : List Channel) → channels_of (all_channels cs) ≡ cs
