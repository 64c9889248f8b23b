-- What no refusal says of a list (questions 3 to 5) and of a step on it (questions 7 to 11), fact by fact. Definitions only.
use Rattle.std.specs.Prelude.{◌≡◌, true, List, ◌+◌, ◌≤◌, length}
use Rattle.channel.specs.declared.Channel.{Channel}
use Rattle.list.specs.declared.Step.{Step}
use Rattle.list.specs.Tables.{all}
use Rattle.list.specs.Lists.{max_channels, range}
use Rattle.list.specs.Questions.{channels_allowed, total_allowed, kinds_alike, place_allowed, has_sides, shifts_kept}

pub record Accepted (cs : List Channel) : Type 0 where
  pub some : 1 ≤ length cs
  pub few : length cs ≤ max_channels
  pub allowed : channels_allowed cs ≡ true
  pub samples : total_allowed cs ≡ true

pub record StepAccepted (s : Step) (cs : List Channel) : Type 0 where
  pub some : 1 ≤ s.number
  pub inside : s.begin + s.number ≤ length cs
  pub alike : kinds_alike s cs ≡ true
  pub placed : place_allowed s cs ≡ true
  pub sides : all has_sides (range s cs) ≡ true
  pub room : length cs + s.number ≤ max_channels
  pub kept : all (shifts_kept s.horizontal) (range s cs) ≡ true
