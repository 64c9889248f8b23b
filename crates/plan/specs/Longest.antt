-- How many steps a default plan can have: of a list that questions 3 to 6 accept at most 20 under version 1 and 15 under version 2, and as many for one
-- such list. Statements only: proofs/Longest.antt proves them.
use Rattle.std.specs.Prelude.{◌≡◌, cond, List, [], ◌∷◌, ℕ, ◌≤◌, eqb, length}
use Rattle.channel.specs.declared.Channel.{Channel}
use Rattle.list.specs.declared.ChannelList.{ChannelList}
use Rattle.list.specs.Lists.{channels, packed}
use Rattle.plan.specs.Version.{standard_version, house_version, rule_of}
use Rattle.plan.specs.Default.{default_steps}
use Rattle.plan.specs.Plans.{planned}

abbrev pub most_default_steps : ℕ → ℕ
most_default_steps version = cond (eqb version house_version) 15 20

-- version 1: two channels of 4,097 by 2,047, for the chroma and the most halvings, and a third of one sample; version 2: one of 4,097 by 2,049
abbrev pub longest_list : List Channel
longest_list =
    record { width = 4_097; height = 2_047; hshift = 0; vshift = 0 }
    ∷ record { width = 4_097; height = 2_047; hshift = 0; vshift = 0 }
    ∷ record { width = 1; height = 1; hshift = 0; vshift = 0 } ∷ []

abbrev pub longest_house : List Channel
longest_house = record { width = 4_097; height = 2_049; hshift = 0; vshift = 0 } ∷ []

-- a list has a default plan of so many steps
abbrev pub HasSteps : ℕ → List Channel → ℕ → Type 0
HasSteps version cs n = ((planned version (packed cs)).answer ≡ 0) × (length (default_steps (rule_of version) cs) ≡ n)

pub record LongestDefault : Type 0 where
  pub at_most : (version : ℕ) (l : ChannelList) → (planned version l).answer ≡ 0
      → length (default_steps (rule_of version) (channels l)) ≤ most_default_steps version
  pub reached : HasSteps standard_version longest_list (most_default_steps standard_version)
  pub reached_house : HasSteps house_version longest_house (most_default_steps house_version)
