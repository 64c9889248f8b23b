-- The numbers in flat arrays, unused entries 0, for the contracts of the functions that fill them and for the laws beside the record's writer. A side's
-- entry holds any number, a shift's 8 bits, a step's 16: a first channel or a number of channels past them is held to the largest entry, which
-- question 7 refuses too.
-- Definitions only.
use Rattle.std.specs.Prelude.{Bool, ◌&&◌, List, ℕ, ◌/◌, ◌%◌, min, eqb, leb}
use Rattle.channel.specs.declared.Channel.{Channel}
use Rattle.channel.specs.Channel.{meta_shift}
use Rattle.list.specs.declared.ChannelList.{ChannelList}
use Rattle.list.specs.Tables.{table, padded, map}
use Rattle.list.specs.Lists as Lists
use Rattle.list.specs.Lists.{max_steps}
use Rattle.list.specs.declared.Step.{Step}
use Rattle.plan.specs.declared.Form.{Form}
use Rattle.plan.specs.declared.Steps.{Steps}
use Rattle.numbered.specs.Numbered.{step_numbers, groups, channel_at, channels_of, flags_at, flags_of, first_at, number_at}

-- whether a channel's shifts fit their entries
unfoldable pub shifts_fit : Channel → Bool
shifts_fit c = leb c.hshift meta_shift && leb c.vshift meta_shift

abbrev pub list_of : List ℕ → ChannelList
list_of ns = Lists.packed (channels_of ns)

-- the steps, each first channel and number of channels put through f
unfoldable pub plan_by : (ℕ → ℕ) → List ℕ → Steps
plan_by f ms =
    record {
      count = groups step_numbers ms;
      flags = padded max_steps (flags_of ms);
      begins = padded max_steps (table (λ k. f (first_at ms k)) 0 (groups step_numbers ms));
      numbers = padded max_steps (table (λ k. f (number_at ms k)) 0 (groups step_numbers ms));
    }

-- as they are, and held to 16 bits
abbrev pub plan_of : List ℕ → Steps
plan_of ms = plan_by (λ n. n) ms

abbrev pub max_entry : ℕ
max_entry = 65_535

abbrev pub held : ℕ → ℕ
held n = min n max_entry

-- step k of them, its first channel and its number put through f
abbrev pub step_by : (ℕ → ℕ) → List ℕ → ℕ → Step
step_by f ms k =
    record {
      horizontal = eqb (flags_at ms k % 2) 1;
      inplace = eqb (flags_at ms k / 2 % 2) 1;
      begin = f (first_at ms k);
      number = f (number_at ms k);
    }

-- groups of numbers, as the code has them: their channels, their steps' flags and their steps, held to 16 bits
abbrev pub channels_in : List (List ℕ) → List Channel
channels_in gs = map (λ g. channel_at g 0) gs

abbrev pub flags_in : List (List ℕ) → List ℕ
flags_in gs = map (λ g. flags_at g 0) gs

abbrev pub steps_in : List (List ℕ) → List Step
steps_in gs = map (λ g. step_by held g 0) gs

-- what is judged and written of numbers that fit
abbrev pub form_of : ℕ → List ℕ → List ℕ → Form
form_of version ns ms = record { version = version; list = list_of ns; steps = plan_by held ms }
