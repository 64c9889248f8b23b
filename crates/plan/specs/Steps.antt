-- The steps of a plan (document 01, "The entry", "Record"): flat arrays of 64 entries, filled up to a count. Definitions only.
use Rattle.std.specs.Prelude.{Bool, cond, List, ℕ, ◌+◌, ◌/◌, ◌%◌, min, eqb, ltb, length, get_or}
use Rattle.list.specs.declared.Step.{Step}
use Rattle.list.specs.Tables.{table, padded, map}
use Rattle.list.specs.Lists.{max_steps}
use Rattle.plan.specs.declared.Steps.{Steps}

-- "flags 1 (bit 0 horizontal, bit 1 in place)"
abbrev pub bit : Bool → ℕ → ℕ
bit on value = cond on value 0

unfoldable pub flags_of : Step → ℕ
flags_of s = bit s.horizontal 1 + bit s.inplace 2

-- question 4: "other flag bits 0"
unfoldable pub flags_allowed : ℕ → Bool
flags_allowed flags = ltb flags 4

-- the step with these flags, of which two bits tell
abbrev pub step_of : ℕ → ℕ → ℕ → Step
step_of flags begin number =
    record {
      horizontal = eqb (flags % 2) 1;
      inplace = eqb (flags / 2 % 2) 1;
      begin = begin;
      number = number;
    }

-- entry k of the arrays
abbrev pub step_at : Steps → ℕ → Step
step_at s k = step_of (get_or s.flags k 0) (get_or s.begins k 0) (get_or s.numbers k 0)

-- the steps that are meant: the first `count`; nothing else of the arrays is
unfoldable pub steps : Steps → List Step
steps s = table (step_at s) 0 (min s.count max_steps)

-- their flags
unfoldable pub all_flags : Steps → List ℕ
all_flags s = table (λ k. get_or s.flags k 0) 0 (min s.count max_steps)

-- the arrays that hold a list of steps, unused entries 0
unfoldable pub packed : List Step → Steps
packed ss =
    record {
      count = length ss;
      flags = padded max_steps (map flags_of ss);
      begins = padded max_steps (map (λ (s : Step). s.begin) ss);
      numbers = padded max_steps (map (λ (s : Step). s.number) ss);
    }
