-- Plan versions (document 02, A.11): "From plan version 2, the default plan stops at 32 in place of 8 and has no chroma steps first. Version 1 stays as
-- the standard has it." Definitions only.
use Rattle.std.specs.Prelude.{Bool, true, false, cond, ◌||◌, ℕ, eqb}
use Rattle.plan.specs.declared.DefaultRule.{DefaultRule}

abbrev pub standard_version : ℕ
standard_version = 1

abbrev pub house_version : ℕ
house_version = 2

-- question 4: "a version other than 1 or 2"
unfoldable pub is_version : ℕ → Bool
is_version version = eqb version standard_version || eqb version house_version

-- the side above which a default plan goes on, and up to which a channel that is not meta is coarse
abbrev pub standard_side : ℕ
standard_side = 8

abbrev pub house_side : ℕ
house_side = 32

-- what a version says of its default plan: the side at which it stops, and whether it has chroma steps first
abbrev pub standard_rule : DefaultRule
standard_rule = record { stop = standard_side; chroma = true }

abbrev pub house_rule : DefaultRule
house_rule = record { stop = house_side; chroma = false }

unfoldable pub rule_of : ℕ → DefaultRule
rule_of version = cond (eqb version house_version) house_rule standard_rule
