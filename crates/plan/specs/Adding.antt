-- Steps added to flat arrays one by one, for the contracts of the functions that make the default plan. Definitions only.
use Rattle.std.specs.Prelude.{cond, List, [], ◌∷◌, ◌+◌, ltb, set}
use Rattle.list.specs.declared.Step.{Step}
use Rattle.list.specs.Lists.{max_steps}
use Rattle.plan.specs.declared.Steps.{Steps}
use Rattle.plan.specs.Steps.{flags_of}

unfoldable pub pushed : Steps → Step → Steps
pushed s step =
    record {
      count = s.count + 1;
      flags = set s.flags s.count (flags_of step);
      begins = set s.begins s.count step.begin;
      numbers = set s.numbers s.count step.number;
    }

-- the same where any count may come: a plan without room stays
unfoldable pub added : Steps → Step → Steps
added s step = cond (ltb s.count max_steps) (pushed s step) s

unfoldable pub appended : Steps → List Step → Steps
appended s [] = s
appended s (step ∷ more) = appended (pushed s step) more
