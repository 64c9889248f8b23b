-- The parts of a list under a step, and those of the list that it leaves. Assumes nothing.
use mathlib.Core.Path.{◌≡◌}
use mathlib.Core.Bool.{Bool, cond}
use mathlib.Core.List.{List, ◌++◌}
use lib.ListN.{drop, take-append-drop}
use lib.Seq.{drop-drop}
use Rattle.channel.specs.declared.Channel.{Channel}
use Rattle.list.specs.declared.Step.{Step}
use Rattle.list.specs.Tables.{map}
use Rattle.list.specs.Lists.{average, residual, before, range, after}

module _ {ℓ} {A : Type ℓ} (s : Step) (xs : List A) where
  pub range_after : range s xs ++ after s xs ≡ drop s.begin xs
  range_after = rw (← (drop-drop s.number s.begin xs)) (take-append-drop s.number (drop s.begin xs))

  pub parts_whole : before s xs ++ (range s xs ++ after s xs) ≡ xs
  parts_whole = rw range_after (take-append-drop s.begin xs)

abbrev pub averages : Step → List Channel → List Channel
averages s cs = map (average s.horizontal) (range s cs)

abbrev pub residuals : Step → List Channel → List Channel
residuals s cs = map (residual s.horizontal) (range s cs)

-- residuals and other channels, in place or not
abbrev pub joined {ℓ} : {A : Type ℓ} → Bool → List A → List A → List A
joined i rs xs = cond i (rs ++ xs) (xs ++ rs)

-- what follows the averages
abbrev pub following : Step → List Channel → List Channel
following s cs = joined s.inplace (residuals s cs) (after s cs)
