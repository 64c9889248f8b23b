-- Origins along a run of any steps (document 02, A.4), the channels of one origin, and where the averages of a channel stand. Definitions only.
use Rattle.std.specs.Prelude.{Bool, cond, List, [], ◌∷◌, ℕ, eqb, length}
use Rattle.channel.specs.declared.Channel.{Channel}
use Rattle.list.specs.declared.Step.{Step}
use Rattle.list.specs.Lists.{own_positions, average, stepped, stepped_origins}
use Rattle.list.specs.Entries.{is_inside}
use Rattle.runs.specs.Runs.{place_after, is_taken}

-- ---- the origins of the layout, from those of the first list: a refused step leaves them as they are
abbrev pub origins_from : List Step → List Channel → List ℕ → List ℕ
origins_from [] cs os = os
origins_from (s ∷ ss) cs os = cond (is_taken s cs) (origins_from ss (stepped s cs) (stepped_origins s os)) (origins_from ss cs os)

-- "A plan run starts by giving each channel its own position"
abbrev pub layout_origins : List Step → List Channel → List ℕ
layout_origins ss cs = origins_from ss cs (own_positions (length cs))

-- ---- of channels, or of anything that stands beside the origins, those of origin o
abbrev pub kept_if {ℓ} : {A : Type ℓ} → Bool → A → List A → List A
kept_if b x xs = cond b (x ∷ xs) xs

abbrev pub of_origin {ℓ} : {A : Type ℓ} → ℕ → List ℕ → List A → List A
of_origin o [] xs = []
of_origin o (a ∷ os) [] = []
of_origin o (a ∷ os) (x ∷ xs) = kept_if (eqb a o) x (of_origin o os xs)

-- ---- the averages of the channel at p (`place_after` says where it stands next)
unfoldable pub averaged_by : Step → ℕ → Channel → Channel
averaged_by s p c = cond (is_inside s.begin s.number p) (average s.horizontal c) c

-- their place in the layout, and the channel there: averages of averages, one for each step whose range has it
abbrev pub averages_place : List Step → List Channel → ℕ → ℕ
averages_place [] cs p = p
averages_place (s ∷ ss) cs p = cond (is_taken s cs) (averages_place ss (stepped s cs) (place_after s p)) (averages_place ss cs p)

abbrev pub averages_channel : List Step → List Channel → ℕ → Channel → Channel
averages_channel [] cs p c = c
averages_channel (s ∷ ss) cs p c =
    cond (is_taken s cs) (averages_channel ss (stepped s cs) (place_after s p) (averaged_by s p c)) (averages_channel ss cs p c)
