-- The default steps as the standard has them, from its words (`standard.md`, "The default steps when a transform names none"). A relation, since the
-- words have a loop. Not written in terms of `default_steps`. Definitions only.
use Rattle.std.specs.Prelude.{◌≡◌, Bool, true, false, cond, ◌⊎◌, List, [], ◌∷◌, ℕ, ◌+◌, ◌-◌, ◌/◌, ◌<◌, ◌≤◌, length}
use Rattle.channel.specs.declared.Channel.{Channel}
use Rattle.channel.specs.Channel.{is_meta}
use Rattle.list.specs.declared.Step.{Step}
use Rattle.list.specs.Questions.{channel_of}
use Rattle.plan.specs.Version.{standard_side}

-- the channels that are not meta: meta channels stand first
abbrev pub others : List Channel → List Channel
others [] = []
others (c ∷ cs) = cond (is_meta c) (others cs) (c ∷ cs)

-- where the first of them stands
abbrev pub others_from : List Channel → ℕ
others_from cs = length cs - length (others cs)

-- a step of the given direction and place on `number` channels from `begin` on
abbrev pub on_channels : Bool → Bool → ℕ → ℕ → Step
on_channels horizontal inplace begin number = record { horizontal = horizontal; inplace = inplace; begin = begin; number = number }

-- the side of an average, "(side + 1) Idiv 2"
abbrev pub averaged : ℕ → ℕ
averaged side = (side + 1) / 2

-- "while w > 8 or h > 8, a horizontal one if w > 8 and a vertical one if h > 8", on the n channels from `begin` on
pub data While (begin n : ℕ) : ℕ → ℕ → List Step → Type 0 where
  both : {w h : ℕ} {ss : List Step} (more : List Step) → standard_side < w → standard_side < h
      → ss ≡ on_channels true true begin n ∷ on_channels false true begin n ∷ more → While begin n (averaged w) (averaged h) more → While begin n w h ss
  wide : {w h : ℕ} {ss : List Step} (more : List Step) → standard_side < w → h ≤ standard_side
      → ss ≡ on_channels true true begin n ∷ more → While begin n (averaged w) h more → While begin n w h ss
  tall : {w h : ℕ} {ss : List Step} (more : List Step) → w ≤ standard_side → standard_side < h
      → ss ≡ on_channels false true begin n ∷ more → While begin n w (averaged h) more → While begin n w h ss
  over : {w h : ℕ} {ss : List Step} → w ≤ standard_side → h ≤ standard_side → ss ≡ [] → While begin n w h ss

-- "then in-place steps on all n: a vertical one if h ≥ w and h > 8; then, while .."
pub data InPlace (begin n w h : ℕ) (ss : List Step) : Type 0 where
  vertical_first : (more : List Step) → w ≤ h → standard_side < h → ss ≡ on_channels false true begin n ∷ more → While begin n w (averaged h) more → InPlace begin n w h ss
  loop_alone : (h < w) ⊎ (h ≤ standard_side) → While begin n w h ss → InPlace begin n w h ss

-- "with n > 2 and the second of them w by h too": w and h are those of the first
pub record Chroma (cs : List Channel) : Type 0 where
  pub many : 2 < length (others cs)
  pub width_too : (channel_of (others cs) 1).width ≡ (channel_of (others cs) 0).width
  pub height_too : (channel_of (others cs) 1).height ≡ (channel_of (others cs) 0).height

abbrev pub AllInPlace : List Channel → List Step → Type 0
AllInPlace cs ss = InPlace (others_from cs) (length (others cs)) (channel_of (others cs) 0).width (channel_of (others cs) 0).height ss

-- "first a horizontal and a vertical step on the second and third, not in place; then in-place steps on all n"
pub data StandardDefault (cs : List Channel) (ss : List Step) : Type 0 where
  chroma_first : (more : List Step) → Chroma cs → ss ≡ on_channels true false (others_from cs + 1) 2 ∷ on_channels false false (others_from cs + 1) 2 ∷ more
      → AllInPlace cs more → StandardDefault cs ss
  in_place_alone : (Chroma cs → ⊥) → AllInPlace cs ss → StandardDefault cs ss

-- Document 01 decides otherwise on the chroma steps alone, "horizontal if w > 1, then vertical if h > 1": where there are such steps, both sides are
-- above 1
abbrev pub ChromaSidesAbove1 : List Channel → Type 0
ChromaSidesAbove1 cs = Chroma cs → (1 < (channel_of (others cs) 0).width) × (1 < (channel_of (others cs) 0).height)

-- the smallest list with samples on which the two differ: three channels 1 by 1
abbrev pub dots : List Channel
dots = dot ∷ dot ∷ dot ∷ []
  where
    dot : Channel
    dot = record { width = 1; height = 1; hshift = 0; vshift = 0 }
