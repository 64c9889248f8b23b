-- The channel list as the standard has it, from its words (`standard.md`, "The channel list"): what stands where after a step, channel by
-- channel, and after a list of steps. Not written in terms of `stepped`. Definitions only.
use Rattle.std.specs.Prelude.{◌≡◌, Bool, true, false, cond, List, [], ◌∷◌, ℕ, ◌+◌, ◌-◌, ◌/◌, ◌<◌, ◌≤◌, length}
use Rattle.channel.specs.declared.Channel.{Channel}
use Rattle.channel.specs.Channel.{is_meta}
use Rattle.list.specs.declared.Step.{Step}
use Rattle.list.specs.Questions.{channel_of}

-- a channel's side along the step and across it
abbrev pub along : Bool → Channel → ℕ
along horizontal c = cond horizontal c.width c.height

abbrev pub across : Bool → Channel → ℕ
across horizontal c = cond horizontal c.height c.width

-- the shift of that direction "one higher"; a meta channel has none to raise
abbrev pub higher : Bool → Channel → ℕ → ℕ
higher raised c shift = cond (is_meta c) shift (cond raised (shift + 1) shift)

abbrev pub opposite : Bool → Bool
opposite horizontal = cond horizontal false true

-- `d` is made from `c` with the given side along the step
pub record Made (horizontal : Bool) (c : Channel) (side : ℕ) (d : Channel) : Type 0 where
  pub along_is : along horizontal d ≡ side
  pub across_is : across horizontal d ≡ across horizontal c
  pub hshift_is : d.hshift ≡ higher horizontal c c.hshift
  pub vshift_is : d.vshift ≡ higher (opposite horizontal) c c.vshift

-- the average, "whose side along the step is (side + 1) Idiv 2", and the residual "with the rest of the side"
abbrev pub Average : Bool → Channel → Channel → Type 0
Average horizontal c d = Made horizontal c ((along horizontal c + 1) / 2) d

abbrev pub Residual : Bool → Channel → Channel → Type 0
Residual horizontal c d = Made horizontal c (along horizontal c - (along horizontal c + 1) / 2) d

-- "Residual channels stand, in order, right after the range if the step is in place, else at the end of the list": where the first stands, and
-- where a channel behind the range then is
abbrev pub residuals_from : Step → List Channel → ℕ
residuals_from s cs = cond s.inplace (s.begin + s.number) (length cs)

abbrev pub moved : Step → ℕ → ℕ
moved s k = cond s.inplace (k + s.number) k

-- a step makes `ds` of `cs`
pub record StandardStep (s : Step) (cs ds : List Channel) : Type 0 where
  pub longer : length ds ≡ length cs + s.number
  pub in_front : (k : ℕ) → k < s.begin → channel_of ds k ≡ channel_of cs k
  pub averages : (i : ℕ) → i < s.number → Average s.horizontal (channel_of cs (s.begin + i)) (channel_of ds (s.begin + i))
  pub residuals : (i : ℕ) → i < s.number → Residual s.horizontal (channel_of cs (s.begin + i)) (channel_of ds (residuals_from s cs + i))
  pub behind : (k : ℕ) → s.begin + s.number ≤ k → k < length cs → channel_of ds (moved s k) ≡ channel_of cs k

-- a list of steps does, each on what the one before it made
pub record First (s : Step) (cs : List Channel) (Others : List Channel → Type 0) : Type 0 where
  pub made : List Channel
  pub first : StandardStep s cs made
  pub others : Others made

abbrev pub StandardSteps : List Step → List Channel → List Channel → Type 0
StandardSteps [] cs ds = ds ≡ cs
StandardSteps (s ∷ ss) cs ds = First s cs (λ (es : List Channel). StandardSteps ss es ds)
