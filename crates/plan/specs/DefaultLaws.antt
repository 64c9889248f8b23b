-- What holds of every default plan, whatever its rule: of the chroma steps, and of the preview that it leaves at the front of the list. Statements only:
-- proofs/Preview.antt proves them.
use Rattle.std.specs.Prelude.{◌≡◌, true, false, List, [], ◌∷◌, ℕ, ◌<◌, ◌≤◌, length}
use Rattle.channel.specs.declared.Channel.{Channel}
use Rattle.list.specs.declared.Step.{Step}
use Rattle.list.specs.Questions.{channel_of}
use Rattle.plan.specs.declared.DefaultRule.{DefaultRule}
use Rattle.plan.specs.Default.{meta_count, other_count, first_other, all_channels, default_steps}
use Rattle.plan.specs.Coarse.{coarse_count}
use Rattle.plan.specs.Plans.{stepped_all}

-- a step in place on all channels that are not meta, and steps that all are such
pub record OnAll (cs : List Channel) (s : Step) : Type 0 where
  pub in_place : s.inplace ≡ true
  pub from : s.begin ≡ meta_count cs
  pub all : s.number ≡ other_count cs

abbrev pub EachOnAll : List Channel → List Step → Type 0
EachOnAll cs [] = Unit {0}
EachOnAll cs (s ∷ ss) = OnAll cs s × EachOnAll cs ss

-- no channel that is not meta has a side above the first one's
abbrev pub FirstLargest : List Channel → Type 0
FirstLargest cs = (k : ℕ) → meta_count cs ≤ k → k < length cs
    → ((channel_of cs k).width ≤ (first_other cs).width) × ((channel_of cs k).height ≤ (first_other cs).height)

pub record DefaultLaws (rule : DefaultRule) (cs : List Channel) : Type 0 where
  -- without chroma steps: all steps are in place, on all channels that are not meta
  pub without_chroma : rule.chroma ≡ false
      → default_steps rule cs ≡ all_channels rule.stop (meta_count cs) (other_count cs) (first_other cs).width (first_other cs).height
  pub each_on_all : rule.chroma ≡ false → EachOnAll cs (default_steps rule cs)
  -- and a first channel with no side above the stopping side has no step
  pub small_none : rule.chroma ≡ false → (first_other cs).width ≤ rule.stop → (first_other cs).height ≤ rule.stop → default_steps rule cs ≡ []
  -- the preview: where the first channel is the largest, an average of each channel stands at the front, none with a side above the stopping side
  -- but meta ones, and all of them are coarse
  pub preview_sides : 1 ≤ rule.stop → FirstLargest cs → (k : ℕ) → meta_count cs ≤ k → k < length cs
      → ((channel_of (stepped_all (default_steps rule cs) cs) k).width ≤ rule.stop) × ((channel_of (stepped_all (default_steps rule cs) cs) k).height ≤ rule.stop)
  pub preview_coarse : 1 ≤ rule.stop → FirstLargest cs → length cs ≤ coarse_count rule.stop (stepped_all (default_steps rule cs) cs)
