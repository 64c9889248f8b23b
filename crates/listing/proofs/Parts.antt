-- The five parts of a plan's lines (`lines_text` of specs/Listing.antt) put one after the other: each has room, and all of them are the lines.
-- Assumes nothing.
use mathlib.Core.Path.{◌≡◌}
use mathlib.Core.List.{List, ◌++◌}
use Prim.Native.Nat.{ℕ}
use lib.ListN.{length}
use Rattle.channel.specs.declared.Channel.{Channel}
use Rattle.list.specs.declared.Step.{Step}
use Rattle.listing.specs.Text.{steps_word, channels_word, coarse_word, numbered, step_lines, channel_lines}
use Rattle.listing.specs.Putting.{Fits}
use Rattle.listing.specs.Listing.{lines_text}
use Rattle.listing.proofs.Puts.{then, first_fits, rest_fits}

module _ (ss : List Step) (cs : List Channel) (coarse : ℕ) (p₀ : List ℕ) (all : Fits p₀ (lines_text ss cs coarse)) where
  pub steps_counted : Fits p₀ (numbered steps_word (length ss))
  steps_counted = first_fits p₀ (numbered steps_word (length ss)) _ all

  module _ (p₁ : List ℕ) (e₁ : p₁ ≡ p₀ ++ numbered steps_word (length ss)) where
    room₁ : Fits p₁ (step_lines ss ++ (numbered channels_word (length cs) ++ (channel_lines cs ++ numbered coarse_word coarse)))
    room₁ = rest_fits p₀ (numbered steps_word (length ss)) _ e₁ all

    pub steps_listed : Fits p₁ (step_lines ss)
    steps_listed = first_fits p₁ (step_lines ss) _ room₁

    module _ (p₂ : List ℕ) (e₂ : p₂ ≡ p₁ ++ step_lines ss) where
      room₂ : Fits p₂ (numbered channels_word (length cs) ++ (channel_lines cs ++ numbered coarse_word coarse))
      room₂ = rest_fits p₁ (step_lines ss) _ e₂ room₁

      pub channels_counted : Fits p₂ (numbered channels_word (length cs))
      channels_counted = first_fits p₂ (numbered channels_word (length cs)) _ room₂

      module _ (p₃ : List ℕ) (e₃ : p₃ ≡ p₂ ++ numbered channels_word (length cs)) where
        room₃ : Fits p₃ (channel_lines cs ++ numbered coarse_word coarse)
        room₃ = rest_fits p₂ (numbered channels_word (length cs)) _ e₃ room₂

        pub channels_listed : Fits p₃ (channel_lines cs)
        channels_listed = first_fits p₃ (channel_lines cs) _ room₃

        module _ (p₄ : List ℕ) (e₄ : p₄ ≡ p₃ ++ channel_lines cs) where
          pub coarse_counted : Fits p₄ (numbered coarse_word coarse)
          coarse_counted = rest_fits p₃ (channel_lines cs) (numbered coarse_word coarse) e₄ room₃

          pub plan_listed : (p₅ : List ℕ) → p₅ ≡ p₄ ++ numbered coarse_word coarse → p₅ ≡ p₀ ++ lines_text ss cs coarse
          plan_listed p₅ e₅ =
              then _ _ (numbered steps_word (length ss)) _ e₁ (then _ _ (step_lines ss) _ e₂ (then _ _ (numbered channels_word (length cs)) _ e₃ (then _ _ (channel_lines cs) _ e₄ e₅)))
