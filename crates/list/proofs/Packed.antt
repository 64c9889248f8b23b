-- Flat arrays give back the list and the origins that they hold; of a packed list these are its channels' own positions. Assumes nothing.
use mathlib.Core.Path.{◌≡◌, refl, sym, ◌∙◌}
use mathlib.Core.List.{List}
use Prim.Native.Nat.{ℕ, ◌<◌, ◌≤◌, min}
use native.Mathlib.Omega.{arith}
use lib.ListN.{length, get_or}
use lib.Seq.{ext_get_or}
use Rattle.channel.specs.declared.Channel.{Channel}
use Rattle.list.specs.Tables.{padded, map}
use Rattle.list.specs.Lists.{max_channels, channel_at, channels, origins, own_positions, holding, packed}
use Rattle.list.specs.Questions.{channel_of}
use Rattle.list.proofs.Maps.{map_default}
use Rattle.list.proofs.Channels.{channels_length, channels_at, origins_length, origins_at, own_length}
use Rattle.list.proofs.Filled.{padded_at}

field_at : (f : Channel → ℕ) (cs : List Channel) (k : ℕ) (d : Channel) → f d ≡ 0 → k < max_channels → get_or (padded max_channels (map f cs)) k 0 ≡ f (get_or cs k d)
field_at f cs k d z h = padded_at max_channels (map f cs) k h ∙ rw (← z) (map_default f cs k d)

module _ (cs : List Channel) (os : List ℕ) where
  holding_at : (k : ℕ) → k < max_channels → channel_at (holding cs os) k ≡ channel_of cs k
  unfolding holding
  holding_at k h =
      let w = field_at (λ (c : Channel). c.width) cs k _ refl h in
      let t = field_at (λ (c : Channel). c.height) cs k _ refl h in
      let u = field_at (λ (c : Channel). c.hshift) cs k _ refl h in
      let v = field_at (λ (c : Channel). c.vshift) cs k _ refl h in
      λ i. record { width = w i; height = t i; hshift = u i; vshift = v i }

  module _ (few : length cs ≤ max_channels) where
    held_count : min (holding cs os).count max_channels ≡ length cs
    unfolding holding
    held_count = omega arith

    pub channels_held : channels (holding cs os) ≡ cs
    channels_held =
        let n = channels_length (holding cs os) ∙ held_count in
        ext_get_or _ (channels (holding cs os)) cs n
        (λ k l. sym (channels_at (holding cs os) k l) ∙ holding_at k (omega arith))

    pub origins_held : length os ≡ length cs → origins (holding cs os) ≡ os
    unfolding holding
    origins_held same =
        let n = origins_length (holding cs os) ∙ held_count in
        ext_get_or 0 (origins (holding cs os)) os (omega arith)
        (λ k l. sym (origins_at (holding cs os) k l) ∙ padded_at max_channels os k (omega arith))

pub channels_packed : (cs : List Channel) → length cs ≤ max_channels → channels (packed cs) ≡ cs
channels_packed cs few = channels_held cs (own_positions (length cs)) few

pub origins_packed : (cs : List Channel) → length cs ≤ max_channels → origins (packed cs) ≡ own_positions (length cs)
origins_packed cs few = origins_held cs (own_positions (length cs)) few (own_length (length cs))
