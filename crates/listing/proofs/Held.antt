-- The channels and the steps that flat arrays hold, of which n are meant. Assumes nothing.
use mathlib.Core.Path.{◌≡◌, ap}
use mathlib.Core.Bool.{true}
use Prim.Native.Nat.{ℕ, ◌+◌, ◌<◌, min}
use native.Mathlib.Omega.{arith}
use lib.ListN.{length}
use Rattle.list.specs.declared.ChannelList.{ChannelList}
use Rattle.channel.specs.Channel.{sides_fit}
use Rattle.list.specs.Tables.{table, all}
use Rattle.list.specs.Lists as Lists
use Rattle.list.specs.Lists.{max_channels, max_steps, channel_at, channels}
use Rattle.list.proofs.Tables.{table_length, table_at}
use Rattle.list.proofs.Maps.{all_at}
use Rattle.plan.specs.declared.Steps.{Steps}
use Rattle.plan.specs.Steps as S
use Rattle.plan.specs.Steps.{step_at, steps}

module _ (l : ChannelList) (n : ℕ) (e : n ≡ min l.count max_channels) where
  pub channels_are : table (channel_at l) 0 n ≡ channels l
  unfolding Lists.channels
  channels_are = ap (table (channel_at l) 0) e

  pub channels_count : length (channels l) ≡ n
  channels_count = rw (← channels_are) (table_length (channel_at l) 0 n)

  -- where each has sides that a channel may have, entry k has them
  pub channel_fits : all sides_fit (channels l) ≡ true → (k : ℕ) → k < n → sides_fit (channel_at l k) ≡ true
  channel_fits a k h =
      let d = channel_at l 0 in
      let long = table_length (channel_at l) 0 n in
      let z : 0 + k ≡ k = omega arith in
      rw (table_at (channel_at l) 0 n k d h, z) at (all_at sides_fit (table (channel_at l) 0 n) k d (rw channels_are a) (omega (arith, long)))

module _ (s : Steps) (n : ℕ) (e : n ≡ min s.count max_steps) where
  pub steps_are : table (step_at s) 0 n ≡ steps s
  unfolding S.steps
  steps_are = ap (table (step_at s) 0) e

  pub steps_count : length (steps s) ≡ n
  steps_count = rw (← steps_are) (table_length (step_at s) 0 n)
