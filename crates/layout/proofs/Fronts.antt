-- Numbers over the front of a slice (`over` of specs/Layout.antt), and how many they are. Assumes nothing.
use mathlib.Core.Path.{◌≡◌, refl}
use mathlib.Core.List.{List, [], ◌∷◌}
use Prim.Native.Nat.{ℕ, ◌+◌, ◌*◌}
use native.Mathlib.Omega.{arith}
use lib.ListN.{length, length-append}
use Rattle.channel.specs.declared.Channel.{Channel}
use Rattle.list.specs.declared.Step.{Step}
use Rattle.record.specs.Bytes.{joined, placed}
use Rattle.layout.specs.Layout.{step_numbers, channel_numbers, all_steps, all_channels, over}

pub placed_front : (out xs : List ℕ) → placed out 0 xs ≡ over xs out
placed_front out xs = let z : 0 + length xs ≡ length xs = omega arith in rw z

-- ---- how many: each field has n
module _ {ℓ} {A : Type ℓ} (field : A → List ℕ) (n : ℕ) (each : (x : A) → length (field x) ≡ n) where
  pub joined_length : (xs : List A) → length (joined field xs) ≡ n * length xs
  joined_length [] = omega arith
  joined_length (x ∷ xs) = omega (arith, length-append (field x) (joined field xs), each x, joined_length xs)

pub steps_length : (ss : List Step) → length (all_steps ss) ≡ 3 * length ss
unfolding step_numbers
steps_length ss = joined_length step_numbers 3 (λ s. refl) ss

pub channels_length : (cs : List Channel) → length (all_channels cs) ≡ 4 * length cs
unfolding channel_numbers
channels_length cs = joined_length channel_numbers 4 (λ c. refl) cs
