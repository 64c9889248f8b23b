-- The numbers' channels and steps, one by one, and numbers that fit their fields. Assumes nothing.
use mathlib.Core.Path.{◌≡◌, sym, ap, ◌∙◌}
use mathlib.Core.Bool.{Bool, true, and-eq-true_iff}
use mathlib.Core.List.{List}
use Prim.Native.Nat.{ℕ, ◌+◌, ◌<◌, ◌≤◌}
use native.Mathlib.Omega.{arith}
use lib.Dec.{leb}
use lib.ListN.{length, get_or}
use borrow.Author.Tests.{leb-true, ltb-true}
use Rattle.channel.specs.declared.Channel.{Channel}
use Rattle.channel.specs.Channel.{meta_shift}
use Rattle.list.specs.Tables.{table, all}
use Rattle.list.specs.Questions.{channel_of}
use Rattle.list.proofs.Tables.{table_length, table_at}
use Rattle.list.proofs.Maps.{all_at}
use Rattle.plan.specs.Steps as S
use Rattle.plan.specs.Steps.{flags_allowed}
use Rattle.numbered.specs.Numbered.{channel_numbers, step_numbers, groups, channel_at, channels_of, step_at, steps_of, flags_at, flags_of}
use Rattle.numbered.specs.Arrays.{shifts_fit}

-- an entry of a table from 0 on
pub entry_at {ℓ} : {A : Type ℓ} (f : ℕ → A) (n k : ℕ) (d : A) → k < n → get_or (table f 0 n) k d ≡ f k
entry_at f n k d h = let z : 0 + k ≡ k = omega arith in table_at f 0 n k d h ∙ ap f z

-- whether a test of every entry holds at k
entry_passes {ℓ} : {A : Type ℓ} (f : ℕ → A) (p : A → Bool) (n k : ℕ) → all p (table f 0 n) ≡ true → k < n → p (f k) ≡ true
entry_passes f p n k a h = rw (entry_at f n k (f k) h) at (all_at p (table f 0 n) k (f k) a (omega (arith, table_length f 0 n)))

-- ---- a channel
pub record Fit (c : Channel) : Type 0 where
  pub hshift : c.hshift ≤ meta_shift
  pub vshift : c.vshift ≤ meta_shift

pub channel_fit : (c : Channel) → shifts_fit c ≡ true → Fit c
unfolding shifts_fit
channel_fit c h =
    let b = (and-eq-true_iff (leb c.hshift meta_shift) (leb c.vshift meta_shift)).0 h in
    record { hshift = leb-true _ _ b.0; vshift = leb-true _ _ b.1 }

module _ (ns : List ℕ) where
  pub channels_count : length (channels_of ns) ≡ groups channel_numbers ns
  unfolding channels_of
  channels_count = table_length (channel_at ns) 0 (groups channel_numbers ns)

  module _ (k : ℕ) (h : k < groups channel_numbers ns) where
    pub channel_is : channel_at ns k ≡ channel_of (channels_of ns) k
    unfolding channels_of
    channel_is = sym (entry_at (channel_at ns) (groups channel_numbers ns) k _ h)

-- ---- a step
module _ (ms : List ℕ) where
  pub steps_count : length (steps_of ms) ≡ groups step_numbers ms
  unfolding steps_of
  steps_count = table_length (step_at ms) 0 (groups step_numbers ms)

  pub flags_small : (k : ℕ) → k < groups step_numbers ms → all flags_allowed (flags_of ms) ≡ true → flags_at ms k < 4
  unfolding flags_of S.flags_allowed
  flags_small k h a = ltb-true _ _ (entry_passes (flags_at ms) flags_allowed (groups step_numbers ms) k a h)
