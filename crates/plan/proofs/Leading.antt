-- The leading channels of a list that pass a test (`leading` of specs/Default.antt), counted by the library over the list's indices. Assumes nothing.
use mathlib.Core.Bool.{Bool, true, false}
use mathlib.Core.Path.{◌≡◌, refl, ap, ◌∙◌}
use Prim.Native.Nat.{ℕ, zero, suc, min}
use native.Mathlib.Numerals.{add-one}
use native.Mathlib.Omega.{arith}
use lib.ListN.{length, take}
use Rattle.std.specs.List.{prefix_len, range_with_len}
use Rattle.std.proofs.lemmas.List.Folds.{length-prefix_len}
use Rattle.channel.specs.declared.Channel.{Channel}
use Rattle.list.specs.declared.ChannelList.{ChannelList}
use Rattle.list.specs.Tables.{table}
use Rattle.list.specs.Lists.{max_channels, channel_at, channels}
use Rattle.plan.specs.Default.{leading}

ranged : (f : ℕ → Channel) (p : Channel → Bool) (k n : ℕ) → prefix_len (λ j. p (f j)) (range_with_len k n) ≡ leading p (table f k n)
ranged f p k zero = refl
ranged f p k (suc n) = by (p (f k)) refl (ranged f p (suc k) n)
  where
    by : (b : Bool) → p (f k) ≡ b → prefix_len (λ j. p (f j)) (range_with_len (suc k) n) ≡ leading p (table f (suc k) n)
        → prefix_len (λ j. p (f j)) (range_with_len k (suc n)) ≡ leading p (table f k (suc n))
    by true e h = rw (e, add-one) (omega (arith, h))
    by false e h = rw e

-- n counted of the list's indices
pub leading_counted : (l : ChannelList) (p : Channel → Bool) (m n : ℕ) → m ≡ min l.count max_channels
    → n ≡ length (take (prefix_len (λ k. p (channel_at l k)) (range_with_len 0 m)) (range_with_len 0 m)) → n ≡ leading p (channels l)
unfolding channels
leading_counted l p m n em en =
    en ∙ length-prefix_len (λ k. p (channel_at l k)) (range_with_len 0 m) ∙ ranged (channel_at l) p 0 m ∙ ap (λ (i : ℕ). leading p (table (channel_at l) 0 i)) em
