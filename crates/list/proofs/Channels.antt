-- The channels that flat arrays hold: how many, each of them, and a step's range of them; their origins likewise. Assumes nothing.
use mathlib.Core.Path.{◌≡◌, refl, sym, ap, ◌∙◌}
use mathlib.Core.Bool.{Bool, true, and-eq-true_iff}
use mathlib.Core.List.{List, [], ◌∷◌, ◌++◌}
use Prim.Native.Nat.{ℕ, ◌+◌, ◌-◌, ◌<◌, ◌≤◌, min}
use native.Mathlib.Omega.{arith}
use lib.Dec.{leb}
use lib.ListN.{length, get_or}
use borrow.Author.Tests.{leb-true}
use Rattle.channel.specs.declared.Channel.{Channel}
use Rattle.channel.specs.Channel.{is_meta}
use Rattle.list.specs.declared.ChannelList.{ChannelList}
use Rattle.list.specs.declared.Step.{Step}
use Rattle.list.specs.Tables.{table}
use Rattle.list.specs.Lists.{max_channels, channel_at, lent, channels, origins, own_positions, range}
use Rattle.list.specs.Questions.{channel_of, range_allowed}
use Rattle.list.proofs.Tables.{table_length, table_at, table_snoc, table_within}

-- own positions
pub own_length : (n : ℕ) → length (own_positions n) ≡ n
own_length n = table_length (λ k. k) 0 n

pub own_at : (n k : ℕ) → k < n → k ≡ get_or (own_positions n) k 0
own_at n k h = let z : 0 + k ≡ k = omega arith in sym (table_at (λ j. j) 0 n k 0 h ∙ z)

pub own_snoc : (n : ℕ) → own_positions (n + 1) ≡ own_positions n ++ n ∷ []
own_snoc n = let z : 0 + n ≡ n = omega arith in rw z at (table_snoc (λ k. k) 0 n)

-- question 7
pub range_inside : (s : Step) (cs : List Channel) → range_allowed s cs ≡ true → (1 ≤ s.number) × (s.begin + s.number ≤ length cs)
unfolding range_allowed
range_inside s cs h =
    let b = (and-eq-true_iff (leb 1 s.number) (leb (s.begin + s.number) (length cs))).0 h in
    (leb-true _ _ b.0, leb-true _ _ b.1)

module _ (l : ChannelList) where
  -- what a loop over the channels has left where it begins
  pub channels_all : (n : ℕ) → n ≡ min l.count max_channels → table (channel_at l) 0 (n - 0) ≡ channels l
  unfolding channels
  channels_all n e = let z : n - 0 ≡ min l.count max_channels = omega arith in ap (table (channel_at l) 0) z

  -- they have no origins
  pub channels_lent : channels (lent l.count l.widths l.heights l.hshifts l.vshifts []) ≡ channels l
  unfolding channels
  channels_lent = refl

  pub channels_length : length (channels l) ≡ min l.count max_channels
  unfolding channels
  channels_length = table_length (channel_at l) 0 _

  pub channels_at : (k : ℕ) → k < length (channels l) → channel_at l k ≡ channel_of (channels l) k
  unfolding channels
  channels_at k h =
      let n = channels_length in
      let z : 0 + k ≡ k = omega arith in
      sym (table_at (channel_at l) 0 (min l.count max_channels) k _ (omega arith) ∙ ap (channel_at l) z)

  pub origins_length : length (origins l) ≡ min l.count max_channels
  unfolding origins
  origins_length = table_length (λ k. get_or l.origins k 0) 0 _

  pub origins_at : (k : ℕ) → k < length (origins l) → get_or l.origins k 0 ≡ get_or (origins l) k 0
  unfolding origins
  origins_at k h =
      let n = origins_length in
      let z : 0 + k ≡ k = omega arith in
      sym (table_at (λ i. get_or l.origins i 0) 0 (min l.count max_channels) k 0 (omega arith) ∙ ap (λ (i : ℕ). get_or l.origins i 0) z)

  -- the channel c that was found at k, and whether it is meta
  module _ (k : ℕ) (c : Channel) (h : k < length (channels l)) (e : c ≡ channel_at l k) where
    pub found_at : c ≡ channel_of (channels l) k
    found_at = e ∙ channels_at k h

    pub kind_at : (meta : Bool) → meta ≡ is_meta c → meta ≡ is_meta (channel_of (channels l) k)
    kind_at meta em = em ∙ ap is_meta found_at

  -- a step's range: of any step, as far as the list has it
  pub channels_within : (s : Step) (end : ℕ) → end ≡ min (s.begin + s.number) (min l.count max_channels)
      → range s (channels l) ≡ table (channel_at l) s.begin (end - s.begin)
  unfolding channels
  channels_within s end h =
      let z : 0 + s.begin ≡ s.begin = omega arith in
      let m : min s.number (min l.count max_channels - s.begin) ≡ end - s.begin = omega arith in
      table_within (channel_at l) 0 (min l.count max_channels) s.begin s.number ∙ rw (z, m)

  pub channels_range : (s : Step) → s.begin + s.number ≤ length (channels l) → range s (channels l) ≡ table (channel_at l) s.begin (s.begin + s.number - s.begin)
  channels_range s h = let n = channels_length in channels_within s (s.begin + s.number) (omega arith)
