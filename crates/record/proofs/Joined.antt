-- A field's length, and fields one after the other (`joined` of specs/Bytes.antt): how long they are, and one field more. Assumes nothing.
use mathlib.Core.Path.{◌≡◌, refl, sym, ap, ◌∙◌}
use mathlib.Core.Bool.{Bool, true, false, cond}
use mathlib.Core.List.{List, [], ◌∷◌, ◌++◌, append-nil, append_assoc}
use Prim.Native.Nat.{ℕ, zero, suc, ◌*◌, ◌≤◌, min}
use native.Mathlib.Nat.{mul-zero, mul-suc}
use native.Mathlib.Omega.{arith}
use lib.Dec.{eqb}
use lib.ListN.{length, length-append}
use Rattle.std.specs.List.{sum_by, range_with_len}
use Rattle.std.proofs.Common.{add-one}
use Rattle.std.proofs.lemmas.List.Sums.{sum_by-cons}
use Rattle.channel.specs.declared.Channel.{Channel}
use Rattle.list.specs.declared.Step.{Step}
use Rattle.list.specs.declared.ChannelList.{ChannelList}
use Rattle.list.specs.Tables.{table}
use Rattle.list.specs.Lists as Lists
use Rattle.list.specs.Lists.{max_channels, max_steps, channel_at, channels}
use Rattle.list.proofs.Channels.{channels_length}
use Rattle.list.proofs.Tables.{table_length}
use Rattle.plan.specs.declared.Steps.{Steps}
use Rattle.plan.specs.Steps as S
use Rattle.plan.specs.Steps.{step_at, steps}
use Rattle.plan.specs.Version.{house_version}
use Rattle.record.specs.Bytes.{channel_size, strip_size, step_size, version_tag, version_length, version_size, low, high, is_strip, short_field, strip_field, channel_field, step_field, version_field, joined, channel_fields, step_fields, list_fields, record_of, record_room}

-- a channel's field, by its kind
pub channel_field_lem : (c : Channel) (strip : Bool) → is_strip c ≡ strip → channel_field c ≡ cond strip (strip_field c) (short_field c)
unfolding channel_field
channel_field_lem c strip e = rw e

pub channel_size_lem : (c : Channel) (strip : Bool) → is_strip c ≡ strip → length (channel_field c) ≡ cond strip strip_size channel_size
unfolding short_field strip_field
channel_size_lem c true e = ap length (channel_field_lem c true e)
channel_size_lem c false e = ap length (channel_field_lem c false e)

pub channel_within : (c : Channel) → (channel_size ≤ length (channel_field c)) × (length (channel_field c) ≤ strip_size)
channel_within c = rw (channel_size_lem c (is_strip c) refl) (go (is_strip c))
  where
    go : (b : Bool) → (channel_size ≤ cond b strip_size channel_size) × (cond b strip_size channel_size ≤ strip_size)
    go true = (omega arith, omega arith)
    go false = (omega arith, omega arith)

pub step_size_lem : (s : Step) → length (step_field s) ≡ step_size
unfolding step_field
step_size_lem s = refl

module _ {ℓ} {A : Type ℓ} (field : A → List ℕ) where
  pub joined_within : (a b : ℕ) → ((x : A) → (a ≤ length (field x)) × (length (field x) ≤ b)) → (xs : List A)
      → (a * length xs ≤ length (joined field xs)) × (length (joined field xs) ≤ b * length xs)
  joined_within a b h [] = (omega (arith, mul-zero a), omega (arith, mul-zero b))
  joined_within a b h (x ∷ xs) =
      let s = length-append (field x) (joined field xs) in
      let i = joined_within a b h xs in
      (omega (arith, h x, mul-suc a (length xs)), omega (arith, h x, mul-suc b (length xs)))

  pub joined_length : (n : ℕ) → ((x : A) → length (field x) ≡ n) → (xs : List A) → length (joined field xs) ≡ n * length xs
  joined_length n h xs = let w = joined_within n n (λ x. (omega (arith, h x), omega (arith, h x))) xs in omega arith

  pub joined_snoc : (xs : List A) (x : A) → joined field (xs ++ x ∷ []) ≡ joined field xs ++ field x
  joined_snoc [] x = append-nil (field x)
  joined_snoc (y ∷ xs) x = ap (λ (l : List ℕ). field y ++ l) (joined_snoc xs x) ∙ sym (append_assoc (field y) (joined field xs) (field x))

  -- the sum of the lengths, by the library's words
  pub joined_sum : (f : ℕ → A) (k n : ℕ) → sum_by (λ j. length (field (f j))) (range_with_len k n) ≡ length (joined field (table f k n))
  joined_sum f k zero = refl
  joined_sum f k (suc n) =
      rw (add-one, sum_by-cons (λ j. length (field (f j))) k (range_with_len (suc k) n), joined_sum f (suc k) n) (sym (length-append (field (f k)) (joined field (table f (suc k) n))))

pub channels_most : (cs : List Channel) → length cs ≤ max_channels → length (channel_fields cs) ≤ strip_size * max_channels
channels_most cs h = omega (arith, (joined_within channel_field channel_size strip_size channel_within cs).1)

pub channels_few : (l : ChannelList) → length (channel_fields (channels l)) ≤ strip_size * max_channels
channels_few l = channels_most (channels l) (omega (arith, channels_length l))

pub channels_sum : (l : ChannelList) (n : ℕ) → n ≡ min l.count max_channels
    → sum_by (λ k. length (channel_field (channel_at l k))) (range_with_len 0 n) ≡ length (channel_fields (channels l))
unfolding Lists.channels
channels_sum l n e = joined_sum channel_field (channel_at l) 0 n ∙ rw e

pub steps_size : (s : Steps) (n : ℕ) → n ≡ min s.count max_steps → length (step_fields (steps s)) ≡ step_size * n
unfolding S.steps
steps_size s n e = joined_length step_field step_size step_size_lem (steps s) ∙ rw e (ap (λ (k : ℕ). step_size * k) (table_length (step_at s) 0 (min s.count max_steps)))

pub version_within : (version : ℕ) → length (version_field version) ≤ version_size
unfolding version_field
version_within version = go (eqb version house_version)
  where
    go : (b : Bool) → length (cond b (version_tag ∷ low version_length ∷ high version_length ∷ house_version ∷ []) []) ≤ version_size
    go true = omega arith
    go false = omega arith

pub record_most : (version : ℕ) (cs : List Channel) (ss : List Step) → length cs ≤ max_channels → length ss ≤ max_steps
    → length (record_of version cs ss) ≤ record_room
unfolding list_fields record_of
record_most version cs ss c s =
    omega (
      arith,
      length-append (version_field version) (channel_fields cs ++ step_fields ss),
      length-append (channel_fields cs) (step_fields ss),
      version_within version,
      channels_most cs c,
      joined_length step_field step_size step_size_lem ss,
    )
