-- What the questions of one field (specs/Reading.antt) say of its bytes: how many there are, and which kind it is. Assumes nothing.
use mathlib.Core.Path.{◌≡◌, refl, sym, ◌∙◌}
use mathlib.Core.Bool.{Bool, true, false, cond, ◌&&◌, ◌||◌, not, or-false, and-eq-true_iff}
use mathlib.Core.Logic.{◌⊎◌, inl, inr}
use mathlib.Core.List.{List}
use Prim.Native.Nat.{ℕ, ◌<◌, ◌≤◌}
use native.Mathlib.Omega.{arith}
use lib.Dec.{eqb, leb, ltb}
use lib.ListN.{length}
use borrow.Author.Tests.{eqb-true, leb-true, ltb-true}
use Rattle.channel.specs.declared.Channel.{Channel}
use Rattle.channel.specs.Channel.{is_meta, is_allowed}
use Rattle.list.specs.Lists.{max_channels, max_steps}
use Rattle.list.proofs.Asking.{passed}
use Rattle.plan.specs.Version.{house_version}
use Rattle.plan.specs.Steps.{flags_allowed}
use Rattle.record.specs.Bytes.{channel_tag, channel_length, strip_tag, strip_length, step_tag, step_length, version_tag, version_length, head_length, step_size, version_size, is_strip}
use Rattle.record.specs.Reading.{byte_at, tag_of, length_of, field_size, has_strip_tag, field_channel, flags_at, field_inside, has_head, is_channel, is_step, channel_allowed, tag_allowed, judge_channel_field, judge_step_field, judge_field, judge_version_field}
use Rattle.record.specs.Inside.{ChannelInside}

-- a tag and its length, and the two that a channel may have
abbrev pub HasHead : ℕ → ℕ → List ℕ → Type 0
HasHead tag size bytes = (tag_of bytes ≡ tag) × (length_of bytes ≡ size)

abbrev pub ChannelHead : List ℕ → Type 0
ChannelHead bytes = HasHead channel_tag channel_length bytes ⊎ HasHead strip_tag strip_length bytes

module _ (bytes : List ℕ) where
  pub inside : field_inside bytes ≡ true → (head_length ≤ length bytes) × (field_size bytes ≤ length bytes)
  unfolding field_inside
  inside h =
      let b = (and-eq-true_iff (leb head_length (length bytes)) (leb (field_size bytes) (length bytes))).0 h in
      (leb-true _ _ b.0, leb-true _ _ b.1)

  pub head : (tag size : ℕ) → has_head tag size bytes ≡ true → HasHead tag size bytes
  unfolding has_head
  head tag size h =
      let b = (and-eq-true_iff (eqb (tag_of bytes) tag) (eqb (length_of bytes) size)).0 h in
      (eqb-true _ _ b.0, eqb-true _ _ b.1)

  step_head : is_step bytes ≡ true → HasHead step_tag step_length bytes
  unfolding is_step
  step_head = head step_tag step_length

  channel_head : (steps : ℕ) → is_channel bytes steps ≡ true → ChannelHead bytes × (steps ≡ 0)
  unfolding is_channel
  channel_head steps h =
      let b = (and-eq-true_iff (has_head channel_tag channel_length bytes || has_head strip_tag strip_length bytes) (eqb steps 0)).0 h in
      (go (has_head channel_tag channel_length bytes) refl b.0, eqb-true _ _ b.1)
    where
      go : (t : Bool) → has_head channel_tag channel_length bytes ≡ t → (t || has_head strip_tag strip_length bytes) ≡ true → ChannelHead bytes
      go true e k = inl (head channel_tag channel_length e)
      go false e k = inr (head strip_tag strip_length k)

  pub step_long : field_inside bytes ≡ true → is_step bytes ≡ true → step_size ≤ length bytes
  step_long h k = omega (arith, (inside h).1, (step_head k).1)

  head_inside : field_inside bytes ≡ true → ChannelHead bytes → ChannelInside bytes
  head_inside h (inl k) =
      record {
        short = omega (arith, (inside h).1, k.1);
        strip = λ t. absurd (omega (arith, k.0, eqb-true (tag_of bytes) strip_tag t));
      }
  head_inside h (inr k) = record { short = omega (arith, (inside h).1, k.1); strip = λ t. omega (arith, (inside h).1, k.1) }

  pub channel_inside : (steps : ℕ) → field_inside bytes ≡ true → is_channel bytes steps ≡ true → ChannelInside bytes
  channel_inside steps h k = head_inside h (channel_head steps k).0

  -- a field that is refused nothing
  pub record IsStep (steps : ℕ) : Type 0 where
    pub long : step_size ≤ length bytes
    pub head_is : HasHead step_tag step_length bytes
    pub judged : judge_step_field bytes steps ≡ 0

  pub record IsChannel (channels : ℕ) (metas : Bool) (steps : ℕ) : Type 0 where
    pub long : ChannelInside bytes
    pub head_is : ChannelHead bytes
    pub first : steps ≡ 0
    pub judged : judge_channel_field bytes channels metas ≡ 0

  module _ (channels : ℕ) (metas : Bool) (steps : ℕ) (h : judge_field bytes channels metas steps ≡ 0) where
    known : (field_inside bytes ≡ true)
        × ((is_channel bytes steps || is_step bytes) ≡ true)
        × (cond (is_step bytes) (judge_step_field bytes steps) (judge_channel_field bytes channels metas) ≡ 0)
    unfolding judge_field
    known =
        let a = passed (field_inside bytes) _ _ h in
        let b = passed (is_channel bytes steps || is_step bytes) _ _ a.1 in
        (a.0, b.0, b.1)

    pub judged_inside : (head_length ≤ length bytes) × (field_size bytes ≤ length bytes)
    judged_inside = inside known.0

    pub is_step_lem : is_step bytes ≡ true → IsStep steps
    is_step_lem t = record { long = step_long known.0 t; head_is = step_head t; judged = rw t at known.2 }

    pub is_channel_lem : is_step bytes ≡ false → IsChannel channels metas steps
    is_channel_lem t =
        let k = channel_head steps (sym (or-false (is_channel bytes steps)) ∙ rw t at known.1) in
        record { long = head_inside known.0 k.0; head_is = k.0; first = k.1; judged = rw t at known.2 }

-- the version's field, where it is refused nothing
pub record IsVersion (bytes : List ℕ) : Type 0 where
  pub long : version_size ≤ length bytes
  pub head_is : HasHead version_tag version_length bytes
  pub value : byte_at bytes head_length ≡ house_version

pub is_version_lem : (bytes : List ℕ) → judge_version_field bytes ≡ 0 → IsVersion bytes
unfolding judge_version_field
is_version_lem bytes z =
    let p₁ = passed (field_inside bytes) _ _ z in
    let p₂ = passed (has_head version_tag version_length bytes) _ _ p₁.1 in
    let p₄ = passed (eqb (byte_at bytes head_length) house_version) _ _ p₂.1 in
    let f = head bytes version_tag version_length p₂.0 in
    record { long = omega (arith, (inside bytes p₁.0).1, f.1); head_is = f; value = eqb-true _ _ p₄.0 }

pub version_long : (bytes : List ℕ) → judge_version_field bytes ≡ 0 → version_size ≤ length bytes
version_long bytes z = (is_version_lem bytes z).long

-- questions 3 and 4
pub step_allowed : (bytes : List ℕ) (steps : ℕ) → judge_step_field bytes steps ≡ 0 → (steps < max_steps) × (flags_at bytes < 4)
unfolding judge_step_field flags_allowed
step_allowed bytes steps h =
    let a = passed (ltb steps max_steps) _ _ h in
    let b = passed (flags_allowed (flags_at bytes)) _ _ a.1 in
    (ltb-true _ _ a.0, ltb-true _ _ b.0)

pub channel_allowed_lem : (bytes : List ℕ) (channels : ℕ) (metas : Bool) → judge_channel_field bytes channels metas ≡ 0
    → (channels < max_channels) × (channel_allowed (field_channel bytes) metas ≡ true) × (tag_allowed bytes ≡ true)
unfolding judge_channel_field
channel_allowed_lem bytes channels metas h =
    let a = passed (ltb channels max_channels) _ _ h in
    let b = passed (channel_allowed (field_channel bytes) metas && tag_allowed bytes) _ _ a.1 in
    let d = (and-eq-true_iff (channel_allowed (field_channel bytes) metas) (tag_allowed bytes)).0 b.0 in
    (ltb-true _ _ a.0, d.0, d.1)

-- the code's test of question 4
pub channel_asked : (bytes : List ℕ) (c : Channel) (metas allowed meta strip : Bool) → c ≡ field_channel bytes → allowed ≡ is_allowed c → meta ≡ is_meta c → strip ≡ is_strip c
    → ((allowed && (not meta || metas)) && (not (has_strip_tag bytes) || strip)) ≡ (channel_allowed (field_channel bytes) metas && tag_allowed bytes)
unfolding channel_allowed tag_allowed
channel_asked bytes c metas allowed meta strip ec ea em es = rw (ea, em, es, ec)
