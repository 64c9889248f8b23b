-- One field without tag 3: its questions are those of before, and what it holds fits 16 bits. Assumes nothing.
use mathlib.Core.Path.{◌≡◌, refl, sym, ◌∙◌}
use mathlib.Core.Bool.{Bool, true, false, ◌&&◌, ◌||◌, not, or-false, and-true, and_assoc, true≢false, false≢true}
use mathlib.Core.Logic.{inl, inr}
use mathlib.Core.List.{List}
use Prim.Native.Nat.{ℕ, ◌≤◌}
use native.Mathlib.Omega.{arith}
use lib.Dec.{eqb, ltb}
use borrow.Author.Tests.{eq-eqb, le-ltb, ltb-false}
use Rattle.channel.specs.declared.Channel.{Channel}
use Rattle.channel.specs.Channel.{is_meta, shifts_allowed, is_allowed}
use Rattle.channel.proofs.Sides.{sides_fit_lem}
use Rattle.record.specs.Bytes.{channel_tag, channel_length, channel_size, strip_tag, step_size, max_short_side, is_strip}
use Rattle.record.specs.Reading as New
use Rattle.record.specs.Reading.{tag_of, length_of, field_size, short_channel, field_channel, has_strip_tag}
use Rattle.record.specs.Laws.{AreBytes}
use Rattle.record.proofs.Fields.{ChannelHead, is_step_lem, is_channel_lem}
use Rattle.before.specs.Reading as Before

-- ---- channels that are no strips
pub short_sides : (c : Channel) → not (is_strip c) ≡ true → (c.width ≤ max_short_side) × (c.height ≤ max_short_side)
unfolding is_strip
short_sides c h = go (ltb max_short_side c.width) (ltb max_short_side c.height) refl refl h
  where
    go : (s t : Bool) → ltb max_short_side c.width ≡ s → ltb max_short_side c.height ≡ t → not (s || t) ≡ true
        → (c.width ≤ max_short_side) × (c.height ≤ max_short_side)
    go false false es et k = (ltb-false max_short_side c.width es, ltb-false max_short_side c.height et)
    go false true es et k = absurd (false≢true k)
    go true t es et k = absurd (false≢true k)

pub sides_short : (c : Channel) → c.width ≤ max_short_side → c.height ≤ max_short_side → not (is_strip c) ≡ true
unfolding is_strip
sides_short c w h = rw (le-ltb max_short_side c.width w, le-ltb max_short_side c.height h)

-- question 4 asks of them what it asked
pub short_allowed : (c : Channel) → not (is_strip c) ≡ true → is_allowed c ≡ shifts_allowed c
unfolding is_allowed
short_allowed c h =
    let s = short_sides c h in
    rw (sides_fit_lem c (omega arith) (omega arith)) (and-true (shifts_allowed c))

-- ---- the field
module _ (bytes : List ℕ) (b : AreBytes bytes) (t : has_strip_tag bytes ≡ false) where
  pub channel_same : field_channel bytes ≡ short_channel bytes
  unfolding field_channel
  channel_same = rw t

  pub channel_short : not (is_strip (field_channel bytes)) ≡ true
  channel_short =
      rw channel_same
      (sides_short (short_channel bytes) (omega (arith, b 3, b 4)) (omega (arith, b 5, b 6)))

  is_channel_same : (steps : ℕ) → New.is_channel bytes steps ≡ Before.is_channel bytes steps
  unfolding New.is_channel New.has_head Before.is_channel
  is_channel_same steps =
      rw (t, or-false (eqb (tag_of bytes) channel_tag && eqb (length_of bytes) channel_length))
      (and_assoc (eqb (tag_of bytes) channel_tag) (eqb (length_of bytes) channel_length) (eqb steps 0))

  pub is_step_same : New.is_step bytes ≡ Before.is_step bytes
  unfolding New.is_step New.has_head Before.is_step
  is_step_same = refl

  allowed_same : (metas : Bool) → (New.channel_allowed (field_channel bytes) metas && New.tag_allowed bytes) ≡ Before.channel_allowed (short_channel bytes) metas
  unfolding New.channel_allowed New.tag_allowed Before.channel_allowed
  allowed_same metas =
      rw (t, short_allowed (field_channel bytes) channel_short, channel_same)
      (and-true (shifts_allowed (short_channel bytes) && (not (is_meta (short_channel bytes)) || metas)))

  judge_channel_same : (channels : ℕ) (metas : Bool) → New.judge_channel_field bytes channels metas ≡ Before.judge_channel_field bytes channels metas
  unfolding New.judge_channel_field Before.judge_channel_field
  judge_channel_same channels metas = rw (allowed_same metas)

  pub judge_same : (channels : ℕ) (metas : Bool) (steps : ℕ) → New.judge_field bytes channels metas steps ≡ Before.judge_field bytes channels metas steps
  unfolding New.judge_field New.field_inside Before.judge_field Before.field_inside
  judge_same channels metas steps = rw (is_channel_same steps, is_step_same, judge_channel_same channels metas)

  -- where it is refused nothing, its length is its kind's
  module _ (channels : ℕ) (metas : Bool) (steps : ℕ) (h : New.judge_field bytes channels metas steps ≡ 0) where
    pub step_size_lem : New.is_step bytes ≡ true → field_size bytes ≡ step_size
    step_size_lem k = omega (arith, (is_step_lem bytes channels metas steps h k).head_is.1)

    pub channel_size_lem : New.is_step bytes ≡ false → field_size bytes ≡ channel_size
    channel_size_lem k = go (is_channel_lem bytes channels metas steps h k).head_is
      where
        go : ChannelHead bytes → field_size bytes ≡ channel_size
        go (inl e) = omega (arith, e.1)
        go (inr e) = absurd (true≢false (sym (eq-eqb (tag_of bytes) strip_tag e.0) ∙ t))
