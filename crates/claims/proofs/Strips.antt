-- The claims of long strips (specs/Strips.antt): by the laws of crates before, record, listing and plan, and the rows by computation. Assumes
-- nothing.
use mathlib.Core.Path.{◌≡◌, refl, sym, ◌∙◌}
use mathlib.Core.Bool.{Bool, true, false, ◌&&◌, and-false, true≢false}
use mathlib.Core.Logic.{◌⊎◌, inl, inr}
use mathlib.Core.List.{List}
use Prim.Native.Nat.{ℕ, zero, suc, ◌<◌, ◌≤◌}
use native.Mathlib.Omega.{arith}
use lib.Dec.{leb}
use lib.ListN.{length}
use borrow.Author.Tests.{lt-ltb, lt-leb}
use Rattle.numbers.specs.Numbers.{max_side, refused_form, refused_sizes}
use Rattle.channel.specs.declared.Channel.{Channel}
use Rattle.channel.specs.Channel as Channel
use Rattle.channel.specs.Channel.{shifts_allowed, sides_fit, is_allowed}
use Rattle.channel.proofs.Sides.{fit_sides}
use Rattle.list.specs.declared.ChannelList.{ChannelList}
use Rattle.list.specs.Lists as Lists
use Rattle.list.specs.Tables.{all}
use Rattle.list.specs.Lists.{max_channels, max_steps, channels}
use Rattle.list.specs.Questions as Questions
use Rattle.list.specs.Questions.{channel_of, count_allowed, channels_allowed, judge_list}
use Rattle.list.specs.Accepted.{Accepted}
use Rattle.list.proofs.Acceptance.{list_accepted, accepted_sides}
use Rattle.list.proofs.Channels.{channels_length}
use Rattle.list.proofs.Maps.{all_at}
use Rattle.tile.specs.declared.Sides.{Sides}
use Rattle.tile.specs.Call as Tile
use Rattle.tile.specs.Call.{Call}
use Rattle.tile.proofs.Fitted.{thirteen}
use Rattle.plan.specs.declared.Steps.{Steps}
use Rattle.plan.specs.Steps as Steps
use Rattle.plan.specs.Version as Versions
use Rattle.plan.specs.Default as Default
use Rattle.plan.specs.Plans as Plans
use Rattle.plan.specs.Plans.{judge_plan}
use Rattle.plan.proofs.Judged.{judged_counts, steps_few}
use Rattle.plan.proofs.Longest.{longest_default}
use Rattle.plan.proofs.Runs.{plan_accepted}
use Rattle.plan.proofs.Turns.{by_test}
use Rattle.record.specs.Bytes as Bytes
use Rattle.record.specs.Bytes.{is_strip}
use Rattle.record.specs.Reading as Reading
use Rattle.record.specs.Reading.{has_strip_tag, field_channel, channel_allowed, tag_allowed, judge_channel_field}
use Rattle.record.specs.Records as Records
use Rattle.record.specs.Records.{read_answer, channels_of, steps_of, reached_of, record_for}
use Rattle.record.specs.Laws.{AreBytes}
use Rattle.record.proofs.Joined.{record_most}
use Rattle.record.proofs.Readings.{channels_accepted, steps_judged}
use Rattle.listing.specs.Text as Text
use Rattle.listing.proofs.Digits.{decimal_value}
use Rattle.listing.proofs.Room.{listing_room_lem}
use Rattle.numbered.specs.Numbered as Numbered
use Rattle.numbered.specs.Numbered.{channel_numbers, step_numbers, groups, judge_numbers}
use Rattle.before.specs.Laws as Before
use Rattle.before.proofs.AsBefore.{read_as_before, written_as_before}
use Rattle.rect.specs.Rect as Rect
use Rattle.rect.specs.Rect.{rect_of}
use Rattle.claims.specs.Table.{record20by9}
use Rattle.claims.specs.Strips.{SidesWithin, Above, PrintedWhole, Strips}

-- ---- old records
are_bytes : AreBytes record20by9
are_bytes zero = omega arith
are_bytes (suc zero) = omega arith
are_bytes (suc (suc zero)) = omega arith
are_bytes (suc (suc (suc zero))) = omega arith
are_bytes (suc (suc (suc (suc zero)))) = omega arith
are_bytes (suc (suc (suc (suc (suc zero))))) = omega arith
are_bytes (suc (suc (suc (suc (suc (suc zero)))))) = omega arith
are_bytes (suc (suc (suc (suc (suc (suc (suc zero))))))) = omega arith
are_bytes (suc (suc (suc (suc (suc (suc (suc (suc zero)))))))) = omega arith
are_bytes (suc (suc (suc (suc (suc (suc (suc (suc (suc k))))))))) = omega arith

-- ---- the room of a record
record_room_lem : (version : ℕ) (l : ChannelList) (s : Steps) → judge_plan version l s ≡ 0 → length (record_for version l s) ≤ 3_844
record_room_lem version l s ok =
    record_most version (channels l) (Steps.steps s) (omega (arith, channels_length l, (judged_counts version l s ok).0)) (steps_few version l s ok)

-- ---- the limit
within : (cs : List Channel) → Accepted cs → SidesWithin cs
within cs ok k h = fit_sides (channel_of cs k) (accepted_sides cs ok k h)

recorded : (bytes : List ℕ) → read_answer bytes ≡ 0 → SidesWithin (channels_of bytes) × SidesWithin (reached_of bytes)
recorded bytes z =
    let first = channels_accepted bytes z in
    (within (channels_of bytes) first, within (reached_of bytes) (plan_accepted (steps_of bytes) (channels_of bytes) first (steps_judged bytes z)))

printed : (bytes : List ℕ) → read_answer bytes ≡ 0 → (k : ℕ) → k < length (reached_of bytes)
    → PrintedWhole (channel_of (reached_of bytes) k).width × PrintedWhole (channel_of (reached_of bytes) k).height
printed bytes z k h =
    let s = (recorded bytes z).1 k h in
    (decimal_value _ (omega arith), decimal_value _ (omega arith))

-- ---- above the limit: question 4 of one channel is answered no, so of every list that has it
above_refused : (c : Channel) → Above c.width c.height → is_allowed c ≡ false
unfolding Channel.is_allowed
above_refused c a = by_test (sides_fit c) (λ t. absurd (go (fit_sides c t) a)) (λ t. rw t (and-false (shifts_allowed c)))
  where
    go : (c.width ≤ max_side) × (c.height ≤ max_side) → Above c.width c.height → ⊥
    go fit (inl h) = omega arith
    go fit (inr h) = omega arith

one_refused : (cs : List Channel) (k : ℕ) → k < length cs → Above (channel_of cs k).width (channel_of cs k).height → channels_allowed cs ≡ false
unfolding Questions.channels_allowed
one_refused cs k h a =
    by_test (all is_allowed cs)
    (λ t. absurd (true≢false (sym (all_at is_allowed cs k _ t h) ∙ above_refused (channel_of cs k) a)))
    (λ t. rw t)

list_refused : (l : ChannelList) → count_allowed l.count ≡ true → (k : ℕ) → k < length (channels l)
    → Above (channel_of (channels l) k).width (channel_of (channels l) k).height → judge_list l ≡ refused_form
unfolding Questions.judge_list
list_refused l n k h a = rw (n, one_refused (channels l) k h a)

numbers_refused : (version : ℕ) (ns ms : List ℕ) → (count_allowed (groups channel_numbers ns) && leb (groups step_numbers ms) max_steps) ≡ true → (k : ℕ)
    → k < length (Numbered.channels_of ns) → Above (channel_of (Numbered.channels_of ns) k).width (channel_of (Numbered.channels_of ns) k).height
    → judge_numbers version ns ms ≡ refused_form
unfolding Numbered.judge_numbers
numbers_refused version ns ms n k h a = rw (n, one_refused (Numbered.channels_of ns) k h a)

module _ (bytes : List ℕ) (count : ℕ) (metas : Bool) (n : count < max_channels) where
  form_refused : (channel_allowed (field_channel bytes) metas && tag_allowed bytes) ≡ false → judge_channel_field bytes count metas ≡ refused_form
  unfolding Reading.judge_channel_field
  form_refused e = rw (lt-ltb count max_channels n, e)

  field_refused : Above (field_channel bytes).width (field_channel bytes).height → judge_channel_field bytes count metas ≡ refused_form
  unfolding Reading.channel_allowed
  field_refused a = form_refused (rw (above_refused (field_channel bytes) a))

  tag_refused : has_strip_tag bytes ≡ true → is_strip (field_channel bytes) ≡ false → judge_channel_field bytes count metas ≡ refused_form
  unfolding Reading.tag_allowed
  tag_refused t s = form_refused (rw (t, s) (and-false (channel_allowed (field_channel bytes) metas)))

rect_refused : (c : Channel) (output stored group gx gy : ℕ) → Above c.width c.height → rect_of c output stored group gx gy ≡ Rect.refused refused_form
unfolding Rect.rect_of
rect_refused c output stored group gx gy a = rw (above_refused c a)

-- a tile call's rectangle, and which of the three it is
rectangle_large : (s : Sides) → Above s.width s.height → Tile.sides_small s ≡ false
unfolding Tile.sides_small
rectangle_large s (inl h) = rw (lt-leb s.width max_side h)
rectangle_large s (inr h) = rw (lt-leb s.height max_side h) (and-false (leb s.width max_side))

tile_refused : (c : Call) → Tile.areas_allowed c ≡ true
    → Above c.avg_sides.width c.avg_sides.height ⊎ (Above c.res_sides.width c.res_sides.height ⊎ Above c.out_sides.width c.out_sides.height)
    → Tile.answer c ≡ refused_sizes
unfolding Tile.sides_fit Tile.sizes_fit
tile_refused c ok a = thirteen c ok (go a)
  where
    go : Above c.avg_sides.width c.avg_sides.height ⊎ (Above c.res_sides.width c.res_sides.height ⊎ Above c.out_sides.width c.out_sides.height)
        → Tile.sizes_fit c ≡ false
    go (inl h) = rw (rectangle_large c.avg_sides h)
    go (inr (inl h)) = rw (rectangle_large c.res_sides h, and-false (Tile.sides_small c.avg_sides))
    go (inr (inr h)) = rw (rectangle_large c.out_sides h, and-false (Tile.sides_small c.res_sides), and-false (Tile.sides_small c.avg_sides))

-- ---- all of them
pub strips : Strips
unfolding
    Channel.is_meta Channel.shifts_allowed Channel.sides_fit Channel.is_allowed Channel.samples
    Lists.channels Lists.holding Lists.raised Lists.average Lists.residual Lists.stepped
    Questions.count_allowed Questions.channels_allowed Questions.total_allowed Questions.range_allowed Questions.kinds_alike Questions.place_allowed Questions.has_sides Questions.shifts_kept Questions.room_left Questions.judge_list Questions.judge_step
    Tile.area_allowed Tile.areas_allowed Tile.sides_small Tile.sides_fit Tile.line_fits Tile.sizes_fit Tile.slices_fit Tile.answer
    Steps.flags_of Steps.flags_allowed Steps.steps Steps.all_flags Steps.packed
    Versions.is_version Versions.rule_of Default.meta_count Default.chroma Default.rounds Default.all_channels Default.default_steps
    Plans.has_other Plans.meant Plans.meant_allowed Plans.judge_form Plans.judge_meant Plans.judge_plan
    Bytes.is_strip Bytes.short_field Bytes.strip_field Bytes.channel_field Bytes.step_field Bytes.version_field Bytes.list_fields Bytes.record_of
    Reading.field_channel Reading.field_inside Reading.has_head Reading.is_channel Reading.is_step Reading.channel_allowed Reading.tag_allowed Reading.judge_channel_field Reading.judge_step_field Reading.judge_field Reading.fields_of Reading.judge_version_field Reading.form_of
    Records.read_answer Before.no_tag
    Text.decimal Text.channel_line
    Rect.group_allowed Rect.whole Rect.tile Rect.tile_unless_meta Rect.by_kinds Rect.rect_of
strips =
    record {
      old_records = record { read = read_as_before; written = written_as_before; witness = (are_bytes, refl, refl, refl) };
      mixed_accepted = refl;
      room = record { records = record_room_lem; judged = omega arith; listings = listing_room_lem };
      longest_default = longest_default;
      limit =
          record {
            lists = λ l h. within (channels l) (list_accepted l h);
            recorded = recorded;
            printed = printed;
            list_refused = list_refused;
            numbers_refused = numbers_refused;
            field_refused = field_refused;
            rect_refused = rect_refused;
            tag_refused = tag_refused;
            tile_refused = tile_refused;
            largest = refl;
            above = refl;
            far_above = refl;
          };
      rows =
          record {
            written_short = refl;
            written_strip = refl;
            strip_for_short = refl;
            strip_above = refl;
            strip_read = refl;
            length_six = refl;
            after_channel = refl;
            after_step = refl;
            line = refl;
            tile_largest = refl;
            tile_above = refl;
            tile_product = refl;
            rect_whole = refl;
            rect_last = refl;
            rect_above = refl;
          };
    }
