-- Long strips (document 02, A.8), over the definitions that the contracts of the C functions cite. That reader and writer undo each other and that a
-- list has one record, with both tags mixed, is `RecordUndone` of specs/Demands.antt; here stand what old records keep, the room that strips take,
-- the default plan of a strip, and the limit in every call. Statements only; proofs/Strips.antt proves them.
use Rattle.std.specs.Prelude.{◌≡◌, Bool, true, false, ◌&&◌, ◌⊎◌, List, [], ◌∷◌, ℕ, ◌+◌, ◌<◌, ◌≤◌, leb, length}
use Rattle.numbers.specs.Numbers.{max_side, refused_field, refused_form, refused_samples, refused_sizes, refused_length}
use Rattle.channel.specs.declared.Channel.{Channel}
use Rattle.channel.specs.Channel.{meta_shift}
use Rattle.list.specs.declared.ChannelList.{ChannelList}
use Rattle.list.specs.Lists.{max_channels, max_steps, channels, packed}
use Rattle.list.specs.Questions.{channel_of, count_allowed, judge_list}
use Rattle.tile.specs.Call as Tile
use Rattle.tile.specs.Call.{Call}
use Rattle.plan.specs.declared.Steps.{Steps}
use Rattle.plan.specs.Steps as S
use Rattle.plan.specs.Default.{step}
use Rattle.plan.specs.Version.{standard_version}
use Rattle.plan.specs.Plans.{judge_plan}
use Rattle.plan.specs.Longest.{LongestDefault}
use Rattle.record.specs.Bytes.{is_strip, strip_field, channel_field}
use Rattle.record.specs.Reading.{has_strip_tag, has_version_tag, field_channel, judge_channel_field, answer_of, form_of}
use Rattle.record.specs.Records.{read_answer, channels_of, reached_of, record_for}
use Rattle.record.specs.Laws.{AreBytes}
use Rattle.listing.specs.Text.{space, newline, decimal, value_from, channel_line}
use Rattle.listing.specs.Listing.{judged_bytes, listing}
use Rattle.listing.specs.Putting.{listing_room}
use Rattle.numbered.specs.Numbered as Numbered
use Rattle.numbered.specs.Numbered.{channel_numbers, step_numbers, groups, judge_numbers}
use Rattle.before.specs.Laws.{no_strip, ReadAsBeforeLaw, WrittenAsBeforeLaw}
use Rattle.rect.specs.Rect.{rect_of, refused}
use Rattle.claims.specs.Table.{channel, record20by9, horizontal}

-- ---- "Old records keep their bytes and meaning"
pub record OldRecords : Type 0 where
  pub read : ReadAsBeforeLaw
  pub written : WrittenAsBeforeLaw
  -- document 01's record is such a one
  pub witness : AreBytes record20by9 × (no_strip record20by9 ≡ true) × (has_version_tag record20by9 ≡ false) × (read_answer record20by9 ≡ 0)

-- ---- both tags mixed: a meta strip, a channel of tag 1 and two strips, with a step
abbrev pub mixed : List Channel
mixed =
    record { width = 1_048_575; height = 1; hshift = meta_shift; vshift = meta_shift }
    ∷ channel 65_535 1
    ∷ channel 65_536 1
    ∷ channel 3 1_048_575 ∷ []

pub record Room : Type 0 where
  -- "the first 4,096 bytes every record": 256 fields of tag 3 and 64 steps are 3,840, a version is 4 more
  pub records : (version : ℕ) (l : ChannelList) (s : Steps) → judge_plan version l s ≡ 0 → length (record_for version l s) ≤ 3_844
  pub judged : 3_844 ≤ judged_bytes
  pub listings : (bytes : List ℕ) → read_answer bytes ≡ 0 → length (listing bytes) ≤ listing_room

-- ---- no side above the limit: of a list that is judged, and of a record that is accepted, before its plan and after it
abbrev pub SidesWithin : List Channel → Type 0
SidesWithin cs = (k : ℕ) → k < length cs → ((channel_of cs k).width ≤ max_side) × ((channel_of cs k).height ≤ max_side)

-- a side above it
abbrev pub Above : ℕ → ℕ → Type 0
Above width height = (max_side < width) ⊎ (max_side < height)

-- a number is printed whole: its digits stand for it
abbrev pub PrintedWhole : ℕ → Type 0
PrintedWhole n = value_from 0 (decimal n) ≡ n

pub record Limit : Type 0 where
  pub lists : (l : ChannelList) → judge_list l ≡ 0 → SidesWithin (channels l)
  pub recorded : (bytes : List ℕ) → read_answer bytes ≡ 0 → SidesWithin (channels_of bytes) × SidesWithin (reached_of bytes)
  pub printed : (bytes : List ℕ) → read_answer bytes ≡ 0 → (k : ℕ) → k < length (reached_of bytes)
      → PrintedWhole (channel_of (reached_of bytes) k).width × PrintedWhole (channel_of (reached_of bytes) k).height
  -- "a side above the limit, is refused with 4": in any list with an allowed count, at any channel, in numbers likewise, in any field of a channel that
  -- is not one too many, and in any rectangle call
  pub list_refused : (l : ChannelList) → count_allowed l.count ≡ true → (k : ℕ) → k < length (channels l)
      → Above (channel_of (channels l) k).width (channel_of (channels l) k).height → judge_list l ≡ refused_form
  pub numbers_refused : (version : ℕ) (ns ms : List ℕ) → (count_allowed (groups channel_numbers ns) && leb (groups step_numbers ms) max_steps) ≡ true → (k : ℕ)
      → k < length (Numbered.channels_of ns) → Above (channel_of (Numbered.channels_of ns) k).width (channel_of (Numbered.channels_of ns) k).height
      → judge_numbers version ns ms ≡ refused_form
  pub field_refused : (bytes : List ℕ) (count : ℕ) (metas : Bool) → count < max_channels → Above (field_channel bytes).width (field_channel bytes).height
      → judge_channel_field bytes count metas ≡ refused_form
  pub rect_refused : (c : Channel) (output stored group gx gy : ℕ) → Above c.width c.height → rect_of c output stored group gx gy ≡ refused refused_form
  -- "tag 3 for it", a channel that fits tag 1, likewise
  pub tag_refused : (bytes : List ℕ) (count : ℕ) (metas : Bool) → count < max_channels → has_strip_tag bytes ≡ true → is_strip (field_channel bytes) ≡ false
      → judge_channel_field bytes count metas ≡ refused_form
  -- "in tile calls too, where question 12 still judges it": with 13, after 5
  pub tile_refused : (c : Call) → Tile.areas_allowed c ≡ true
      → Above c.avg_sides.width c.avg_sides.height ⊎ (Above c.res_sides.width c.res_sides.height ⊎ Above c.out_sides.width c.out_sides.height)
      → Tile.answer c ≡ refused_sizes
  -- 1,048,575 is accepted and 1,048,576 is not, nor is it taken for 0
  pub largest : judge_list (packed (channel 1_048_575 16 ∷ [])) ≡ 0
  pub above : judge_list (packed (channel 1_048_576 1 ∷ [])) ≡ refused_form
  pub far_above : judge_list (packed (channel 4_294_967_295 4_294_967_295 ∷ [])) ≡ refused_form

-- ---- rows
-- a horizontal tile call whose sizes fit, with an output twice as wide as its average, and empty slices
abbrev pub tile_answer : ℕ → ℕ → ℕ
tile_answer width height = Tile.answer (Tile.call 1 width height width height (width + width) height [] [] [] [] [])

pub record Rows : Type 0 where
  -- "A channel that fits tag 1 is always written so, and tag 3 for it, or a side above the limit, is refused with 4"
  pub written_short : channel_field (channel 65_535 65_535) ≡ 1 ∷ 6 ∷ 0 ∷ 255 ∷ 255 ∷ 255 ∷ 255 ∷ 0 ∷ 0 ∷ []
  pub written_strip : channel_field (channel 65_536 1) ≡ 3 ∷ 10 ∷ 0 ∷ 0 ∷ 0 ∷ 1 ∷ 0 ∷ 1 ∷ 0 ∷ 0 ∷ 0 ∷ 0 ∷ 0 ∷ []
  pub strip_for_short : (form_of (strip_field (channel 65_535 65_535))).answer ≡ refused_form
  pub strip_above : (form_of (strip_field (channel 1_048_576 1))).answer ≡ refused_form
  pub strip_read : form_of (strip_field (channel 1_048_575 16)) ≡ record { answer = 0; version = standard_version; channels = channel 1_048_575 16 ∷ []; steps = [] }
  -- length 6 under tag 3
  pub length_six : (form_of (3 ∷ 6 ∷ 0 ∷ 0 ∷ 0 ∷ 1 ∷ 0 ∷ 1 ∷ 0 ∷ [])).answer ≡ refused_field
  -- "tag 3 otherwise stands wherever tag 1 may": after a channel, and not after a step
  pub after_channel : answer_of (strip_field (channel 65_536 1)) (channel 9 9 ∷ []) [] ≡ 0
  pub after_step : answer_of (strip_field (channel 65_536 1)) (channel 9 9 ∷ []) (horizontal ∷ []) ≡ refused_field
  -- "the listing is printed for strips too": 1048575 16 0 0
  pub line : channel_line (channel 1_048_575 16)
      ≡ 49 ∷ 48 ∷ 52 ∷ 56 ∷ 53 ∷ 55 ∷ 53 ∷ space ∷ 49 ∷ 54 ∷ space ∷ 48 ∷ space ∷ 48 ∷ newline ∷ []
  -- "in tile calls too, where question 12 still judges it", after 5
  pub tile_largest : tile_answer 524_287 1 ≡ refused_length
  pub tile_above : tile_answer 524_288 1 ≡ refused_sizes
  pub tile_product : tile_answer 32_768 65_536 ≡ refused_samples
  -- rectangles: the whole of a strip, and 4
  pub rect_whole : rect_of (channel 1_048_575 3) 0 0 256 0 0 ≡ record { answer = 0; x = 0; y = 0; width = 1_048_575; height = 3 }
  pub rect_last : rect_of (channel 1_048_575 3) 2 0 256 4_095 0 ≡ record { answer = 0; x = 1_048_320; y = 0; width = 255; height = 3 }
  pub rect_above : rect_of (channel 1_048_576 3) 0 0 256 0 0 ≡ refused refused_form

pub record Strips : Type 0 where
  pub old_records : OldRecords
  pub mixed_accepted : judge_plan standard_version (packed mixed) (S.packed (step true true 1 2 ∷ [])) ≡ 0
  pub room : Room
  -- at most 20 steps, 15 under version 2, and as many for one list
  pub longest_default : LongestDefault
  pub limit : Limit
  pub rows : Rows
