-- A house plan for larger screens (document 02, A.11), over the definitions that the contracts of the C functions cite. That reader and writer undo each
-- other with the version, that a version, a list and its steps have one record, and that picture and pyramid of every record undo each other is in
-- specs/Demands.antt; the longest default plans and the room of records in specs/Strips.antt. Here stand what records without a version keep, what a
-- version says of the default plan and of the preview, the field in every record, and a version as a number in every call. Statements only;
-- proofs/House.antt proves them.
use Rattle.std.specs.Prelude.{◌≡◌, Bool, true, false, cond, ◌&&◌, List, [], ◌∷◌, ◌++◌, ℕ, ◌≤◌, leb, ℤ, pos, length, drop, replicate}
use Rattle.numbers.specs.Numbers.{refused_outside, refused_field, refused_count, refused_form}
use Rattle.channel.specs.declared.Channel.{Channel}
use Rattle.list.specs.declared.ChannelList.{ChannelList}
use Rattle.list.specs.declared.Step.{Step}
use Rattle.list.specs.Lists.{max_steps, packed}
use Rattle.list.specs.Questions.{count_allowed}
use Rattle.plan.specs.declared.Steps.{Steps}
use Rattle.plan.specs.Version.{standard_version, house_version, house_side, is_version, rule_of}
use Rattle.plan.specs.Steps as S
use Rattle.plan.specs.Default.{meta_count, other_count, first_other, step, all_channels}
use Rattle.plan.specs.Coarse as Count
use Rattle.plan.specs.Plans.{stepped_all, meant, judge_plan, rewritten, planned}
use Rattle.plan.specs.DefaultLaws.{EachOnAll, FirstLargest}
use Rattle.record.specs.Bytes.{version_tag, version_length, version_size, head_length, record_of}
use Rattle.record.specs.Reading.{byte_at, length_of, field_inside, has_head, judge_field, has_version_tag, form_of}
use Rattle.record.specs.Records.{read_answer, version_of, channels_of, steps_of, written_of}
use Rattle.numbered.specs.Numbered.{channel_numbers, step_numbers, groups, judge_numbers}
use Rattle.listing.specs.Text.{coarse_word, numbered}
use Rattle.listing.specs.Listing.{listing}
use Rattle.rebuild.specs.Rebuild as Rebuild
use Rattle.write.specs.Write as Write
use Rattle.squeeze.specs.Entry.{answer}
use Rattle.before.specs.Laws.{no_tag, ReadUnversionedLaw, WrittenUnversionedLaw}
use Rattle.claims.specs.Table.{channel, record20by9}
use Rattle.claims.specs.Coarse.{coarse_of, lines_before, palette, Counts}

-- ---- three channels alike, and steps on one channel
abbrev pub three : ℕ → List Channel
three side = channel side side ∷ channel side side ∷ channel side side ∷ []

abbrev pub across : Step
across = step true true 0 1

abbrev pub down : Step
down = step false true 0 1

-- the version's field, and a picture 33 by 1 under version 2
abbrev pub version_bytes : List ℕ
version_bytes = 4 ∷ 1 ∷ 0 ∷ 2 ∷ []

abbrev pub record33by1 : List ℕ
record33by1 = version_bytes ++ (1 ∷ 6 ∷ 0 ∷ 33 ∷ 0 ∷ 1 ∷ 0 ∷ 0 ∷ 0 ∷ [])

abbrev pub line33 : List ℤ
line33 = replicate 33 (pos 7)

-- ---- "A record without tag 4 keeps its bytes and its meaning"
pub record WithoutVersion : Type 0 where
  pub read : ReadUnversionedLaw
  pub written : WrittenUnversionedLaw
  -- document 01's record is such a one
  pub witness : (has_version_tag record20by9 ≡ false) × (read_answer record20by9 ≡ 0)

-- ---- the default plan of version 2, and the preview of either
pub record Plan : Type 0 where
  -- "stops at 32 in place of 8 and has no chroma steps first"
  pub house : (cs : List Channel)
      → meant house_version [] cs ≡ all_channels house_side (meta_count cs) (other_count cs) (first_other cs).width (first_other cs).height
  -- "its three equal channels are not subsampled": every step is in place, on all channels that are not meta
  pub not_subsampled : (cs : List Channel) → EachOnAll cs (meant house_version [] cs)
  -- "a picture of at most 32 by 32 has no step"
  pub small_none : (cs : List Channel) → (first_other cs).width ≤ house_side → (first_other cs).height ≤ house_side → meant house_version [] cs ≡ []
  -- steps of its own are the same under every version
  pub own_steps : (version : ℕ) (s : Step) (ss : List Step) (cs : List Channel) → meant version (s ∷ ss) cs ≡ s ∷ ss
  -- and "only the coarse line differs": no line before it has the version
  pub own_listing : (version : ℕ) (s : Step) (ss : List Step) (cs : List Channel) → judge_plan version (packed cs) (S.packed (s ∷ ss)) ≡ 0
      → listing (record_of version cs (s ∷ ss))
      ≡ lines_before (s ∷ ss) (stepped_all (s ∷ ss) cs) ++ numbered coarse_word (Count.coarse_count (rule_of version).stop (stepped_all (s ∷ ss) cs))
  -- "New terminals show 32 by 32 previews": under either version, where the first channel that is not meta is the largest, a default plan leaves an
  -- average of every channel among the coarse ones
  pub preview : (bytes : List ℕ) → read_answer bytes ≡ 0 → (form_of bytes).steps ≡ [] → FirstLargest (channels_of bytes) → length (channels_of bytes) ≤ coarse_of bytes

-- ---- "in tag 4, length 1, value 2, once and as its first field"
-- what stands after the version's field, or the whole where there is none
abbrev pub after_version : List ℕ → List ℕ
after_version bytes = cond (has_version_tag bytes) (drop version_size bytes) bytes

pub record Field : Type 0 where
  -- an accepted record has version 2 where its first field has tag 4, else 1, and no later field has that tag
  pub told : (bytes : List ℕ) → read_answer bytes ≡ 0 → version_of bytes ≡ cond (has_version_tag bytes) house_version standard_version
  pub once : (bytes : List ℕ) → read_answer bytes ≡ 0 → no_tag version_tag (after_version bytes) ≡ true
  -- as the first field: refused with 1, then 2 for another length, then 4 for another value, 1 included
  pub outside_refused : (bytes : List ℕ) → has_version_tag bytes ≡ true → field_inside bytes ≡ false → read_answer bytes ≡ refused_outside
  pub length_refused : (bytes : List ℕ) → has_version_tag bytes ≡ true → field_inside bytes ≡ true → (length_of bytes ≡ version_length → ⊥)
      → read_answer bytes ≡ refused_field
  pub value_refused : (bytes : List ℕ) → field_inside bytes ≡ true → has_head version_tag version_length bytes ≡ true → (byte_at bytes head_length ≡ house_version → ⊥)
      → read_answer bytes ≡ refused_form
  -- "Tag 4 later in the record is refused with 2": after any channels and steps, none of them included
  pub later_refused : (bytes : List ℕ) (count : ℕ) (metas : Bool) (steps : ℕ) → has_version_tag bytes ≡ true → field_inside bytes ≡ true
      → judge_field bytes count metas steps ≡ refused_field

-- ---- "in a call without a record to read a version other than 1 or 2" is refused with 4: after 3, whatever else is asked
abbrev pub counted : ChannelList → Steps → Bool
counted l s = count_allowed l.count && leb s.count max_steps

pub record Number : Type 0 where
  pub rewrite : (version : ℕ) (l : ChannelList) (s : Steps) → is_version version ≡ false → counted l s ≡ true → (rewritten version l s).answer ≡ refused_form
  pub default : (version : ℕ) (l : ChannelList) → is_version version ≡ false → count_allowed l.count ≡ true → (planned version l).answer ≡ refused_form
  pub coarse : (version : ℕ) (l : ChannelList) → is_version version ≡ false → Count.coarse_of version l ≡ record { answer = refused_form; count = 0 }
  pub writer : (version : ℕ) (l : ChannelList) (s : Steps) (out : List ℕ) → is_version version ≡ false → counted l s ≡ true
      → (written_of version l s out).answer ≡ refused_form
  pub numbers : (version : ℕ) (ns ms : List ℕ) → is_version version ≡ false → (count_allowed (groups channel_numbers ns) && leb (groups step_numbers ms) max_steps) ≡ true
      → judge_numbers version ns ms ≡ refused_form
  pub rebuild : (version : ℕ) (l : ChannelList) (s : Steps) (pyramid picture work : List ℤ) → is_version version ≡ false → counted l s ≡ true
      → Rebuild.answer_of version l s pyramid picture work ≡ refused_form
  pub write : (version : ℕ) (l : ChannelList) (s : Steps) (picture pyramid work : List ℤ) → is_version version ≡ false → counted l s ≡ true
      → Write.answer version l s picture pyramid work ≡ refused_form
  pub witness : (is_version 3 ≡ false) × (counted (packed (channel 20 9 ∷ [])) (S.packed []) ≡ true)
  -- 3 comes first
  pub count_first : (version : ℕ) (l : ChannelList) (s : Steps) → counted l s ≡ false → (rewritten version l s).answer ≡ refused_count

-- ---- rows
-- version 2's default plan of one channel
abbrev pub house_plan : ℕ → ℕ → List Step
house_plan width height = meant house_version [] (channel width height ∷ [])

pub record Rows : Type 0 where
  pub at_31 : house_plan 31 31 ≡ []
  pub at_32 : house_plan 32 32 ≡ []
  pub wide_33 : house_plan 33 32 ≡ across ∷ []
  pub tall_33 : house_plan 32 33 ≡ down ∷ []
  pub at_33 : house_plan 33 33 ≡ down ∷ across ∷ []
  pub at_64 : house_plan 64 64 ≡ down ∷ across ∷ []
  pub wide_65 : house_plan 65 64 ≡ across ∷ down ∷ across ∷ []
  pub tall_65 : house_plan 64 65 ≡ down ∷ across ∷ down ∷ []
  pub at_65 : house_plan 65 65 ≡ down ∷ across ∷ down ∷ across ∷ []
  -- three equal channels, under version 1 with chroma steps, under version 2 without
  pub three_standard : meant standard_version [] (three 9) ≡ step true false 1 2 ∷ step false false 1 2 ∷ step false true 0 3 ∷ step true true 0 3 ∷ []
  pub three_small : meant house_version [] (three 9) ≡ []
  pub three_house : meant house_version [] (three 33) ≡ step false true 0 3 ∷ step true true 0 3 ∷ []
  -- a list for which all that the preview asks holds, and a picture under version 2 with a step for which all that demand 3 asks holds
  pub preview_witness : FirstLargest (three 33) × Counts house_version (three 33) [] 6
  pub run_witness : (answer record33by1 line33 line33 line33 ≡ 0) × (steps_of record33by1 ≡ across ∷ [])
  -- a meta channel first
  pub palette_first : meant house_version [] (palette 300 1 ∷ channel 33 9 ∷ []) ≡ step true true 1 1 ∷ []
  -- the coarse count, with a step of its own and without, under both
  pub own_house : Counts house_version (channel 20 20 ∷ []) (across ∷ []) 2
  pub own_standard : Counts standard_version (channel 20 20 ∷ []) (across ∷ []) 0
  pub none_house : Counts house_version (palette 300 1 ∷ channel 64 9 ∷ []) [] 3
  pub none_standard : Counts standard_version (palette 300 1 ∷ channel 32 9 ∷ []) [] 3
  -- the field: alone, with value 1 and 0, of two bytes, twice, and after a channel
  pub alone : read_answer version_bytes ≡ refused_count
  pub value_one : read_answer (4 ∷ 1 ∷ 0 ∷ 1 ∷ record20by9) ≡ refused_form
  pub value_none : read_answer (4 ∷ 1 ∷ 0 ∷ 0 ∷ record20by9) ≡ refused_form
  pub two_bytes : read_answer (4 ∷ 2 ∷ 0 ∷ 2 ∷ 0 ∷ record20by9) ≡ refused_field
  pub twice : read_answer (version_bytes ++ (version_bytes ++ record20by9)) ≡ refused_field
  pub behind : read_answer (record20by9 ++ version_bytes) ≡ refused_field
  pub cut : read_answer (4 ∷ 1 ∷ 0 ∷ []) ≡ refused_outside
  -- document 01's list under version 2
  pub written : record_of house_version (channel 20 9 ∷ []) [] ≡ version_bytes ++ record20by9
  pub accepted : (read_answer (version_bytes ++ record20by9) ≡ 0) × (version_of (version_bytes ++ record20by9) ≡ house_version)

pub record House : Type 0 where
  pub without_version : WithoutVersion
  pub plan : Plan
  pub field : Field
  pub number : Number
  pub rows : Rows
