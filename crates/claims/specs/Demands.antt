-- The demands, over the definitions that the C functions' contracts cite: `answer`, `picture_of`, `pyramid_of` and `work_of` of crate squeeze for
-- `squeeze_rebuild` and `squeeze_write`, `answer` and `after` of crate tile for `squeeze_tile`, `numbers_after` for `squeeze_grid_rect`, `list_answer`,
-- `text_after` and `size_after` for `squeeze_listing`, those of crate layout for `squeeze_layout` and of crate numbered for `squeeze_record`; and those of
-- `rewrite`, `write_record` and `list_input`. Statements only; proofs/Demands.antt proves them.
use Rattle.std.specs.Prelude.{◌≡◌, true, false, List, [], ◌∷◌, ◌++◌, ℕ, ◌≤◌, ℤ, length, replicate}
use Rattle.numbers.specs.Numbers.{refused_outside, refused_field}
use Rattle.channel.specs.declared.Channel.{Channel}
use Rattle.list.specs.declared.ChannelList.{ChannelList}
use Rattle.list.specs.declared.Step.{Step}
use Rattle.list.specs.Lists.{channels, total}
use Rattle.line.specs.Uncut.{Squeeze, Fitting}
use Rattle.line.specs.Forward.{Samples}
use Rattle.tile.specs.Call as Tile
use Rattle.tile.specs.Call.{Call}
use Rattle.tile.specs.Plain.{TileIsStandard}
use Rattle.cuts.specs.Cut.{Cut, Event, State, Begins, all_allowed}
use Rattle.cuts.specs.Claim.{GiveUncut}
use Rattle.cuts.specs.Witness.{Witness}
use Rattle.plan.specs.declared.Steps.{Steps}
use Rattle.plan.specs.Steps.{steps}
use Rattle.plan.specs.Version.{standard_version}
use Rattle.plan.specs.Plans.{meant, rewritten}
use Rattle.plan.specs.Default.{step}
use Rattle.plan.specs.Standard.{StandardSteps}
use Rattle.plan.specs.StandardDefault.{StandardDefault, ChromaSidesAbove1, dots}
use Rattle.record.specs.Records.{read_answer, channels_of, steps_of, reached_of, written_of, written_bytes}
use Rattle.record.specs.Laws.{ReadWrittenLaw, WrittenReadLaw, OneRecord}
use Rattle.listing.specs.Text.{refused_word, numbered}
use Rattle.listing.specs.Listing.{listing, list_answer, text_after, size_after, judged_bytes, printed}
use Rattle.layout.specs.Layout as Layout
use Rattle.numbered.specs.Laws as Numbered
use Rattle.runs.specs.Runs.{layout}
use Rattle.runs.specs.Unbounded.{RunInDomain, standard_run}
use Rattle.runs.specs.Claim.{Fills, ExactlyOne}
use Rattle.squeeze.specs.GridRect as Rect
use Rattle.squeeze.specs.Entry.{answer, picture_of, pyramid_of, work_of}

-- ---- demand 1: "a refusal gives its number and changes no lent slice", call by call
pub record RefusalKeeps : Type 0 where
  -- the slice that is read, the slice that is filled and the work slice
  pub runs : (bytes : List ℕ) (read filled work : List ℤ) → (answer bytes read filled work ≡ 0 → ⊥)
      → (picture_of bytes read filled work ≡ filled) × (pyramid_of bytes read filled work ≡ filled) × (work_of bytes read filled work ≡ work)
  pub tile : (c : Call) → (Tile.answer c ≡ 0 → ⊥) → Tile.after c ≡ c.out
  pub rectangle : (c : Channel) (output stored group gx gy : ℕ) (numbers : List ℕ) → (Rect.answer c output stored group gx gy numbers ≡ 0 → ⊥)
      → Rect.numbers_after c output stored group gx gy numbers ≡ numbers
  pub listing : (bytes text size : List ℕ) → (list_answer bytes text size ≡ 0 → ⊥) → (text_after bytes text size ≡ text) × (size_after bytes text size ≡ size)
  pub layout : (bytes : List ℕ) (out : Layout.Rows) → (Layout.answer bytes out ≡ 0 → ⊥) → Layout.after bytes out ≡ out
  pub from_numbers : Numbered.RefusalKeeps
  pub record_writer : (version : ℕ) (l : ChannelList) (s : Steps) (out : List ℕ) → ((written_of version l s out).answer ≡ 0 → ⊥) → written_bytes version l s out ≡ out

-- ---- demand 2: "each equals the Rust's on the domain in 01, and on it equals ISO/IEC 18181-1"
-- the channel list that a plan reaches: what `rewrite` gives, what the listing prints of a record, and the layout of a whole run
pub record ListIsStandard : Type 0 where
  pub rewrites : (version : ℕ) (l : ChannelList) (s : Steps) → (rewritten version l s).answer ≡ 0
      → StandardSteps (meant version (steps s) (channels l)) (channels l) (channels (rewritten version l s).list)
  pub listed : (bytes : List ℕ) → read_answer bytes ≡ 0 → StandardSteps (steps_of bytes) (channels_of bytes) (reached_of bytes)
  pub laid_out : (bytes : List ℕ) → read_answer bytes ≡ 0 → layout (steps_of bytes) (channels_of bytes) ≡ reached_of bytes

-- the default plan of version 1, which alone they measure ("Of default plans, Rust and standard measure version 1 only"), where document 01 does not
-- decide otherwise: its steps are the standard's, no others are, and nowhere else are they
pub record DefaultIsStandard : Type 0 where
  pub ours : (cs : List Channel) → ChromaSidesAbove1 cs → StandardDefault cs (meant standard_version [] cs)
  pub only : (cs : List Channel) → ChromaSidesAbove1 cs → (ss : List Step) → StandardDefault cs ss → ss ≡ meant standard_version [] cs
  pub nowhere_else : (cs : List Channel) → StandardDefault cs (meant standard_version [] cs) → ChromaSidesAbove1 cs
  -- three channels 1 by 1: the standard has two chroma steps, document 01 none
  pub smallest : StandardDefault dots (step true false 1 2 ∷ step false false 1 2 ∷ []) × (meant standard_version [] dots ≡ [])

-- the picture, where every sample read or made in any step lies in the domain
abbrev pub PictureIsStandard : Type 0
PictureIsStandard = (bytes : List ℕ) (pyramid picture work : List ℤ) → Samples pyramid → answer bytes pyramid picture work ≡ 0
    → RunInDomain (steps_of bytes) (channels_of bytes) pyramid
    → picture_of bytes pyramid picture work ≡ standard_run (steps_of bytes) (channels_of bytes) pyramid

-- ---- the channel list and the record
-- "The sample total stays.": along any list of steps, refused ones included, and in the list that `rewrite` gives
pub record TotalStays : Type 0 where
  pub laid_out : (ss : List Step) (cs : List Channel) → total (layout ss cs) ≡ total cs
  pub rewrites : (version : ℕ) (l : ChannelList) (s : Steps) → (rewritten version l s).answer ≡ 0 → total (channels (rewritten version l s).list) ≡ total (channels l)

-- "Reading and writing undo each other", the version among what is read and written, and a version, a list and its steps have one record; a record
-- from numbers is the writer's, and reads as the numbers say
pub record RecordUndone : Type 0 where
  pub read_written : ReadWrittenLaw
  pub written_read : WrittenReadLaw
  pub one_record : OneRecord
  pub from_numbers : Numbered.AsWrittenLaw
  pub numbers_back : Numbered.ReadBack

-- 01 FE 0F (hex) and 4,094 zeros
abbrev pub field4097 : List ℕ
field4097 = 1 ∷ 254 ∷ 15 ∷ replicate 4094 0

-- The program `squeeze-list` "judges the first 4,096 bytes of standard input": what `list_input` gives it to print is their listing, whatever follows
-- them. That its `main` hands over what was read, and writes all that it was given, rests on `io`, whose contracts say nothing of either; the gate
-- runs it on an input whose answer takes 4,096 bytes to know.
pub record ProgramRule : Type 0 where
  pub short : (input : List ℕ) → length input ≤ judged_bytes → printed input ≡ listing input
  pub long : (input more : List ℕ) → length input ≡ judged_bytes → printed (input ++ more) ≡ listing input
  -- a field that ends with byte 4,097 is cut: refused with 1, uncut it would be 2
  pub cut : printed field4097 ≡ numbered refused_word refused_outside
  pub uncut : listing field4097 ≡ numbered refused_word refused_field

-- ---- demand 3, over a whole list of steps
-- "Take any list of squeeze steps, refused ones included .. exactly one pyramid of the layout reached rebuilds to that picture"
abbrev pub OnePyramid : Type 0
OnePyramid = (ss : List Step) (cs : List Channel) (picture : List ℤ) → Fills cs picture → ExactlyOne ss cs picture

-- "For every accepted plan it is the one that the writer gives"; any slices may lie in the places that are filled
abbrev pub WriterGivesIt : Type 0
WriterGivesIt = (bytes : List ℕ) (picture pyramid work : List ℤ) → Samples picture → answer bytes picture pyramid work ≡ 0
    → (one : ExactlyOne (steps_of bytes) (channels_of bytes) picture) → pyramid_of bytes picture pyramid work ≡ one.pyramid

-- "and the plan run rebuilds from it": of the two slices lent to it only the lengths are asked, and the call is accepted
abbrev pub WrittenRebuilds : Type 0
WrittenRebuilds = (bytes : List ℕ) (picture pyramid work picture₂ work₂ : List ℤ) → Samples picture → answer bytes picture pyramid work ≡ 0
    → length picture₂ ≡ length picture → length work₂ ≡ length picture
    → (answer bytes (pyramid_of bytes picture pyramid work) picture₂ work₂ ≡ 0)
    × (picture_of bytes (pyramid_of bytes picture pyramid work) picture₂ work₂ ≡ picture)

-- and the other way round
abbrev pub RebuiltWrites : Type 0
RebuiltWrites = (bytes : List ℕ) (pyramid picture work pyramid₂ work₂ : List ℤ) → Samples pyramid → answer bytes pyramid picture work ≡ 0
    → length pyramid₂ ≡ length pyramid → length work₂ ≡ length pyramid
    → (answer bytes (picture_of bytes pyramid picture work) pyramid₂ work₂ ≡ 0)
    × (pyramid_of bytes (picture_of bytes pyramid picture work) pyramid₂ work₂ ≡ pyramid)

-- ---- demand 3, over a whole list of tile calls
abbrev pub TilesTogether : Type 0
TilesTogether = (s : Squeeze) → Fitting s → (cut : Cut s) (es : List Event) (state : State) → Begins s cut state → all_allowed s cut es state
    → GiveUncut s cut es state

-- ---- all of them
pub record Demands : Type 0 where
  pub refusal_keeps : RefusalKeeps
  pub list_is_standard : ListIsStandard
  pub default_is_standard : DefaultIsStandard
  pub picture_is_standard : PictureIsStandard
  pub tile_is_standard : TileIsStandard
  pub total_stays : TotalStays
  pub record_undone : RecordUndone
  pub program_rule : ProgramRule
  pub one_pyramid : OnePyramid
  pub writer_gives_it : WriterGivesIt
  pub written_rebuilds : WrittenRebuilds
  pub rebuilt_writes : RebuiltWrites
  pub tiles_together : TilesTogether
  -- document 01's own case, for which all that the claim before asks holds
  pub tiles_witness : Witness
