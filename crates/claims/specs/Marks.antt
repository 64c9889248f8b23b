-- What the marks say (document 02, A.3), over the definitions that the C functions' contracts cite: `answer`, `picture_of`, `pyramid_of`, `work_of` and
-- `with_mark`, `slice_after`, `mark_after`, `rebuild_mark`, `write_mark` of crate squeeze for `squeeze_rebuild_marked` and `squeeze_write_marked`, and
-- `answer`, `after`, `call_mark` of crate tile for `squeeze_tile_marked`. That tile calls together tell the uncut squeeze's mark is a line of the claim
-- over them (`GiveUncut` of crate cuts). Statements only; proofs/Marks.antt proves them.
use Rattle.std.specs.Prelude.{◌≡◌, Bool, false, cond, List, [], ◌∷◌, ℕ, ◌<◌, ◌≤◌, ℤ, length, drop, get_or}
use Rattle.channel.specs.declared.Channel.{Channel}
use Rattle.list.specs.declared.Step.{Step}
use Rattle.record.specs.Records.{channels_of, steps_of}
use Rattle.line.specs.Forward.{Samples}
use Rattle.tile.specs.Call as Tile
use Rattle.tile.specs.Call.{Call, call_mark}
use Rattle.tile.specs.Plain.{InDomainCall}
use Rattle.runs.specs.Unbounded.{RunInDomain, standard_run}
use Rattle.runs.specs.MarkClaims.{Exactly, OnlyRange, Untouched, NeverMarks}
use Rattle.runs.specs.MarkClaims as Runs
use Rattle.squeeze.specs.Entry.{answer, picture_of, pyramid_of}
use Rattle.squeeze.specs.Marked.{with_mark, slice_after, mark_after, rebuild_mark, write_mark}

-- ---- a call with a mark beside the one without, whose answer is `unmarked`
-- with room for a number the answers and the slices agree; the mark's number is 0 or 1, and those past it stay
pub record SameCall (unmarked : ℕ) (mark : List ℕ) : Type 0 where
  pub answers : with_mark unmarked mark ≡ unmarked
  pub slices : (before after : List ℤ) → ((unmarked ≡ 0 → ⊥) → after ≡ before) → slice_after unmarked mark after before ≡ after
  pub told : (marked : Bool) → unmarked ≡ 0 → mark_after unmarked mark marked ≡ cond marked 1 0 ∷ drop 1 mark

-- a refusal has no mark: every slice stays, the mark's too
pub record Refused (unmarked : ℕ) (mark : List ℕ) : Type 0 where
  pub slices : (before after : List ℤ) → slice_after unmarked mark after before ≡ before
  pub mark_stays : (marked : Bool) → mark_after unmarked mark marked ≡ mark

-- ---- whole runs, of an accepted call
-- "'Inside' for a whole run must mean exactly that the picture is within the domain on which standard and Rust are equalled"
abbrev pub InsideRun : Type 0
InsideRun = (bytes : List ℕ) (pyramid picture work : List ℤ) → Samples pyramid → answer bytes pyramid picture work ≡ 0
    → Exactly (rebuild_mark bytes pyramid) (RunInDomain (steps_of bytes) (channels_of bytes) pyramid)

-- the use of it, by what `squeeze_rebuild_marked` leaves: if it answers 0 and the mark is 0, the picture is the standard's
abbrev pub UnmarkedIsStandard : Type 0
UnmarkedIsStandard = (bytes : List ℕ) (pyramid picture work : List ℤ) (mark : List ℕ) → Samples pyramid
    → with_mark (answer bytes pyramid picture work) mark ≡ 0
    → get_or (mark_after (answer bytes pyramid picture work) mark (rebuild_mark bytes pyramid)) 0 1 ≡ 0
    → slice_after (answer bytes pyramid picture work) mark (picture_of bytes pyramid picture work) picture
    ≡ standard_run (steps_of bytes) (channels_of bytes) pyramid

-- "The writer's mark equals the mark of rebuilding from what it writes."
abbrev pub WriterSame : Type 0
WriterSame = (bytes : List ℕ) (picture pyramid work : List ℤ) → Samples picture → answer bytes picture pyramid work ≡ 0
    → write_mark bytes picture ≡ rebuild_mark bytes (pyramid_of bytes picture pyramid work)

-- "a channel outside a step's range is neither read nor made in that step": a run without a step is never marked, and a channel that no step touches
-- never marks
pub record OnlyTouched : Type 0 where
  pub no_step : (bytes : List ℕ) (xs : List ℤ) → steps_of bytes ≡ [] → (rebuild_mark bytes xs ≡ false) × (write_mark bytes xs ≡ false)
  pub range : (s : Step) (cs : List Channel) → OnlyRange s cs
  pub untouched : (bytes : List ℕ) (k : ℕ) → k < length (channels_of bytes) → Untouched (steps_of bytes) (channels_of bytes) k → NeverMarks (steps_of bytes) (channels_of bytes) k

-- ---- a tile call without outer lines: unmarked exactly if what it reads and makes lies in the domain
abbrev pub InsideTile : Type 0
InsideTile = (c : Call) → Samples c.avg → Tile.answer c ≡ 0 → c.next ≡ [] → c.prev ≡ [] → Exactly (call_mark c) (InDomainCall c)

pub record Marks : Type 0 where
  pub same_call : (unmarked : ℕ) (mark : List ℕ) → 1 ≤ length mark → SameCall unmarked mark
  pub refused : (unmarked : ℕ) (mark : List ℕ) → (with_mark unmarked mark ≡ 0 → ⊥) → Refused unmarked mark
  pub inside_run : InsideRun
  pub unmarked_is_standard : UnmarkedIsStandard
  pub writer_same : WriterSame
  pub only_touched : OnlyTouched
  pub inside_tile : InsideTile
  -- 2 by 1, a picture of the plain range whose residual is 536870911; and a sample outside that no step touches
  pub witness : Runs.Witness
