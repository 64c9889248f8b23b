-- The wrong programs (specs/Wrong.antt) differ from the contracts on a picture 17 by 1 under the default plan, which takes two steps; the wrong
-- counts there, on document 01's picture 20 by 9, on a list with a palette, or on a picture of version 2 with a step of its own. What either
-- side gives is computed. Assumes nothing.
use mathlib.Core.Path.{◌≡◌, refl, ap, sym, ◌∙◌}
use mathlib.Core.Bool.{true, false, cond}
use mathlib.Core.Logic.{◌⊎◌, inl, inr}
use mathlib.Core.List.{List, [], ◌∷◌}
use Prim.Native.Nat.{ℕ, ◌-◌}
use native.Mathlib.Omega.{arith}
use lib.IntN.{ℤ, pos, negsuc}
use lib.Dec.{eqb}
use lib.ListN.{length, get_or, replicate}
use Rattle.arith32.specs.Arith as Arith
use Rattle.tendency.specs.Tendency as Tend
use Rattle.pair.specs.Pair as Pair
use Rattle.line.specs.Line as Line
use Rattle.line.specs.Uncut as Uncut
use Rattle.line.specs.Forward as Forward
use Rattle.channel.specs.declared.Channel.{Channel}
use Rattle.channel.specs.Channel as C
use Rattle.list.specs.declared.Step.{Step}
use Rattle.list.specs.Lists as Lists
use Rattle.list.specs.Questions as Questions
use Rattle.plan.specs.Steps as Steps
use Rattle.plan.specs.Version as Versions
use Rattle.plan.specs.Version.{standard_version, house_version, standard_side, house_side}
use Rattle.plan.specs.Default as Default
use Rattle.plan.specs.Coarse as Count
use Rattle.plan.specs.Coarse.{is_small, is_coarse, coarse_count}
use Rattle.plan.specs.Plans as Plans
use Rattle.record.specs.Reading as Reading
use Rattle.record.specs.Records as Records
use Rattle.record.specs.Records.{read_answer, reached_of}
use Rattle.record.specs.Bytes.{record_of}
use Rattle.record.proofs.RecordOf.{record_form, record_accepted, record_version, record_reached}
use Rattle.buffer.specs.Buffer as Buffer
use Rattle.runs.specs.Runs as Runs
use Rattle.squeeze.specs.Entry as Entry
use Rattle.squeeze.specs.Entry.{answer, picture_of, pyramid_of}
use Rattle.claims.specs.Table.{record20by9, channel}
use Rattle.claims.specs.Coarse.{side_of, coarse_of, palette}
use Rattle.claims.specs.Wrong.{Program, Refuted, copies, zeroes, leaves, first_only, first_written, last_only, Count, CountRefuted, every_channel, before_the_plan, among, by_side, by_default_only, Wrong}

-- the record, the samples that are read, and slices of zeros
bytes : List ℕ
bytes = 1 ∷ 6 ∷ 0 ∷ 17 ∷ 0 ∷ 1 ∷ 0 ∷ 0 ∷ 0 ∷ []

read : List ℤ
read = pos 10 ∷ pos 10 ∷ pos 10 ∷ pos 10 ∷ pos 10 ∷ pos 1 ∷ pos 0 ∷ pos 0 ∷ pos 0 ∷ pos 2 ∷ replicate 7 (pos 0)

none : List ℤ
none = replicate 17 (pos 0)

-- sample i that a program leaves in the slice that it fills
sample_of : Program → ℕ → ℤ
sample_of f i = get_or (f bytes read none none) i (pos 0)

-- a list with a palette: 300 by 1, a channel 9 by 8 and one 1 by 1, which is squeezed in place
seats : List Channel
seats = palette 300 1 ∷ channel 9 8 ∷ channel 1 1 ∷ []

seat_step : List Step
seat_step = Default.step false true 2 1 ∷ []

seats_left : List Channel
seats_left = Plans.stepped_all (Plans.meant standard_version seat_step seats) seats

-- version 2: 20 by 20 with a step of its own, which leaves 10 by 20 twice
screens : List Channel
screens = channel 20 20 ∷ []

screen_step : List Step
screen_step = Default.step true true 0 1 ∷ []

screens_left : List Channel
screens_left = Plans.stepped_all (Plans.meant house_version screen_step screens) screens

record Computed : Type 0 where
  pub accepted : answer bytes read none none ≡ 0
  pub picture_0 : sample_of picture_of 0 ≡ pos 11
  pub picture_2 : sample_of picture_of 2 ≡ pos 9
  pub pyramid_1 : sample_of pyramid_of 1 ≡ pos 3
  pub copies_0 : sample_of copies 0 ≡ pos 10
  pub copies_1 : sample_of copies 1 ≡ pos 10
  pub zeroes_0 : sample_of zeroes 0 ≡ pos 0
  pub zeroes_1 : sample_of zeroes 1 ≡ pos 0
  pub leaves_0 : sample_of leaves 0 ≡ pos 0
  pub leaves_1 : sample_of leaves 1 ≡ pos 0
  pub first_2 : sample_of first_only 2 ≡ pos 10
  pub last_0 : sample_of last_only 0 ≡ pos 10
  pub written_1 : sample_of first_written 1 ≡ pos 10
  pub read_17 : read_answer bytes ≡ 0
  pub read_20 : read_answer record20by9 ≡ 0
  pub coarse_17 : coarse_of bytes ≡ 3
  pub coarse_20 : coarse_of record20by9 ≡ 2
  pub every_20 : every_channel record20by9 ≡ 4
  pub before_20 : before_the_plan record20by9 ≡ 0
  pub seats_judged : Plans.judge_plan standard_version (Lists.packed seats) (Steps.packed seat_step) ≡ 0
  pub coarse_seats : coarse_count standard_side seats_left ≡ 1
  pub small_seats : Default.leading (is_small standard_side) seats_left ≡ 0
  pub left_seats : coarse_count standard_side seats_left - Default.meta_count seats_left ≡ 0
  pub on_seats : among (is_coarse standard_side) seats_left ≡ 3
  pub house_20 : by_side house_side record20by9 ≡ 4
  pub screens_judged : Plans.judge_plan house_version (Lists.packed screens) (Steps.packed screen_step) ≡ 0
  pub screens_side : (Versions.rule_of house_version).stop ≡ house_side
  pub coarse_screens : coarse_count house_side screens_left ≡ 2
  pub eight_screens : coarse_count standard_side screens_left ≡ 0

computed : Computed
unfolding
    bytes seats seat_step seats_left screens screen_step screens_left read none sample_of Buffer.zeros
    Arith.residue Arith.wrap Arith.wrapped_abs Arith.lowest_bit
    Tend.opposite Tend.slope Tend.clamp_before Tend.clamp_after Tend.negated_if Tend.monotone Tend.tendency
    Pair.difference Pair.first_of Pair.second_of Pair.first Pair.second Pair.average Pair.residual_of Pair.residual
    Line.next_average Line.before Line.sample Uncut.line_of Uncut.output_at Uncut.uncut
    Forward.average_at Forward.next_at Forward.prev_at Forward.residual_at Forward.averages_of Forward.residuals_of
    C.is_meta C.shifts_allowed C.sides_fit C.is_allowed C.samples
    Lists.channels Lists.holding Lists.raised Lists.average Lists.residual Lists.stepped
    Questions.count_allowed Questions.channels_allowed Questions.total_allowed Questions.range_allowed Questions.kinds_alike Questions.place_allowed Questions.has_sides Questions.shifts_kept Questions.room_left Questions.judge_step
    Steps.flags_of Steps.flags_allowed Steps.steps Steps.all_flags Steps.packed
    Versions.is_version Versions.rule_of Default.meta_count Default.chroma Default.rounds Default.all_channels Default.default_steps Count.is_coarse Count.coarse_count
    Plans.has_other Plans.meant Plans.meant_allowed Plans.judge_form Plans.judge_meant Plans.judge_plan
    Reading.field_channel Reading.field_inside Reading.has_head Reading.is_channel Reading.is_step Reading.channel_allowed Reading.tag_allowed Reading.judge_channel_field Reading.judge_step_field Reading.judge_field Reading.fields_of Reading.judge_version_field Reading.form_of
    Records.read_answer
    Runs.channel_back Runs.back_parts Runs.step_back Runs.channel_averages Runs.channel_residuals Runs.forward_parts Runs.step_forward
    Entry.answer Entry.picture_of Entry.pyramid_of
computed =
    record {
      accepted = refl;
      picture_0 = refl;
      picture_2 = refl;
      pyramid_1 = refl;
      copies_0 = refl;
      copies_1 = refl;
      zeroes_0 = refl;
      zeroes_1 = refl;
      leaves_0 = refl;
      leaves_1 = refl;
      first_2 = refl;
      last_0 = refl;
      written_1 = refl;
      read_17 = refl;
      read_20 = refl;
      coarse_17 = refl;
      coarse_20 = refl;
      every_20 = refl;
      before_20 = refl;
      seats_judged = refl;
      coarse_seats = refl;
      small_seats = refl;
      left_seats = refl;
      on_seats = refl;
      house_20 = refl;
      screens_judged = refl;
      screens_side = refl;
      coarse_screens = refl;
      eight_screens = refl;
    }

size : ℤ → ℕ
size (pos n) = n
size (negsuc n) = 0

-- a program that leaves another number at i than the contract says
differs : (contract f : Program) (i m n : ℕ) → sample_of f i ≡ pos m → sample_of contract i ≡ pos n → (m ≡ n → ⊥) → Refuted contract f
unfolding size sample_of
differs contract f i m n ef ec h all =
    h (ap size (sym ef ∙ ap (λ (xs : List ℤ). get_or xs i (pos 0)) (all bytes read none none computed.accepted) ∙ ec))

-- a count that gives another number for a record than the definition
miscounts : (f : Count) (xs : List ℕ) (m n : ℕ) → read_answer xs ≡ 0 → f xs ≡ m → coarse_of xs ≡ n → (m ≡ n → ⊥) → CountRefuted f
miscounts f xs m n z ef ec h all = h (sym ef ∙ all xs z ∙ ec)

-- counts of the list with a palette, whose record is read as it was written
seats_reached : reached_of (record_of standard_version seats seat_step) ≡ seats_left
unfolding seats_left
seats_reached = record_reached standard_version seats seat_step computed.seats_judged

seats_side : side_of (record_of standard_version seats seat_step) ≡ standard_side
unfolding Versions.rule_of
seats_side = ap (λ v. (Versions.rule_of v).stop) (record_version standard_version seats seat_step computed.seats_judged)

miscounts_seats : (count : ℕ → List Channel → ℕ) (n : ℕ) → count standard_side seats_left ≡ n → (n ≡ 1 → ⊥) → CountRefuted (λ xs. count (side_of xs) (reached_of xs))
miscounts_seats count n e h =
    miscounts (λ xs. count (side_of xs) (reached_of xs)) (record_of standard_version seats seat_step) n 1
    (record_accepted standard_version seats seat_step computed.seats_judged)
    ((λ i. count (seats_side i) (seats_reached i)) ∙ e)
    ((λ i. coarse_count (seats_side i) (seats_reached i)) ∙ computed.coarse_seats)
    h

-- counts of version 2's picture by side 8
screens_reached : reached_of (record_of house_version screens screen_step) ≡ screens_left
unfolding screens_left
screens_reached = record_reached house_version screens screen_step computed.screens_judged

screens_count : coarse_of (record_of house_version screens screen_step) ≡ 2
screens_count =
    (λ i. coarse_count (Versions.rule_of (record_version house_version screens screen_step computed.screens_judged i)).stop (screens_reached i))
    ∙ rw computed.screens_side computed.coarse_screens

miscounts_screens : (f : Count) → f (record_of house_version screens screen_step) ≡ 0 → CountRefuted f
miscounts_screens f e =
    miscounts f (record_of house_version screens screen_step) 0 2 (record_accepted house_version screens screen_step computed.screens_judged) e screens_count
    (λ e. absurd (omega arith))

one_side : (side : ℕ) → (side ≡ standard_side) ⊎ (side ≡ house_side) → CountRefuted (by_side side)
one_side side (inl e) = miscounts_screens (by_side side) (rw (e, screens_reached) computed.eight_screens)
one_side side (inr e) =
    miscounts (by_side side) record20by9 4 2 computed.read_20 (rw e computed.house_20) computed.coarse_20 (λ e. absurd (omega arith))

default_only : CountRefuted by_default_only
unfolding screen_step
default_only =
    let own = ap (λ (f : Reading.Form). eqb (length f.steps) 0) (record_form house_version screens screen_step computed.screens_judged) in
    miscounts_screens by_default_only
    ((λ i. coarse_count (cond (own i) (side_of (record_of house_version screens screen_step)) standard_side) (screens_reached i)) ∙ computed.eight_screens)

-- one number can't be 3 and 2
made_up : (n : ℕ) → CountRefuted (λ xs. n)
made_up n all =
    let a = all bytes computed.read_17 ∙ computed.coarse_17 in
    let b = all record20by9 computed.read_20 ∙ computed.coarse_20 in
    absurd (omega arith)

pub wrong : Wrong
wrong =
    record {
      picture_copied = differs picture_of copies 0 10 11 computed.copies_0 computed.picture_0 (λ e. absurd (omega arith));
      picture_zeroed = differs picture_of zeroes 0 0 11 computed.zeroes_0 computed.picture_0 (λ e. absurd (omega arith));
      picture_left = differs picture_of leaves 0 0 11 computed.leaves_0 computed.picture_0 (λ e. absurd (omega arith));
      picture_first_only = differs picture_of first_only 2 10 9 computed.first_2 computed.picture_2 (λ e. absurd (omega arith));
      picture_last_only = differs picture_of last_only 0 10 11 computed.last_0 computed.picture_0 (λ e. absurd (omega arith));
      pyramid_copied = differs pyramid_of copies 1 10 3 computed.copies_1 computed.pyramid_1 (λ e. absurd (omega arith));
      pyramid_zeroed = differs pyramid_of zeroes 1 0 3 computed.zeroes_1 computed.pyramid_1 (λ e. absurd (omega arith));
      pyramid_left = differs pyramid_of leaves 1 0 3 computed.leaves_1 computed.pyramid_1 (λ e. absurd (omega arith));
      pyramid_first_only = differs pyramid_of first_written 1 10 3 computed.written_1 computed.pyramid_1 (λ e. absurd (omega arith));
      all_refused = λ all. all bytes read none none computed.accepted;
      count_made_up = made_up;
      count_of_all = miscounts every_channel record20by9 4 2 computed.read_20 computed.every_20 computed.coarse_20 (λ e. absurd (omega arith));
      count_before_plan = miscounts before_the_plan record20by9 0 2 computed.read_20 computed.before_20 computed.coarse_20 (λ e. absurd (omega arith));
      count_small_only = miscounts_seats (λ side. Default.leading (is_small side)) 0 computed.small_seats (λ e. absurd (omega arith));
      count_metas_left_out = miscounts_seats (λ side cs. coarse_count side cs - Default.meta_count cs) 0 computed.left_seats (λ e. absurd (omega arith));
      count_counted_on = miscounts_seats (λ side. among (is_coarse side)) 3 computed.on_seats (λ e. absurd (omega arith));
      count_by_one_side = one_side;
      count_by_default_only = default_only;
    }
