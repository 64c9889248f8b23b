-- A picture of the plain range whose pyramid leaves it, and a channel that a step leaves alone (specs/MarkClaims.antt), by computation. Assumes nothing.
use mathlib.Core.Path.{refl}
use mathlib.Core.Logic.{inr}
use native.Mathlib.Omega.{arith}
use Rattle.range.specs.Range as Range
use Rattle.arith32.specs.Arith as Arith
use Rattle.tendency.specs.Tendency as Tend
use Rattle.pair.specs.Pair as Pair
use Rattle.pair.specs.Marks as Pairs
use Rattle.channel.specs.Channel as Channel
use Rattle.list.specs.Lists as Lists
use Rattle.list.specs.Questions as Questions
use Rattle.line.specs.Line as Line
use Rattle.line.specs.Uncut as Uncut
use Rattle.line.specs.Forward as Forward
use Rattle.line.specs.Marks as Lines
use Rattle.runs.specs.Runs as Runs
use Rattle.runs.specs.Marks as Marks
use Rattle.runs.specs.MarkClaims.{Witness}

pub witness : Witness
unfolding
    Range.outside Arith.residue Arith.wrap Arith.wrapped_abs Arith.lowest_bit
    Tend.opposite Tend.slope Tend.clamp_before Tend.clamp_after Tend.negated_if Tend.monotone Tend.tendency
    Pair.difference Pair.first_of Pair.second_of Pair.first Pair.second Pair.average Pair.residual_of Pair.residual
    Pairs.any_outside Pairs.pair_marked Pairs.written_marked
    Channel.is_meta Channel.samples Lists.raised Lists.average Lists.residual Lists.stepped
    Questions.range_allowed Questions.kinds_alike Questions.place_allowed Questions.has_sides Questions.shifts_kept Questions.room_left Questions.judge_step
    Line.next_average Line.before Line.sample Uncut.line_of Uncut.output_at Uncut.uncut
    Forward.average_at Forward.next_at Forward.prev_at Forward.residual_at Forward.averages_of Forward.residuals_of
    Lines.pair_at_marked Lines.copied_marked Lines.line_marked Lines.squeeze_marked Lines.written_at_marked Lines.written_line_marked Lines.lines_marked
    Runs.channel_back Runs.channel_averages Runs.channel_residuals Runs.back_parts Runs.forward_parts Runs.step_back Runs.step_forward
    Marks.channel_marked Marks.step_marked Marks.channel_written_marked Marks.step_written_marked
witness =
    record {
      inside = refl;
      pyramid = refl;
      picture = refl;
      back = refl;
      forward = refl;
      untouched = (inr (omega arith), tt);
      outside = refl;
      back_beside = refl;
      forward_beside = refl;
    }
