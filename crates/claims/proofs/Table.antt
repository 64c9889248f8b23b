-- Document 01's proved table (specs/Table.antt), by computation. Assumes nothing.
use mathlib.Core.Path.{refl}
use Rattle.arith32.specs.Arith as Arith
use Rattle.tendency.specs.Tendency as Tend
use Rattle.pair.specs.Pair as Pair
use Rattle.line.specs.Line as Line
use Rattle.line.specs.Uncut as Uncut
use Rattle.channel.specs.Channel as Channel
use Rattle.rect.specs.Rect as Rect
use Rattle.list.specs.Lists as Lists
use Rattle.list.specs.Questions as Questions
use Rattle.plan.specs.Steps as Steps
use Rattle.plan.specs.Version as Versions
use Rattle.plan.specs.Default as Default
use Rattle.plan.specs.Coarse as Coarse
use Rattle.plan.specs.Plans as Plans
use Rattle.record.specs.Reading as Reading
use Rattle.record.specs.Records as Records
use Rattle.listing.specs.Text as Text
use Rattle.listing.specs.Listing as Listing
use Rattle.claims.specs.Table.{Table}

pub table : Table
unfolding
    Arith.residue Arith.wrap Arith.wrapped_abs Arith.lowest_bit
    Tend.opposite Tend.slope Tend.clamp_before Tend.clamp_after Tend.negated_if Tend.monotone Tend.tendency
    Pair.difference Pair.first_of Pair.second_of Pair.first Pair.second
    Line.next_average Line.before Line.sample Uncut.line_of Uncut.output_at Uncut.uncut
    Channel.is_meta Channel.shifts_allowed Channel.sides_fit Channel.is_allowed Channel.samples
    Rect.group_allowed Rect.tile Rect.tile_unless_meta Rect.by_kinds Rect.rect_of
    Lists.channels Lists.holding Lists.raised Lists.average Lists.residual Lists.stepped
    Questions.count_allowed Questions.channels_allowed Questions.total_allowed Questions.range_allowed Questions.kinds_alike Questions.place_allowed Questions.has_sides Questions.shifts_kept Questions.room_left Questions.judge_step
    Steps.flags_of Steps.flags_allowed Steps.steps Steps.all_flags Steps.packed
    Versions.is_version Versions.rule_of Default.meta_count Default.chroma Default.rounds Default.all_channels Default.default_steps Coarse.is_coarse Coarse.coarse_count
    Plans.has_other Plans.meant Plans.meant_allowed Plans.judge_form Plans.judge_meant Plans.judge_plan
    Reading.field_channel Reading.field_inside Reading.has_head Reading.is_channel Reading.is_step Reading.channel_allowed Reading.tag_allowed Reading.judge_channel_field Reading.judge_step_field Reading.judge_field Reading.fields_of Reading.judge_version_field Reading.form_of
    Records.read_answer
    Text.decimal Text.step_line Text.channel_line
    Listing.plan_text Listing.listing
table = (refl, refl, refl, refl, refl, refl, refl, refl, (refl, refl), refl, refl, refl, refl, refl, refl)
