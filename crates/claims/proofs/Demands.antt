-- The demands (specs/Demands.antt). Rests on the laws of whole runs, of plans and of tile calls: what is left is that an accepted call's slices
-- fill their lists, and that its steps are the accepted ones. Assumes nothing.
use mathlib.Core.Path.{◌≡◌, refl, sym, ap, ◌∙◌}
use mathlib.Core.Bool.{Bool, true, false, ◌&&◌, and-eq-true_iff}
use mathlib.Core.List.{List, [], ◌∷◌, ◌++◌}
use Prim.Native.Nat.{ℕ, ◌≤◌}
use native.Mathlib.Omega.{arith}
use lib.Dec.{eqb, leb}
use lib.IntN.{ℤ}
use lib.ListN.{length, take, replicate, length-replicate}
use lib.Seq.{length-take-le, take_all, take-append_seam}
use borrow.Author.Tests.{eqb-true, eq-eqb, ne_eqb, le-leb, lt-leb}
use Rattle.numbers.specs.Numbers.{refused_outside, refused_field}
use Rattle.channel.specs.declared.Channel.{Channel}
use Rattle.list.specs.declared.ChannelList.{ChannelList}
use Rattle.list.specs.declared.Step.{Step}
use Rattle.list.specs.Lists.{channels, stepped, total}
use Rattle.list.specs.Questions.{judge_step}
use Rattle.list.proofs.Asking.{passed}
use Rattle.list.proofs.Totals.{stepped_total}
use Rattle.line.specs.Forward.{Samples}
use Rattle.tile.proofs.Fitted.{refused_after}
use Rattle.tile.proofs.AsStandard.{tile_is_standard}
use Rattle.cuts.proofs.Together.{tiles_together}
use Rattle.cuts.proofs.Witness.{witness}
use Rattle.plan.specs.declared.Steps.{Steps}
use Rattle.plan.specs.Steps.{steps}
use Rattle.plan.specs.Version as Versions
use Rattle.plan.specs.Plans as Plans
use Rattle.plan.specs.Plans.{judge_plan, judge_steps, stepped_all, meant, rewritten}
use Rattle.plan.proofs.Runs.{none_refused, steps_total}
use Rattle.plan.proofs.Judged.{plan_answer, meant_judged, reached_back}
use Rattle.plan.proofs.AsStandard.{list_standard}
use Rattle.plan.proofs.DefaultStandard.{default_standard, standard_default, standard_sides, dots_standard, dots_ours}
use Rattle.record.specs.Reading as Reading
use Rattle.record.specs.Reading.{has_version_tag, answer_of}
use Rattle.record.specs.Records as Records
use Rattle.record.specs.Records.{read_answer, channels_of, steps_of, write_answer, written_of, written_bytes}
use Rattle.record.proofs.Readings.{steps_judged}
use Rattle.record.proofs.ReadWritten.{read_written}
use Rattle.record.proofs.WrittenRead.{written_read, one_record}
use Rattle.listing.specs.Listing as L
use Rattle.listing.specs.Text.{refused_word, numbered}
use Rattle.listing.specs.Listing.{listing, list_answer, text_after, size_after, judged_bytes, printed}
use Rattle.layout.specs.Layout as Layout
use Rattle.numbered.proofs.AsWritten as Numbered
use Rattle.numbered.proofs.ReadBack as NumbersBack
use Rattle.runs.specs.Runs.{layout}
use Rattle.runs.specs.Claim.{Fills}
use Rattle.runs.proofs.Taken.{by_taken}
use Rattle.runs.proofs.Whole.{squeezed_fills, squeezed_rebuilds, rebuilt_fills, rebuilt_squeezes, exactly_one}
use Rattle.runs.proofs.AsStandard.{run_standard}
use Rattle.squeeze.specs.GridRect as Rect
use Rattle.squeeze.specs.Entry.{fits, answer, picture_of, pyramid_of, work_of}
use Rattle.claims.specs.Demands.{field4097, RefusalKeeps, ListIsStandard, DefaultIsStandard, PictureIsStandard, ProgramRule, WriterGivesIt, WrittenRebuilds, RebuiltWrites, Demands}

-- ---- the layout: refused steps or not, the sample total stays; accepted steps reach the list that `stepped_all` says
layout_total : (ss : List Step) (cs : List Channel) → total (layout ss cs) ≡ total cs
layout_total [] cs = refl
layout_total (s ∷ ss) cs = by_taken s cs (λ t. rw t (layout_total ss (stepped s cs) ∙ stepped_total s cs)) (λ t. rw t (layout_total ss cs))

pub layout_reached : (ss : List Step) (cs : List Channel) → judge_steps ss cs ≡ 0 → layout ss cs ≡ stepped_all ss cs
layout_reached [] cs h = refl
layout_reached (s ∷ ss) cs h =
    let a = none_refused (judge_step s cs) (judge_steps ss (stepped s cs)) h in
    rw a.0 (layout_reached ss (stepped s cs) a.1)

-- ---- a call that is accepted
module _ (bytes : List ℕ) (read filled work : List ℤ) (h : answer bytes read filled work ≡ 0) where
  asked : (read_answer bytes ≡ 0) × (fits bytes read && (fits bytes filled && fits bytes work) ≡ true)
  unfolding answer
  asked =
      let a = none_refused (read_answer bytes) _ h in
      (a.0, (passed (fits bytes read && (fits bytes filled && fits bytes work)) _ _ a.1).0)

  pub read_long : length read ≡ total (channels_of bytes)
  read_long = eqb-true (length read) (total (channels_of bytes)) ((and-eq-true_iff (fits bytes read) (fits bytes filled && fits bytes work)).0 asked.1).0

  pub picture_fills : Samples read → Fills (channels_of bytes) read
  picture_fills s = record { long = read_long; samples = s }

  pub pyramid_fills : Samples read → Fills (layout (steps_of bytes) (channels_of bytes)) read
  pyramid_fills s = record { long = read_long ∙ sym (layout_total (steps_of bytes) (channels_of bytes)); samples = s }

-- slices of the record's length are accepted
accepts : (bytes : List ℕ) → read_answer bytes ≡ 0 → (read filled work : List ℤ)
    → length read ≡ total (channels_of bytes) → length filled ≡ total (channels_of bytes) → length work ≡ total (channels_of bytes)
    → answer bytes read filled work ≡ 0
unfolding answer
accepts bytes z read filled work r f w = rw (z, eq-eqb _ _ r, eq-eqb _ _ f, eq-eqb _ _ w)

-- ---- demand 1
run_keeps : (bytes : List ℕ) (read filled work : List ℤ) → (answer bytes read filled work ≡ 0 → ⊥)
    → (picture_of bytes read filled work ≡ filled) × (pyramid_of bytes read filled work ≡ filled) × (work_of bytes read filled work ≡ work)
unfolding picture_of pyramid_of work_of
run_keeps bytes read filled work h = let n = ne_eqb (answer bytes read filled work) 0 h in (rw n, rw n, rw n)

rectangle_keeps : (c : Channel) (output stored group gx gy : ℕ) (numbers : List ℕ) → (Rect.answer c output stored group gx gy numbers ≡ 0 → ⊥)
    → Rect.numbers_after c output stored group gx gy numbers ≡ numbers
unfolding Rect.numbers_after
rectangle_keeps c output stored group gx gy numbers h = rw (ne_eqb (Rect.answer c output stored group gx gy numbers) 0 h)

listing_keeps : (bytes text size : List ℕ) → (list_answer bytes text size ≡ 0 → ⊥) → (text_after bytes text size ≡ text) × (size_after bytes text size ≡ size)
unfolding L.text_after L.size_after
listing_keeps bytes text size h = let n = ne_eqb (list_answer bytes text size) 0 h in (rw n, rw n)

layout_keeps : (bytes : List ℕ) (out : Layout.Rows) → (Layout.answer bytes out ≡ 0 → ⊥) → Layout.after bytes out ≡ out
unfolding Layout.after
layout_keeps bytes out h = rw (ne_eqb (Layout.answer bytes out) 0 h)

writer_keeps : (version : ℕ) (l : ChannelList) (s : Steps) (out : List ℕ) → ((written_of version l s out).answer ≡ 0 → ⊥) → written_bytes version l s out ≡ out
unfolding Records.written_of Records.written_bytes
writer_keeps version l s out = by (eqb (write_answer version l s out) 0) refl
  where
    by : (b : Bool) → eqb (write_answer version l s out) 0 ≡ b → ((written_of version l s out).answer ≡ 0 → ⊥) → written_bytes version l s out ≡ out
    by true e h = absurd (h (rw e))
    by false e h = rw e

refusal_keeps : RefusalKeeps
refusal_keeps =
    record {
      runs = run_keeps;
      tile = refused_after;
      rectangle = rectangle_keeps;
      listing = listing_keeps;
      layout = layout_keeps;
      from_numbers = Numbered.refusal_keeps;
      record_writer = writer_keeps;
    }

-- ---- a plan that is accepted
module _ (version : ℕ) (l : ChannelList) (s : Steps) (z : (rewritten version l s).answer ≡ 0) where
  judged : judge_plan version l s ≡ 0
  judged = sym (plan_answer version l s (rewritten version l s) refl) ∙ z

  reached : channels (rewritten version l s).list ≡ stepped_all (meant version (steps s) (channels l)) (channels l)
  reached = reached_back version l s judged (rewritten version l s) refl

  reached_total : total (channels (rewritten version l s).list) ≡ total (channels l)
  reached_total = ap total reached ∙ steps_total (meant version (steps s) (channels l)) (channels l)

-- ---- demand 2
list_is_standard : ListIsStandard
list_is_standard =
    record {
      rewrites = λ version l s z. rw (reached version l s z) (list_standard (meant version (steps s) (channels l)) (channels l) (meant_judged version l s (judged version l s z)));
      listed = λ bytes z. list_standard (steps_of bytes) (channels_of bytes) (steps_judged bytes z);
      laid_out = λ bytes z. layout_reached (steps_of bytes) (channels_of bytes) (steps_judged bytes z);
    }

default_is_standard : DefaultIsStandard
unfolding Versions.rule_of Plans.meant
default_is_standard =
    record { ours = default_standard; only = standard_default; nowhere_else = standard_sides; smallest = (dots_standard, dots_ours) }

picture_is_standard : PictureIsStandard
unfolding picture_of
picture_is_standard bytes pyramid picture work s h d =
    rw h (run_standard (steps_of bytes) (channels_of bytes) pyramid (pyramid_fills bytes pyramid picture work h s) d)

-- ---- the program
program_short : (input : List ℕ) → length input ≤ judged_bytes → printed input ≡ listing input
unfolding L.printed
program_short input h = ap listing (take_all judged_bytes input h)

program_long : (input more : List ℕ) → length input ≡ judged_bytes → printed (input ++ more) ≡ listing input
unfolding L.printed
program_long input more h = ap listing (ap (λ n. take n (input ++ more)) (sym h) ∙ take-append_seam input more)

-- a record whose first field is refused, and is no version
first_refused : (x : ℕ) (xs : List ℕ) (a : ℕ) → has_version_tag (x ∷ xs) ≡ false → answer_of (x ∷ xs) [] [] ≡ a → (a ≡ 0 → ⊥) → read_answer (x ∷ xs) ≡ a
unfolding Reading.fields_of Reading.form_of Records.read_answer
first_refused x xs a t h n = rw (t, ne_eqb (length (x ∷ xs)) 0 (λ e. absurd (omega arith)), h, ne_eqb a 0 n, ne_eqb a 0 n)

refused_listing : (bytes : List ℕ) (a : ℕ) → read_answer bytes ≡ a → (a ≡ 0 → ⊥) → listing bytes ≡ numbered refused_word a
unfolding L.listing
refused_listing bytes a h n = rw (h, ne_eqb a 0 n)

-- one of 01 FE 0F (hex) states 4,094 bytes: it runs past what is left, or has not the length of a channel
module _ (rest : List ℕ) where
  long : leb 3 (length (1 ∷ 254 ∷ 15 ∷ rest)) ≡ true
  long = le-leb 3 (length (1 ∷ 254 ∷ 15 ∷ rest)) (omega arith)

  first_outside : leb 4097 (length (1 ∷ 254 ∷ 15 ∷ rest)) ≡ false → read_answer (1 ∷ 254 ∷ 15 ∷ rest) ≡ refused_outside
  unfolding Reading.field_inside Reading.judge_field
  first_outside h = first_refused 1 (254 ∷ 15 ∷ rest) refused_outside refl (rw (long, h)) (λ e. absurd (omega arith))

  first_inside : leb 4097 (length (1 ∷ 254 ∷ 15 ∷ rest)) ≡ true → read_answer (1 ∷ 254 ∷ 15 ∷ rest) ≡ refused_field
  unfolding Reading.field_inside Reading.has_head Reading.is_channel Reading.is_step Reading.judge_field
  first_inside h = first_refused 1 (254 ∷ 15 ∷ rest) refused_field refl (rw (long, h)) (λ e. absurd (omega arith))

-- of 4,097 bytes the first 4,096 are judged
program_cut : (rest : List ℕ) → length rest ≡ 4094
    → (printed (1 ∷ 254 ∷ 15 ∷ rest) ≡ numbered refused_word refused_outside) × (listing (1 ∷ 254 ∷ 15 ∷ rest) ≡ numbered refused_word refused_field)
unfolding L.printed
program_cut rest h =
    let few = take 4093 rest in
    let short = length-take-le 4093 rest (omega arith) in
    let out = first_outside few (lt-leb 4097 (length (1 ∷ 254 ∷ 15 ∷ few)) (omega arith)) in
    let in_all = first_inside rest (le-leb 4097 (length (1 ∷ 254 ∷ 15 ∷ rest)) (omega arith)) in (
      refused_listing (1 ∷ 254 ∷ 15 ∷ few) refused_outside out (λ e. absurd (omega arith)),
      refused_listing (1 ∷ 254 ∷ 15 ∷ rest) refused_field in_all (λ e. absurd (omega arith)),
    )

field_cut : (printed field4097 ≡ numbered refused_word refused_outside) × (listing field4097 ≡ numbered refused_word refused_field)
field_cut = program_cut (replicate 4094 0) (length-replicate {A = ℕ} 4094 0)

program_rule : ProgramRule
program_rule = record { short = program_short; long = program_long; cut = field_cut.0; uncut = field_cut.1 }

-- ---- demand 3
writer_gives_it : WriterGivesIt
unfolding pyramid_of
writer_gives_it bytes picture pyramid work s h one =
    let f = picture_fills bytes picture pyramid work h s in
    let ss = steps_of bytes in
    let cs = channels_of bytes in
    rw h (one.only _ (squeezed_fills ss cs picture f) (squeezed_rebuilds ss cs picture f))

written_rebuilds : WrittenRebuilds
unfolding picture_of pyramid_of
written_rebuilds bytes picture pyramid work picture₂ work₂ s a p w =
    let ss = steps_of bytes in
    let cs = channels_of bytes in
    let f = picture_fills bytes picture pyramid work a s in
    let long : length (pyramid_of bytes picture pyramid work) ≡ total cs = rw a ((squeezed_fills ss cs picture f).long ∙ layout_total ss cs) in
    let b = accepts bytes (asked bytes picture pyramid work a).0 (pyramid_of bytes picture pyramid work) picture₂ work₂ long (p ∙ f.long) (w ∙ f.long) in
    (b, rw (b, a) (squeezed_rebuilds ss cs picture f))

rebuilt_writes : RebuiltWrites
unfolding picture_of pyramid_of
rebuilt_writes bytes pyramid picture work pyramid₂ work₂ s a p w =
    let ss = steps_of bytes in
    let cs = channels_of bytes in
    let f = pyramid_fills bytes pyramid picture work a s in
    let n = read_long bytes pyramid picture work a in
    let long : length (picture_of bytes pyramid picture work) ≡ total cs = rw a (rebuilt_fills ss cs pyramid f).long in
    let b = accepts bytes (asked bytes pyramid picture work a).0 (picture_of bytes pyramid picture work) pyramid₂ work₂ long (p ∙ n) (w ∙ n) in
    (b, rw (b, a) (rebuilt_squeezes ss cs pyramid f))

-- ---- all of them
pub demands : Demands
demands =
    record {
      refusal_keeps = refusal_keeps;
      list_is_standard = list_is_standard;
      default_is_standard = default_is_standard;
      picture_is_standard = picture_is_standard;
      tile_is_standard = tile_is_standard;
      total_stays = record { laid_out = layout_total; rewrites = reached_total };
      record_undone =
          record {
            read_written = read_written;
            written_read = written_read;
            one_record = one_record;
            from_numbers = Numbered.as_written;
            numbers_back = NumbersBack.read_back;
          };
      program_rule = program_rule;
      one_pyramid = exactly_one;
      writer_gives_it = writer_gives_it;
      written_rebuilds = written_rebuilds;
      rebuilt_writes = rebuilt_writes;
      tiles_together = tiles_together;
      tiles_witness = witness;
    }
