-- The claims of versions (specs/House.antt): by the laws of crates before, plan and record, and the rows by computation. Assumes nothing.
use mathlib.Core.Path.{◌≡◌, refl, sym, ap, ◌∙◌}
use mathlib.Core.Bool.{Bool, true, false, cond, ◌&&◌, and-false, and-eq-true_iff}
use mathlib.Core.List.{List, [], ◌∷◌, ◌++◌}
use Prim.Native.Nat.{ℕ, zero, suc, ◌≤◌}
use native.Mathlib.Omega.{arith}
use lib.Dec.{eqb, leb}
use lib.IntN.{ℤ}
use lib.ListN.{length, drop}
use borrow.Author.Tests.{eqb-true, eqb-false, ne_eqb}
use Rattle.numbers.specs.Numbers.{refused_outside, refused_field, refused_count, refused_form}
use Rattle.channel.specs.declared.Channel.{Channel}
use Rattle.channel.specs.Channel as Channel
use Rattle.channel.specs.Channel.{is_meta}
use Rattle.list.specs.declared.ChannelList.{ChannelList}
use Rattle.list.specs.declared.Step.{Step}
use Rattle.list.specs.Tables.{all}
use Rattle.list.specs.Lists as Lists
use Rattle.list.specs.Lists.{max_steps, channels}
use Rattle.list.specs.Questions as Questions
use Rattle.list.specs.Questions.{count_allowed, channels_allowed}
use Rattle.list.proofs.Asking.{passed, none_refused}
use Rattle.plan.specs.declared.Steps.{Steps}
use Rattle.plan.specs.Version as Versions
use Rattle.plan.specs.Version.{standard_version, house_version, house_rule, is_version, rule_of}
use Rattle.plan.specs.Steps as Steps
use Rattle.plan.specs.Steps.{steps, all_flags, flags_allowed}
use Rattle.plan.specs.Default as Default
use Rattle.plan.specs.Default.{default_steps}
use Rattle.plan.specs.Coarse as Count
use Rattle.plan.specs.Plans as Plans
use Rattle.plan.specs.Plans.{meant, judge_form, judge_plan, judge_meaning, rewritten, planned, stepped_all}
use Rattle.plan.specs.DefaultLaws.{FirstLargest}
use Rattle.plan.proofs.Turns.{by_test, stops}
use Rattle.plan.proofs.Judged.{plan_answer}
use Rattle.plan.proofs.Answers.{meaning_answer}
use Rattle.plan.proofs.Preview.{default_laws}
use Rattle.record.specs.Bytes as Bytes
use Rattle.record.specs.Bytes.{version_tag, version_length, version_size, head_length, record_of}
use Rattle.record.specs.Reading as Reading
use Rattle.record.specs.Reading.{Form, byte_at, tag_of, length_of, field_size, field_inside, has_head, is_channel, is_step, judge_field, answer_of, read_fields, fields_of, has_version_tag, judge_version_field, form_of}
use Rattle.record.specs.Records as Records
use Rattle.record.specs.Records.{read_answer, version_of, channels_of, steps_of, written_of}
use Rattle.record.proofs.WrittenRead.{fields_version}
use Rattle.record.proofs.RecordOf.{record_form, record_accepted, record_version, record_reached}
use Rattle.numbered.specs.Numbered as Numbered
use Rattle.numbered.specs.Numbered.{channel_numbers, step_numbers, groups, flags_of, judge_numbers}
use Rattle.numbered.proofs.Outcomes.{written_answer}
use Rattle.listing.specs.Text.{coarse_word, numbered}
use Rattle.listing.specs.Listing.{listing}
use Rattle.rebuild.specs.Rebuild as Rebuild
use Rattle.write.specs.Write as Write
use Rattle.squeeze.specs.Entry as Entry
use Rattle.squeeze.specs.Entry.{answer}
use Rattle.before.specs.Laws as Before
use Rattle.before.specs.Laws.{no_tag_in, no_tag}
use Rattle.before.proofs.Unversioned.{read_unversioned, written_unversioned}
use Rattle.claims.specs.Table.{channel}
use Rattle.claims.specs.Coarse.{lines_before, coarse_of, palette}
use Rattle.claims.specs.House.{three, across, Plan, after_version, counted, House}
use Rattle.claims.proofs.Coarse.{last_line, counts}

-- ---- the plan
preview : (bytes : List ℕ) → read_answer bytes ≡ 0 → (form_of bytes).steps ≡ [] → FirstLargest (channels_of bytes) → length (channels_of bytes) ≤ coarse_of bytes
unfolding Plans.meant
preview bytes z none largest = rw none ((default_laws (rule_of (version_of bytes)) (channels_of bytes)).preview_coarse (stops (version_of bytes)) largest)

own_listing : (version : ℕ) (s : Step) (ss : List Step) (cs : List Channel) → judge_plan version (Lists.packed cs) (Steps.packed (s ∷ ss)) ≡ 0
    → listing (record_of version cs (s ∷ ss))
    ≡ lines_before (s ∷ ss) (stepped_all (s ∷ ss) cs) ++ numbered coarse_word (Count.coarse_count (rule_of version).stop (stepped_all (s ∷ ss) cs))
unfolding Plans.meant
own_listing version s ss cs ok =
    let reached = record_reached version cs (s ∷ ss) ok in
    let known = record_version version cs (s ∷ ss) ok in
    let own : steps_of (record_of version cs (s ∷ ss)) ≡ s ∷ ss = ap (λ (f : Form). meant f.version f.steps f.channels) (record_form version cs (s ∷ ss) ok) in
    last_line (record_of version cs (s ∷ ss)) (record_accepted version cs (s ∷ ss) ok)
    ∙ (λ i. lines_before (own i) (reached i) ++ numbered coarse_word (Count.coarse_count (rule_of (known i)).stop (reached i)))

three_largest : FirstLargest (three 33)
unfolding Channel.is_meta Default.meta_count
three_largest zero l u = (omega arith, omega arith)
three_largest (suc zero) l u = (omega arith, omega arith)
three_largest (suc (suc zero)) l u = (omega arith, omega arith)
three_largest (suc (suc (suc k))) l u = absurd (omega arith)

plan : Plan
unfolding Versions.rule_of Plans.meant
plan =
    record {
      house = λ cs. (default_laws house_rule cs).without_chroma refl;
      not_subsampled = λ cs. (default_laws house_rule cs).each_on_all refl;
      small_none = λ cs. (default_laws house_rule cs).small_none refl;
      own_steps = λ version s ss cs. refl;
      own_listing = own_listing;
      preview = preview;
    }

-- ---- the field
-- a form that is refused refuses the record
form_refused : (bytes : List ℕ) (a : ℕ) → (form_of bytes).answer ≡ a → (a ≡ 0 → ⊥) → read_answer bytes ≡ a
unfolding Records.read_answer
form_refused bytes a e n = rw (e, ne_eqb a 0 n)

module _ (bytes : List ℕ) where
  first_refused : (a : ℕ) → has_version_tag bytes ≡ true → judge_version_field bytes ≡ a → (a ≡ 0 → ⊥) → read_answer bytes ≡ a
  unfolding Reading.form_of
  first_refused a t e n = form_refused bytes a (rw (t, e, ne_eqb a 0 n)) n

  outside_refused : has_version_tag bytes ≡ true → field_inside bytes ≡ false → read_answer bytes ≡ refused_outside
  unfolding Reading.judge_version_field
  outside_refused t i = first_refused refused_outside t (rw i) (λ e. absurd (omega arith))

  length_refused : has_version_tag bytes ≡ true → field_inside bytes ≡ true → (length_of bytes ≡ version_length → ⊥) → read_answer bytes ≡ refused_field
  unfolding Reading.judge_version_field Reading.has_head
  length_refused t i n = first_refused refused_field t (rw (i, t, ne_eqb (length_of bytes) version_length n)) (λ e. absurd (omega arith))

  tagged : has_head version_tag version_length bytes ≡ true → has_version_tag bytes ≡ true
  unfolding Reading.has_head
  tagged h = ((and-eq-true_iff (has_version_tag bytes) (eqb (length_of bytes) version_length)).0 h).0

  value_refused : field_inside bytes ≡ true → has_head version_tag version_length bytes ≡ true → (byte_at bytes head_length ≡ house_version → ⊥) → read_answer bytes ≡ refused_form
  unfolding Reading.judge_version_field
  value_refused i h n = first_refused refused_form (tagged h) (rw (i, h, ne_eqb (byte_at bytes head_length) house_version n)) (λ e. absurd (omega arith))

  -- no channel and no step has that tag
  later_refused : (count : ℕ) (metas : Bool) (steps : ℕ) → has_version_tag bytes ≡ true → field_inside bytes ≡ true → judge_field bytes count metas steps ≡ refused_field
  unfolding Reading.judge_field Reading.is_channel Reading.is_step Reading.has_head
  later_refused count metas steps t i = rw (eqb-true (tag_of bytes) version_tag t, i)

  later_answer : (count : ℕ) (metas : Bool) (steps : ℕ) → judge_field bytes count metas steps ≡ 0 → has_version_tag bytes ≡ false
  unfolding Reading.judge_field
  later_answer count metas steps z =
      by_test (has_version_tag bytes)
      (λ t. let i = (passed (field_inside bytes) _ _ z).0 in absurd (omega (arith, sym (later_refused count metas steps t i) ∙ z)))
      (λ t. t)

-- no field of a list and its steps has it
once_fields : (version turns : ℕ) (bytes : List ℕ) (cs : List Channel) (ss : List Step) → (read_fields version turns bytes cs ss).answer ≡ 0 → no_tag_in version_tag turns bytes ≡ true
once_fields version zero bytes cs ss z = refl
once_fields version (suc turns) bytes cs ss z =
    by_test (eqb (length bytes) 0) (λ e. rw e)
    (λ e.
    by_test (eqb (answer_of bytes cs ss) 0)
    (λ a.
    let t = later_answer bytes (length cs) (all is_meta cs) (length ss) (eqb-true _ 0 a) in
    rw (e, t)
    (by_test (is_step bytes)
    (λ k. once_fields version turns (drop (field_size bytes) bytes) _ _ (rw (e, a, k) at z))
    (λ k. once_fields version turns (drop (field_size bytes) bytes) _ _ (rw (e, a, k) at z))))
    (λ a. absurd (eqb-false _ 0 a (rw (e, a) at z))))

module _ (bytes : List ℕ) (z : read_answer bytes ≡ 0) where
  form_accepted : (form_of bytes).answer ≡ 0
  unfolding Records.read_answer
  form_accepted = (none_refused (form_of bytes).answer _ z).0

  -- its first field is the version's, and the other fields are read after it, or all of them are fields of a list and its steps
  by_first : {A : Type 0}
      → (has_version_tag bytes ≡ true → eqb (judge_version_field bytes) 0 ≡ true → (read_fields house_version (length (drop version_size bytes)) (drop version_size bytes) [] []).answer ≡ 0 → A)
      → (has_version_tag bytes ≡ false → (read_fields standard_version (length bytes) bytes [] []).answer ≡ 0 → A) → A
  unfolding Reading.fields_of Reading.form_of
  by_first versioned plain =
      by_test (has_version_tag bytes)
      (λ t.
      by_test (eqb (judge_version_field bytes) 0)
      (λ a. versioned t a (rw (t, a) at form_accepted))
      (λ a. absurd (eqb-false _ 0 a (rw (t, a) at form_accepted))))
      (λ t. plain t (rw t at form_accepted))

  told : (form_of bytes).version ≡ cond (has_version_tag bytes) house_version standard_version
  unfolding Reading.fields_of Reading.form_of
  told =
      by_first
      (λ t a k. rw (t, a) (fields_version house_version (length (drop version_size bytes)) (drop version_size bytes) [] [] k))
      (λ t k. rw t (fields_version standard_version (length bytes) bytes [] [] k))

  once : no_tag version_tag (after_version bytes) ≡ true
  unfolding Before.no_tag
  once =
      by_first
      (λ t a k. rw t (once_fields house_version (length (drop version_size bytes)) (drop version_size bytes) [] [] k))
      (λ t k. rw t (once_fields standard_version (length bytes) bytes [] [] k))

-- ---- a version as a number
module _ (version : ℕ) (l : ChannelList) (s : Steps) (v : is_version version ≡ false) (n : counted l s ≡ true) where
  form_four : judge_form version l s ≡ refused_form
  unfolding Plans.judge_form
  form_four = rw (n, v, and-false (all flags_allowed (all_flags s)), and-false (channels_allowed (channels l)))

  plan_four : judge_plan version l s ≡ refused_form
  unfolding Plans.judge_plan
  plan_four = rw form_four

  meaning_four : judge_meaning version l s ≡ refused_form
  unfolding Plans.judge_meaning
  meaning_four = rw form_four

  writer_four : (out : List ℕ) → (written_of version l s out).answer ≡ refused_form
  unfolding Records.write_answer
  writer_four out = written_answer version l s out ∙ rw plan_four

  rebuild_four : (pyramid picture work : List ℤ) → Rebuild.answer_of version l s pyramid picture work ≡ refused_form
  unfolding Rebuild.answer_of
  rebuild_four pyramid picture work = rw plan_four

  write_four : (picture pyramid work : List ℤ) → Write.answer version l s picture pyramid work ≡ refused_form
  unfolding Write.answer
  write_four picture pyramid work = rw plan_four

default_four : (version : ℕ) (l : ChannelList) → is_version version ≡ false → count_allowed l.count ≡ true → (planned version l).answer ≡ refused_form
unfolding Steps.packed
default_four version l v n =
    meaning_answer version l (Steps.packed []) (planned version l) refl ∙ meaning_four version l (Steps.packed []) v (rw n)

coarse_four : (version : ℕ) (l : ChannelList) → is_version version ≡ false → Count.coarse_of version l ≡ record { answer = refused_form; count = 0 }
unfolding Count.coarse_of
coarse_four version l v = rw v

numbers_four : (version : ℕ) (ns ms : List ℕ) → is_version version ≡ false → (count_allowed (groups channel_numbers ns) && leb (groups step_numbers ms) max_steps) ≡ true
    → judge_numbers version ns ms ≡ refused_form
unfolding Numbered.judge_numbers
numbers_four version ns ms v n = rw (n, v, and-false (all flags_allowed (flags_of ms)), and-false (channels_allowed (Numbered.channels_of ns)))

count_first : (version : ℕ) (l : ChannelList) (s : Steps) → counted l s ≡ false → (rewritten version l s).answer ≡ refused_count
unfolding Plans.judge_plan Plans.judge_form
count_first version l s n = plan_answer version l s (rewritten version l s) refl ∙ rw n

-- ---- all of them
pub house : House
unfolding
    Channel.is_meta Channel.shifts_allowed Channel.sides_fit Channel.is_allowed Channel.samples
    Lists.channels Lists.holding Lists.raised Lists.average Lists.residual Lists.stepped
    Questions.count_allowed Questions.channels_allowed Questions.total_allowed Questions.range_allowed Questions.kinds_alike Questions.place_allowed Questions.has_sides Questions.shifts_kept Questions.room_left Questions.judge_step
    Steps.flags_of Steps.flags_allowed Steps.steps Steps.all_flags Steps.packed
    Versions.is_version Versions.rule_of Default.meta_count Default.chroma Default.rounds Default.all_channels Default.default_steps Count.is_coarse Count.coarse_count
    Plans.has_other Plans.meant Plans.meant_allowed Plans.judge_form Plans.judge_meant Plans.judge_plan
    Bytes.is_strip Bytes.short_field Bytes.strip_field Bytes.channel_field Bytes.step_field Bytes.version_field Bytes.list_fields Bytes.record_of
    Reading.field_channel Reading.field_inside Reading.has_head Reading.is_channel Reading.is_step Reading.channel_allowed Reading.tag_allowed Reading.judge_channel_field Reading.judge_step_field Reading.judge_field Reading.fields_of Reading.judge_version_field Reading.form_of
    Records.read_answer Entry.answer
house =
    record {
      without_version = record { read = read_unversioned; written = written_unversioned; witness = (refl, refl) };
      plan = plan;
      field =
          record {
            told = told;
            once = once;
            outside_refused = outside_refused;
            length_refused = length_refused;
            value_refused = value_refused;
            later_refused = later_refused;
          };
      number =
          record {
            rewrite = λ version l s v n. plan_answer version l s (rewritten version l s) refl ∙ plan_four version l s v n;
            default = default_four;
            coarse = coarse_four;
            writer = λ version l s out v n. writer_four version l s v n out;
            numbers = numbers_four;
            rebuild = λ version l s pyramid picture work v n. rebuild_four version l s v n pyramid picture work;
            write = λ version l s picture pyramid work v n. write_four version l s v n picture pyramid work;
            witness = (refl, refl);
            count_first = count_first;
          };
      rows =
          record {
            at_31 = refl;
            at_32 = refl;
            wide_33 = refl;
            tall_33 = refl;
            at_33 = refl;
            at_64 = refl;
            wide_65 = refl;
            tall_65 = refl;
            at_65 = refl;
            three_standard = refl;
            three_small = refl;
            three_house = refl;
            preview_witness = (three_largest, counts house_version (three 33) [] refl 6 refl);
            run_witness = (refl, refl);
            palette_first = refl;
            own_house = counts house_version (channel 20 20 ∷ []) (across ∷ []) refl 2 refl;
            own_standard = counts standard_version (channel 20 20 ∷ []) (across ∷ []) refl 0 refl;
            none_house = counts house_version (palette 300 1 ∷ channel 64 9 ∷ []) [] refl 3 refl;
            none_standard = counts standard_version (palette 300 1 ∷ channel 32 9 ∷ []) [] refl 3 refl;
            alone = refl;
            value_one = refl;
            value_none = refl;
            two_bytes = refl;
            twice = refl;
            behind = refl;
            cut = refl;
            written = refl;
            accepted = (refl, refl);
          };
    }
