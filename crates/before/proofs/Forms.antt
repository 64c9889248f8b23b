-- Bytes without a field of tag 3, before there were versions (specs/Unversioned.antt): field by field they are read as before there were strips, every
-- channel read is no strip, and list and steps are judged as then. Assumes nothing.
use mathlib.Core.Path.{◌≡◌, refl, ◌∙◌}
use mathlib.Core.Bool.{true, false, cond, ◌&&◌, not, and-eq-true_iff}
use mathlib.Core.List.{List, [], ◌∷◌, ◌++◌}
use Prim.Native.Nat.{ℕ, zero, suc, ◌≤◌}
use lib.Dec.{eqb, leb}
use lib.ListN.{length, drop}
use borrow.Author.Tests.{eqb-true, leb-true, not-true}
use Rattle.numbers.specs.Numbers.{refused_count}
use Rattle.channel.specs.declared.Channel.{Channel}
use Rattle.channel.specs.Channel.{is_meta, shifts_allowed, is_allowed}
use Rattle.list.specs.declared.Step.{Step}
use Rattle.list.specs.Tables.{all}
use Rattle.list.specs.Lists as Lists
use Rattle.list.specs.Lists.{max_channels, max_steps, channels}
use Rattle.list.specs.Questions as Questions
use Rattle.list.specs.Questions.{count_allowed}
use Rattle.list.proofs.Asking.{cond_has}
use Rattle.list.proofs.Maps.{all_append}
use Rattle.list.proofs.Packed.{channels_packed}
use Rattle.plan.specs.Steps as S
use Rattle.plan.proofs.Turns.{by_test}
use Rattle.record.specs.Bytes.{strip_tag, step_size, channel_size}
use Rattle.record.specs.Reading as New
use Rattle.record.specs.Reading.{field_size, has_strip_tag, short_channel, field_channel, field_step}
use Rattle.record.specs.Laws.{AreBytes}
use Rattle.record.proofs.WrittenRead.{dropped}
use Rattle.before.specs.Unversioned as Then
use Rattle.before.specs.Unversioned.{Form, refused, finished}
use Rattle.before.specs.Reading as Before
use Rattle.before.specs.Laws.{no_tag_in, no_tag, no_strip, is_short}
use Rattle.before.proofs.Fields.{short_allowed, channel_same, channel_short, is_step_same, judge_same, step_size_lem, channel_size_lem}

-- ---- the fields
-- a field that is not the end: it has another tag, and so have those after it
no_strip_field : (turns : ℕ) (bytes : List ℕ) → eqb (length bytes) 0 ≡ false → no_tag_in strip_tag (suc turns) bytes ≡ true
    → (has_strip_tag bytes ≡ false) × (no_tag_in strip_tag turns (drop (field_size bytes) bytes) ≡ true)
no_strip_field turns bytes e h =
    let a = (and-eq-true_iff (not (has_strip_tag bytes)) (no_tag_in strip_tag turns (drop (field_size bytes) bytes))).0 (rw e at h) in
    (not-true (has_strip_tag bytes) a.0, a.1)

-- where the fields after this one are read as before, so are these
module _ (turns : ℕ) (bytes : List ℕ) (cs : List Channel) (ss : List Step) (b : AreBytes bytes) (e : eqb (length bytes) 0 ≡ false) (t : has_strip_tag bytes ≡ false)
    (next : (ds : List Channel) (ts : List Step) → Then.read_fields turns (drop (field_size bytes) bytes) ds ts ≡ Before.read_fields turns (drop (field_size bytes) bytes) ds ts) where
  judged : New.answer_of bytes cs ss ≡ Before.answer_of bytes cs ss
  judged = judge_same bytes b t (length cs) (all is_meta cs) (length ss)

  accepted_same : New.answer_of bytes cs ss ≡ 0
      → cond (New.is_step bytes)
      (Then.read_fields turns (drop (field_size bytes) bytes) cs (ss ++ (field_step bytes ∷ [])))
      (Then.read_fields turns (drop (field_size bytes) bytes) (cs ++ (field_channel bytes ∷ [])) ss)
      ≡ cond (Before.is_step bytes)
      (Before.read_fields turns (drop step_size bytes) cs (ss ++ (field_step bytes ∷ [])))
      (Before.read_fields turns (drop channel_size bytes) (cs ++ (short_channel bytes ∷ [])) ss)
  accepted_same z =
      by_test (New.is_step bytes)
      (λ k.
      let size = step_size_lem bytes b t (length cs) (all is_meta cs) (length ss) z k in
      rw (← is_step_same bytes b t, k) (next cs (ss ++ field_step bytes ∷ []) ∙ rw size))
      (λ k.
      let size = channel_size_lem bytes b t (length cs) (all is_meta cs) (length ss) z k in
      rw (← is_step_same bytes b t, k) (next (cs ++ field_channel bytes ∷ []) ss ∙ rw (size, channel_same bytes b t)))

  turn_same : Then.read_fields (suc turns) bytes cs ss ≡ Before.read_fields (suc turns) bytes cs ss
  turn_same =
      by_test (eqb (New.answer_of bytes cs ss) 0)
      (λ z. rw (e, ← judged, z) (accepted_same (eqb-true (New.answer_of bytes cs ss) 0 z)))
      (λ z. rw (e, ← judged, z))

fields_same : (turns : ℕ) (bytes : List ℕ) (cs : List Channel) (ss : List Step) → AreBytes bytes → no_tag_in strip_tag turns bytes ≡ true
    → Then.read_fields turns bytes cs ss ≡ Before.read_fields turns bytes cs ss
fields_same zero bytes cs ss b h = refl
fields_same (suc turns) bytes cs ss b h =
    by_test (eqb (length bytes) 0) (λ e. rw e)
    (λ e.
    let f = no_strip_field turns bytes e h in
    turn_same turns bytes cs ss b e f.0
    (λ ds ts. fields_same turns (drop (field_size bytes) bytes) ds ts (dropped bytes (field_size bytes) b) f.1))

pub form_same : (bytes : List ℕ) → AreBytes bytes → no_strip bytes ≡ true → Then.form_of bytes ≡ Before.form_of bytes
unfolding Then.form_of Before.form_of no_tag
form_same bytes b h = fields_same (length bytes) bytes [] [] b h

-- ---- what is read has no strip
abbrev Short : Form → Type 0
Short form = all is_short form.channels ≡ true

finished_short : (cs : List Channel) (ss : List Step) → all is_short cs ≡ true → Short (finished cs ss)
finished_short cs ss short = cond_has Short (leb 1 (length cs)) _ (refused refused_count) short refl

with_channel_lem : (bytes : List ℕ) (cs : List Channel) → AreBytes bytes → has_strip_tag bytes ≡ false → all is_short cs ≡ true
    → all is_short (cs ++ (field_channel bytes ∷ [])) ≡ true
with_channel_lem bytes cs b t short =
    all_append is_short cs (field_channel bytes ∷ []) short ((and-eq-true_iff (is_short (field_channel bytes)) true).1 (channel_short bytes b t, refl))

fields_short : (turns : ℕ) (bytes : List ℕ) (cs : List Channel) (ss : List Step) → AreBytes bytes → no_tag_in strip_tag turns bytes ≡ true → all is_short cs ≡ true
    → Short (Then.read_fields turns bytes cs ss)
fields_short zero bytes cs ss b h short = finished_short cs ss short
fields_short (suc turns) bytes cs ss b h short =
    by_test (eqb (length bytes) 0)
    (λ e. rw e (finished_short cs ss short))
    (λ e.
    let f = no_strip_field turns bytes e h in
    let d = dropped bytes (field_size bytes) b in
    rw e
    (cond_has Short (eqb (New.answer_of bytes cs ss) 0) _ (refused (New.answer_of bytes cs ss))
    (cond_has Short (New.is_step bytes) _ _
    (fields_short turns (drop (field_size bytes) bytes) cs _ d f.1 short)
    (fields_short turns (drop (field_size bytes) bytes) _ ss d f.1 (with_channel_lem bytes cs b f.0 short)))
    refl))

pub form_short : (bytes : List ℕ) → AreBytes bytes → no_strip bytes ≡ true → all is_short (Then.form_of bytes).channels ≡ true
unfolding Then.form_of no_tag
form_short bytes b h = fields_short (length bytes) bytes [] [] b h refl

-- ---- a list without a strip and its steps are judged as before
all_allowed_same : (cs : List Channel) → all is_short cs ≡ true → all is_allowed cs ≡ all shifts_allowed cs
all_allowed_same [] h = refl
all_allowed_same (c ∷ cs) h =
    let a = (and-eq-true_iff (is_short c) (all is_short cs)).0 h in
    rw (short_allowed c a.0, all_allowed_same cs a.1)

allowed_same : (cs : List Channel) → all is_short cs ≡ true → Questions.channels_allowed cs ≡ Before.channels_allowed cs
unfolding Questions.channels_allowed Before.channels_allowed
allowed_same cs h = rw (all_allowed_same cs h)

module _ (cs : List Channel) (ss : List Step) (short : all is_short cs ≡ true) where
  few : (count_allowed (Lists.packed cs).count && leb (S.packed ss).count max_steps) ≡ true → length cs ≤ max_channels
  unfolding Questions.count_allowed Lists.holding
  few t =
      let a = (and-eq-true_iff (count_allowed (length cs)) (leb (S.packed ss).count max_steps)).0 t in
      leb-true (length cs) max_channels ((and-eq-true_iff (leb 1 (length cs)) (leb (length cs) max_channels)).0 a.0).1

  judge_form_same : Then.judge_form (Lists.packed cs) (S.packed ss) ≡ Before.judge_form (Lists.packed cs) (S.packed ss)
  unfolding Then.judge_form Before.judge_form
  judge_form_same =
      by_test (count_allowed (Lists.packed cs).count && leb (S.packed ss).count max_steps)
      (λ t. rw (t, allowed_same (channels (Lists.packed cs)) (rw (channels_packed cs (few t)) short)))
      (λ t. rw t)

  pub judge_plan_same : Then.judge_plan (Lists.packed cs) (S.packed ss) ≡ Before.judge_plan (Lists.packed cs) (S.packed ss)
  unfolding Then.judge_plan Before.judge_plan
  judge_plan_same = rw judge_form_same
