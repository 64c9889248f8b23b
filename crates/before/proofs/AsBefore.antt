-- "Old records keep their bytes and meaning" (specs/Laws.antt). Assumes nothing.
use mathlib.Core.Path.{◌≡◌, refl, sym, ap, ◌∙◌}
use mathlib.Core.Bool.{true, false, and-eq-true_iff}
use mathlib.Core.List.{List, [], ◌∷◌}
use Prim.Native.Nat.{ℕ}
use native.Mathlib.Omega.{arith}
use lib.Dec.{eqb}
use borrow.Author.Tests.{eqb-true, not-true}
use Rattle.channel.specs.declared.Channel.{Channel}
use Rattle.list.specs.Tables.{all}
use Rattle.plan.proofs.Turns.{by_test}
use Rattle.record.specs.Bytes.{is_strip, short_field, channel_field, joined}
use Rattle.record.specs.Reading.{has_version_tag}
use Rattle.record.specs.Records.{read_answer, channels_of, steps_of}
use Rattle.record.specs.Laws.{AreBytes}
use Rattle.record.proofs.Readings.{channels_accepted, steps_few, steps_judged}
use Rattle.listing.specs.Text.{refused_word}
use Rattle.listing.specs.Listing.{listing}
use Rattle.before.specs.Unversioned as Then
use Rattle.before.specs.Reading as Before
use Rattle.before.specs.Listing as BeforeText
use Rattle.before.specs.Laws.{no_strip, is_short, form_now, read_now, ReadAsBeforeLaw, WrittenAsBeforeLaw}
use Rattle.before.proofs.Unversioned.{form_now_lem, answer_now, meant_now, channels_now, steps_now, read_unversioned, written_unversioned}
use Rattle.before.proofs.Forms.{form_same, form_short, judge_plan_same}
use Rattle.before.proofs.Answers.{answer_few}
use Rattle.before.proofs.Lines.{numbered_same, plan_same}

module _ (bytes : List ℕ) (b : AreBytes bytes) (h : no_strip bytes ≡ true) where
  -- before there were versions
  answer_same : Then.read_answer bytes ≡ Before.read_answer bytes
  unfolding Then.read_answer Before.read_answer
  answer_same = rw (judge_plan_same (Then.form_of bytes).channels (Then.form_of bytes).steps (form_short bytes b h), form_same bytes b h)

  read_same : Then.read_of bytes ≡ Before.read_of bytes
  unfolding Then.read_of Before.read_of
  read_same = rw (answer_same, form_same bytes b h)

  module _ (t : has_version_tag bytes ≡ false) where
    answered : read_answer bytes ≡ Before.read_answer bytes
    answered = answer_now bytes t ∙ answer_same

    short : all is_short (channels_of bytes) ≡ true
    short = rw (channels_now bytes t) (form_short bytes b h)

    listing_same : listing bytes ≡ BeforeText.listing bytes
    unfolding Then.listing BeforeText.listing
    listing_same =
        (read_unversioned bytes t).listed
        ∙ by_test (eqb (read_answer bytes) 0)
        (λ e.
        let z = eqb-true (read_answer bytes) 0 e in
        let m : Then.meant (Then.form_of bytes).steps (Then.form_of bytes).channels ≡ steps_of bytes =
        sym (meant_now bytes t ∙ rw (channels_now bytes t, steps_now bytes t))
        in
        rw (← answer_same, ← answer_now bytes t, e, ← form_same bytes b h, m, ← channels_now bytes t)
        (plan_same (steps_of bytes) (channels_of bytes) (channels_accepted bytes z) (steps_judged bytes z) (steps_few bytes z) short))
        (λ e. rw (← answer_same, ← answer_now bytes t, e) (numbered_same refused_word (read_answer bytes) (omega (arith, answer_few bytes))))

pub read_as_before : ReadAsBeforeLaw
read_as_before bytes b h t =
    record {
      form = form_now_lem bytes t ∙ ap form_now (form_same bytes b h);
      answered = answered bytes b h t;
      read = (read_unversioned bytes t).read ∙ ap read_now (read_same bytes b h);
      listed = listing_same bytes b h t;
    }

-- ---- the bytes
field_same : (c : Channel) → is_short c ≡ true → channel_field c ≡ short_field c
unfolding channel_field
field_same c h = rw (not-true (is_strip c) h)

fields_same : (cs : List Channel) → all is_short cs ≡ true → joined channel_field cs ≡ joined short_field cs
fields_same [] h = refl
fields_same (c ∷ cs) h =
    let a = (and-eq-true_iff (is_short c) (all is_short cs)).0 h in
    rw (field_same c a.0, fields_same cs a.1)

pub written_as_before : WrittenAsBeforeLaw
unfolding Then.record_of Before.record_of
written_as_before cs ss h = written_unversioned cs ss ∙ rw (fields_same cs h)
