-- A record whose first field has not tag 4 is read, judged, meant and listed as before there were versions, and version 1 is written as then
-- (specs/Laws.antt). Assumes nothing.
use mathlib.Core.Path.{◌≡◌, refl, ap, ◌∙◌}
use mathlib.Core.Bool.{true, false, and-true}
use mathlib.Core.List.{List, [], ◌∷◌}
use Prim.Native.Nat.{ℕ, zero, suc}
use lib.Dec.{eqb, leb}
use lib.ListN.{length}
use borrow.Author.Tests.{eqb-true}
use Rattle.channel.specs.declared.Channel.{Channel}
use Rattle.list.specs.declared.ChannelList.{ChannelList}
use Rattle.list.specs.declared.Step.{Step}
use Rattle.list.specs.Tables.{all}
use Rattle.list.specs.Lists as Lists
use Rattle.plan.specs.declared.Steps.{Steps}
use Rattle.plan.specs.Version as Versions
use Rattle.plan.specs.Version.{standard_version}
use Rattle.plan.specs.Steps as S
use Rattle.plan.specs.Steps.{steps, all_flags, flags_allowed}
use Rattle.plan.specs.Default as Default
use Rattle.plan.specs.Plans as Plans
use Rattle.plan.proofs.Turns.{by_test}
use Rattle.record.specs.Bytes as Bytes
use Rattle.record.specs.Reading as Reading
use Rattle.record.specs.Reading.{has_version_tag, is_step, answer_of, read_fields, fields_of, form_of}
use Rattle.record.specs.Records as Records
use Rattle.record.specs.Records.{read_answer, read_of, version_of, steps_of}
use Rattle.listing.specs.Listing as Listing
use Rattle.listing.specs.Listing.{listing}
use Rattle.before.specs.Unversioned as Then
use Rattle.before.specs.Laws.{form_now, read_now, ReadUnversionedLaw, WrittenUnversionedLaw}

-- ---- the plan of version 1; of a refused record's version 0 likewise
pub meant_then : (version : ℕ) → eqb version Versions.house_version ≡ false → (ss : List Step) (cs : List Channel) → Plans.meant version ss cs ≡ Then.meant ss cs
unfolding Versions.rule_of Default.chroma Default.default_steps Plans.meant Then.chroma Then.default_steps Then.meant
meant_then version e [] cs = rw e
meant_then version e (s ∷ ss) cs = refl

form_then : (l : ChannelList) (s : Steps) → Plans.judge_form standard_version l s ≡ Then.judge_form l s
unfolding Versions.is_version Plans.judge_form Then.judge_form
form_then l s = rw (and-true (all flags_allowed (all_flags s)))

judge_then : (l : ChannelList) (s : Steps) → Plans.judge_plan standard_version l s ≡ Then.judge_plan l s
unfolding Plans.judge_meant Plans.judge_plan Then.judge_meant Then.judge_plan
judge_then l s = rw (form_then l s, meant_then standard_version refl (steps s) (Lists.channels l))

-- ---- the form
finished_then : (cs : List Channel) (ss : List Step) → Reading.finished standard_version cs ss ≡ form_now (Then.finished cs ss)
finished_then cs ss = by_test (leb 1 (length cs)) (λ t. rw t) (λ t. rw t)

fields_then : (turns : ℕ) (bytes : List ℕ) (cs : List Channel) (ss : List Step) → read_fields standard_version turns bytes cs ss ≡ form_now (Then.read_fields turns bytes cs ss)
fields_then zero bytes cs ss = finished_then cs ss
fields_then (suc turns) bytes cs ss =
    by_test (eqb (length bytes) 0) (λ e. rw e (finished_then cs ss))
    (λ e.
    by_test (eqb (answer_of bytes cs ss) 0)
    (λ z. by_test (is_step bytes) (λ t. rw (e, z, t) (fields_then turns _ cs _)) (λ t. rw (e, z, t) (fields_then turns _ _ ss)))
    (λ z. rw (e, z, z)))

module _ (bytes : List ℕ) (t : has_version_tag bytes ≡ false) where
  pub form_now_lem : form_of bytes ≡ form_now (Then.form_of bytes)
  unfolding fields_of form_of Then.form_of
  form_now_lem = rw t (fields_then (length bytes) bytes [] [])

  pub answer_now : read_answer bytes ≡ Then.read_answer bytes
  unfolding Records.read_answer Then.read_answer
  answer_now =
      by_test (eqb (Then.form_of bytes).answer 0)
      (λ z. rw (form_now_lem, z) (judge_then (Lists.packed (Then.form_of bytes).channels) (S.packed (Then.form_of bytes).steps)))
      (λ z. rw (form_now_lem, z))

  -- the version is 1, or 0 where the form is refused
  pub no_house : eqb (version_of bytes) Versions.house_version ≡ false
  no_house =
      by_test (eqb (Then.form_of bytes).answer 0)
      (λ z. ap (λ (f : Reading.Form). eqb f.version Versions.house_version) form_now_lem ∙ rw z)
      (λ z. ap (λ (f : Reading.Form). eqb f.version Versions.house_version) form_now_lem ∙ rw z)

  pub meant_now : steps_of bytes ≡ Then.meant (form_of bytes).steps (form_of bytes).channels
  meant_now = meant_then (version_of bytes) no_house (form_of bytes).steps (form_of bytes).channels

  -- an accepted record has a form that is
  accepted_form : eqb (Then.read_answer bytes) 0 ≡ true → (Then.form_of bytes).answer ≡ 0
  unfolding Then.read_answer
  accepted_form z =
      by_test (eqb (Then.form_of bytes).answer 0) (λ e. eqb-true _ 0 e)
      (λ e. eqb-true _ 0 (rw e at z))

  read_now_lem : read_of bytes ≡ read_now (Then.read_of bytes)
  unfolding Records.read_of Then.read_of
  read_now_lem =
      by_test (eqb (Then.read_answer bytes) 0)
      (λ z. rw (answer_now, z, form_now_lem, accepted_form z))
      (λ z. rw (answer_now, z, z))

  pub channels_now : (form_of bytes).channels ≡ (Then.form_of bytes).channels
  channels_now = ap (λ (f : Reading.Form). f.channels) form_now_lem

  pub steps_now : (form_of bytes).steps ≡ (Then.form_of bytes).steps
  steps_now = ap (λ (f : Reading.Form). f.steps) form_now_lem

  listing_now : listing bytes ≡ Then.listing bytes
  unfolding Versions.rule_of Listing.plan_text Listing.listing Then.plan_text Then.listing
  listing_now =
      by_test (eqb (Then.read_answer bytes) 0)
      (λ z. rw (answer_now, z, meant_now, no_house, channels_now, steps_now))
      (λ z. rw (answer_now, z))

pub read_unversioned : ReadUnversionedLaw
read_unversioned bytes t =
    record { form = form_now_lem bytes t; answered = answer_now bytes t; read = read_now_lem bytes t; meant = meant_now bytes t; listed = listing_now bytes t }

pub written_unversioned : WrittenUnversionedLaw
unfolding Bytes.version_field Bytes.list_fields Bytes.record_of Then.record_of
written_unversioned cs ss = refl
