-- Records without strips keep their bytes and meaning (document 02, A.8), and so do records without a version (A.11). Statements only: proofs/ proves
-- them.
use Rattle.std.specs.Prelude.{◌≡◌, Bool, true, false, cond, ◌&&◌, not, List, ℕ, zero, suc, eqb, length, drop}
use Rattle.channel.specs.declared.Channel.{Channel}
use Rattle.list.specs.declared.Step.{Step}
use Rattle.list.specs.Tables.{all}
use Rattle.plan.specs.Version.{standard_version}
use Rattle.record.specs.Bytes.{strip_tag, is_strip, record_of}
use Rattle.record.specs.Told.{Record}
use Rattle.record.specs.Reading.{Form, tag_of, field_size, has_version_tag, form_of}
use Rattle.record.specs.Records.{read_answer, read_of, steps_of}
use Rattle.record.specs.Laws.{AreBytes}
use Rattle.listing.specs.Listing.{listing}
use Rattle.before.specs.Unversioned as Unversioned
use Rattle.before.specs.Reading as Before
use Rattle.before.specs.Listing as BeforeText

-- no field has the given tag: fields by their stated lengths, as many turns as bytes
abbrev pub no_tag_in : ℕ → ℕ → List ℕ → Bool
no_tag_in tag zero bytes = true
no_tag_in tag (suc turns) bytes =
    cond (eqb (length bytes) 0) true (not (eqb (tag_of bytes) tag) && no_tag_in tag turns (drop (field_size bytes) bytes))

unfoldable pub no_tag : ℕ → List ℕ → Bool
no_tag tag bytes = no_tag_in tag (length bytes) bytes

abbrev pub no_strip : List ℕ → Bool
no_strip bytes = no_tag strip_tag bytes

-- what a form and a reading of then are now: with version 1, or with none where they are refused
abbrev pub version_then : ℕ → ℕ
version_then answer = cond (eqb answer 0) standard_version 0

abbrev pub form_now : Unversioned.Form → Form
form_now f = record { answer = f.answer; version = version_then f.answer; channels = f.channels; steps = f.steps }

abbrev pub read_now : Unversioned.Read → Record
read_now r = record { answer = r.answer; version = version_then r.answer; list = r.list; steps = r.steps }

-- ---- "A record without tag 4 keeps its bytes and its meaning": read, judged, meant and listed as before there were versions
pub record ReadUnversioned (bytes : List ℕ) : Type 0 where
  pub form : form_of bytes ≡ form_now (Unversioned.form_of bytes)
  pub answered : read_answer bytes ≡ Unversioned.read_answer bytes
  pub read : read_of bytes ≡ read_now (Unversioned.read_of bytes)
  pub meant : steps_of bytes ≡ Unversioned.meant (form_of bytes).steps (form_of bytes).channels
  pub listed : listing bytes ≡ Unversioned.listing bytes

abbrev pub ReadUnversionedLaw : Type 0
ReadUnversionedLaw = (bytes : List ℕ) → has_version_tag bytes ≡ false → ReadUnversioned bytes

abbrev pub WrittenUnversionedLaw : Type 0
WrittenUnversionedLaw = (cs : List Channel) (ss : List Step) → record_of standard_version cs ss ≡ Unversioned.record_of cs ss

-- ---- "Old records keep their bytes and meaning": read, judged and listed as before there were strips
pub record ReadAsBefore (bytes : List ℕ) : Type 0 where
  pub form : form_of bytes ≡ form_now (Before.form_of bytes)
  pub answered : read_answer bytes ≡ Before.read_answer bytes
  pub read : read_of bytes ≡ read_now (Before.read_of bytes)
  pub listed : listing bytes ≡ BeforeText.listing bytes

abbrev pub ReadAsBeforeLaw : Type 0
ReadAsBeforeLaw = (bytes : List ℕ) → AreBytes bytes → no_strip bytes ≡ true → has_version_tag bytes ≡ false → ReadAsBefore bytes

-- "a list whose sides are all at most 65,535 is written in the bytes of before"
abbrev pub is_short : Channel → Bool
is_short c = not (is_strip c)

abbrev pub WrittenAsBeforeLaw : Type 0
WrittenAsBeforeLaw = (cs : List Channel) (ss : List Step) → all is_short cs ≡ true → record_of standard_version cs ss ≡ Before.record_of cs ss
