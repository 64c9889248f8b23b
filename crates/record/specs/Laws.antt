-- "Reading and writing undo each other" (document 01, "Record"): the two laws, over lists and byte strings. proofs/ReadWritten.antt and
-- proofs/WrittenRead.antt prove them.
use Rattle.std.specs.Prelude.{◌≡◌, List, [], ◌++◌, ℕ, ◌<◌, ◌≤◌, length, take, drop}
use Rattle.list.specs.declared.ChannelList.{ChannelList}
use Rattle.list.specs.Lists as Lists
use Rattle.list.specs.Lists.{channels}
use Rattle.plan.specs.declared.Steps.{Steps}
use Rattle.plan.specs.Steps as S
use Rattle.plan.specs.Steps.{steps}
use Rattle.plan.specs.Plans.{judge_plan}
use Rattle.record.specs.Bytes.{record_of}
use Rattle.record.specs.Reading.{byte_at, form_of}
use Rattle.record.specs.Records.{read_answer, read_of, record_for, write_answer, written_of, written_bytes}

abbrev pub AreBytes : List ℕ → Type 0
AreBytes bytes = (k : ℕ) → byte_at bytes k < 256

-- a record that was written: its reading gives the version, the channels and the steps that were meant, and no steps stay no steps
pub record ReadWritten (version : ℕ) (l : ChannelList) (s : Steps) : Type 0 where
  pub form : form_of (record_for version l s) ≡ record { answer = 0; version = version; channels = channels l; steps = steps s }
  pub read : read_of (record_for version l s) ≡ record { answer = 0; version = version; list = Lists.packed (channels l); steps = S.packed (steps s) }
  pub none : s.count ≡ 0 → (read_of (record_for version l s)).steps ≡ S.packed []
  pub written : (out : List ℕ) → write_answer version l s out ≡ 0 → take (written_of version l s out).size (written_bytes version l s out) ≡ record_for version l s

-- bytes that were read: they are the record of what they gave, and the writer writes them back
pub record WrittenRead (bytes : List ℕ) : Type 0 where
  pub form : record_of (form_of bytes).version (form_of bytes).channels (form_of bytes).steps ≡ bytes
  pub record_is : record_for (read_of bytes).version (read_of bytes).list (read_of bytes).steps ≡ bytes
  pub length_is : (out : List ℕ) → length bytes ≤ length out → written_of (read_of bytes).version (read_of bytes).list (read_of bytes).steps out ≡ record { answer = 0; size = length bytes }
  pub written : (out : List ℕ) → length bytes ≤ length out → written_bytes (read_of bytes).version (read_of bytes).list (read_of bytes).steps out ≡ bytes ++ drop (length bytes) out

abbrev pub ReadWrittenLaw : Type 0
ReadWrittenLaw = (version : ℕ) (l : ChannelList) (s : Steps) → judge_plan version l s ≡ 0 → ReadWritten version l s

abbrev pub WrittenReadLaw : Type 0
WrittenReadLaw = (bytes : List ℕ) → AreBytes bytes → read_answer bytes ≡ 0 → WrittenRead bytes

-- one record for a version, a list and its steps
abbrev pub OneRecord : Type 0
OneRecord = (a b : List ℕ) → AreBytes a → AreBytes b → read_answer a ≡ 0 → read_of a ≡ read_of b → a ≡ b
