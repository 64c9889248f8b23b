-- What the reader and the writer tell, as an answer with its values. Definitions only.
use Rattle.std.specs.Prelude.{[], ℕ, Result, Ok, Err}
use Rattle.numbers.specs.declared.Refusal.{Refusal}
use Rattle.numbers.specs.Numbers.{number_of}
use Rattle.list.specs.declared.ChannelList.{ChannelList}
use Rattle.list.specs.Lists as Lists
use Rattle.plan.specs.declared.Steps.{Steps}
use Rattle.plan.specs.declared.Form.{Form}
use Rattle.plan.specs.Steps as S

-- the answer 0 with a plan version, a list and its steps, or a refusal's number with none of them
pub record Record : Type 0 where
  pub answer : ℕ
  pub version : ℕ
  pub list : ChannelList
  pub steps : Steps

abbrev pub record_told : Result Form Refusal → Record
record_told (Ok f) = record { answer = 0; version = f.version; list = f.list; steps = f.steps }
record_told (Err refusal) = record { answer = number_of refusal; version = 0; list = Lists.packed []; steps = S.packed [] }

-- the answer 0 with the bytes that the record takes, or a refusal's number and 0
pub record Written : Type 0 where
  pub answer : ℕ
  pub size : ℕ

abbrev pub written_told : Result ℕ Refusal → Written
written_told (Ok size) = record { answer = 0; size = size }
written_told (Err refusal) = record { answer = number_of refusal; size = 0 }
