-- Records from numbers beside the record's writer and reader (crate record), as laws. Statements only: proofs/AsWritten.antt and proofs/ReadBack.antt
-- prove them.
use Rattle.std.specs.Prelude.{◌≡◌, true, cond, List, ◌∷◌, ℕ, ◌≤◌, eqb, length, get_or, take, drop}
use Rattle.list.specs.Tables.{all}
use Rattle.list.specs.Lists as Lists
use Rattle.plan.specs.Steps as S
use Rattle.plan.specs.Steps.{flags_allowed}
use Rattle.record.specs.Records.{read_of, written_of, written_bytes}
use Rattle.numbered.specs.Numbered.{channel_numbers, step_numbers, whole, channels_of, steps_of, flags_of, answer, record_after, length_after}
use Rattle.numbered.specs.Arrays.{list_of, plan_of}

-- ---- the writer: answer, bytes and length are what it gives for the flat arrays of the numbers
pub record AsWritten (version : ℕ) (ns ms bytes len : List ℕ) : Type 0 where
  pub answered : answer version ns ms bytes len ≡ (written_of version (list_of ns) (plan_of ms) bytes).answer
  pub written : record_after version ns ms bytes len ≡ written_bytes version (list_of ns) (plan_of ms) bytes
  pub told : length_after version ns ms bytes len
      ≡ cond (eqb (written_of version (list_of ns) (plan_of ms) bytes).answer 0) ((written_of version (list_of ns) (plan_of ms) bytes).size ∷ drop 1 len) len

-- where no number is left over and the length has room; the fields need no such condition, since the writer's definitions refuse what no field
-- could hold, as the numbers' do
abbrev pub AsWrittenLaw : Type 0
AsWrittenLaw =
    (version : ℕ) (ns ms bytes len : List ℕ) → whole channel_numbers ns ≡ true → whole step_numbers ms ≡ true → 1 ≤ length len
    → AsWritten version ns ms bytes len

-- the arrays of the steps are those that hold the list of steps, where their flags are allowed
abbrev pub PlanPacked : Type 0
PlanPacked = (ms : List ℕ) → all flags_allowed (flags_of ms) ≡ true → plan_of ms ≡ S.packed (steps_of ms)

-- ---- the reader: a record that was made, as long as the first number of the length tells, reads as the version, the channels and the steps of the numbers
abbrev pub ReadBack : Type 0
ReadBack =
    (version : ℕ) (ns ms bytes len : List ℕ) → answer version ns ms bytes len ≡ 0
    → read_of (take (get_or (length_after version ns ms bytes len) 0 0) (record_after version ns ms bytes len))
    ≡ record { answer = 0; version = version; list = Lists.packed (channels_of ns); steps = S.packed (steps_of ms) }

-- ---- a refusal: "lent slices keep their contents"
abbrev pub RefusalKeeps : Type 0
RefusalKeeps = (version : ℕ) (ns ms bytes len : List ℕ) → (answer version ns ms bytes len ≡ 0 → ⊥) → (record_after version ns ms bytes len ≡ bytes) × (length_after version ns ms bytes len ≡ len)
