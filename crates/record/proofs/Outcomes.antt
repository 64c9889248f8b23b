-- What the reader and the writer give (specs/Records.antt), by the answers that the code has found on the way. Assumes nothing.
use mathlib.Core.Path.{◌≡◌, refl, sym, ap, ◌∙◌}
use mathlib.Core.Bool.{Bool, true, false, cond}
use mathlib.Core.List.{List, ◌++◌, append_assoc}
use Prim.Native.Nat.{ℕ, ◌+◌, ◌*◌, ◌-◌, ◌<◌, ◌≤◌, min}
use native.Mathlib.Nat.{zero-add}
use native.Mathlib.Omega.{arith}
use lib.Dec.{leb}
use lib.ListN.{length, take, drop, length-append, length-drop}
use lib.Seq.{take_all}
use borrow.Author.Tests.{eq-eqb, ne_eqb, le-leb, lt-leb}
use Rattle.numbers.specs.Numbers.{refused_length}
use Rattle.list.specs.declared.ChannelList.{ChannelList}
use Rattle.list.specs.Lists.{max_steps, channels}
use Rattle.plan.specs.declared.Steps.{Steps}
use Rattle.plan.specs.Version.{standard_version, house_version}
use Rattle.plan.specs.Steps as S
use Rattle.plan.specs.Plans.{judge_plan}
use Rattle.record.specs.Told.{Record}
use Rattle.record.specs.Bytes.{step_size, version_size, version_field, channel_fields, step_fields, list_fields, record_of, placed}
use Rattle.record.specs.Reading.{Form, refused, fields_of, has_version_tag, judge_version_field, form_of}
use Rattle.record.specs.Records.{packed_form, read_answer, read_of, record_for, write_answer, written_of, written_bytes}
use Rattle.numbers.proofs.Refusals.{number_some}
use Rattle.plan.proofs.Judged.{plan_answer}
use Rattle.record.proofs.Fields.{version_long}
use Rattle.record.proofs.Joined.{version_within, channels_few, steps_size}
use Rattle.record.proofs.Placed.{placed_more}
use Rattle.record.proofs.Forms.{form_has}

-- ---- the reader
-- a refusal gives no version, no channel and no step
abbrev Bare : Form → Type 0
Bare form = (form.answer ≡ 0 → ⊥) → form ≡ refused form.answer

form_bare : (bytes : List ℕ) → Bare (form_of bytes)
form_bare = form_has Bare (λ version cs ss z. absurd (z refl)) (λ z. refl) (λ bytes cs ss n z. refl) (λ bytes n z. refl)

-- the code's way to it, from what it found of the first field
module _ (bytes : List ℕ) where
  pub form_without : (r : Record) → has_version_tag bytes ≡ false → r ≡ packed_form (fields_of standard_version bytes) → r ≡ packed_form (form_of bytes)
  unfolding form_of
  form_without r t e = e ∙ rw t

  module _ (t : has_version_tag bytes ≡ true) (a : ℕ) (ea : a ≡ judge_version_field bytes) where
    pub form_refused : (r : Record) → (a ≡ 0 → ⊥) → r ≡ packed_form (refused a) → r ≡ packed_form (form_of bytes)
    unfolding form_of
    form_refused r z e = e ∙ rw (t, ← ea, ne_eqb a 0 z)

    pub form_after : (r : Record) (rest : List ℕ) → a ≡ 0 → rest ≡ take (length bytes - version_size) (drop version_size bytes) → r ≡ packed_form (fields_of house_version rest)
        → r ≡ packed_form (form_of bytes)
    unfolding form_of
    form_after r rest z er e =
        e ∙ rw (t, ← ea, eq-eqb a 0 z, er, take_all (length bytes - version_size) (drop version_size bytes) (omega (arith, length-drop version_size bytes)))

-- f is what `read_form` gave
module _ (bytes : List ℕ) (f : Record) (e : f ≡ packed_form (form_of bytes)) where
  form_answer : f.answer ≡ (form_of bytes).answer
  unfolding packed_form
  form_answer = ap (λ (x : Record). x.answer) e

  pub read_refused : (f.answer ≡ 0 → ⊥) → f ≡ read_of bytes
  unfolding packed_form read_of read_answer
  read_refused z =
      let n : (form_of bytes).answer ≡ 0 → ⊥ = λ h. z (form_answer ∙ h) in
      e ∙ rw (ne_eqb _ 0 n, ne_eqb _ 0 n) (ap packed_form (form_bare bytes n))

  -- a form that passes: the record's answer is its plan's
  module _ (z : f.answer ≡ 0) where
    pub form_judged : judge_plan f.version f.list f.steps ≡ read_answer bytes
    unfolding read_answer packed_form
    form_judged = rw (eq-eqb _ 0 (sym form_answer ∙ z), ap (λ (x : Record). x.version) e, ap (λ (x : Record). x.list) e, ap (λ (x : Record). x.steps) e)

    pub form_read : judge_plan f.version f.list f.steps ≡ 0 → f ≡ read_of bytes
    unfolding packed_form read_of
    form_read n = e ∙ rw (← form_judged, n, sym form_answer ∙ z)

    -- a is the plan's answer
    module _ (a : ℕ) (ea : a ≡ judge_plan f.version f.list f.steps) where
      pub read_refused_plan : (g : Record) → (a ≡ 0 → ⊥) → g ≡ packed_form (refused a) → g ≡ read_of bytes
      unfolding packed_form read_of
      read_refused_plan g n eg = eg ∙ rw (← form_judged, ← ea, ne_eqb a 0 n)

-- ---- the writer, by its answer
module _ (version : ℕ) (l : ChannelList) (s : Steps) (out : List ℕ) where
  written_nothing : (a : ℕ) → write_answer version l s out ≡ a → (a ≡ 0 → ⊥) → (record { answer = a; size = 0 } ≡ written_of version l s out) × (out ≡ written_bytes version l s out)
  unfolding written_of written_bytes
  written_nothing a e z = (rw (e, ne_eqb a 0 z), rw (e, ne_eqb a 0 z))

  module _ (e : write_answer version l s out ≡ 0) where
    pub written_length : written_of version l s out ≡ record { answer = 0; size = length (record_for version l s) }
    unfolding written_of
    written_length = rw e

    pub written_bytes_lem : written_bytes version l s out ≡ record_for version l s ++ drop (length (record_for version l s)) out
    unfolding written_bytes
    written_bytes_lem = rw e

-- a is the answer to questions 3 to 11
module _ (version : ℕ) (l : ChannelList) (s : Steps) (a : ℕ) (ea : a ≡ judge_plan version l s) where
  pub write_refused : (out : List ℕ) → (a ≡ 0 → ⊥) → (record { answer = a; size = 0 } ≡ written_of version l s out) × (out ≡ written_bytes version l s out)
  unfolding write_answer
  write_refused out z = written_nothing version l s out a (rw (← ea, ne_eqb a 0 z)) z

  module _ (z : a ≡ 0) where
    module _ (out : List ℕ) where
      write_answer_lem : (b : Bool) → leb (length (record_for version l s)) (length out) ≡ b → write_answer version l s out ≡ cond b 0 refused_length
      unfolding write_answer
      write_answer_lem b e = rw (sym ea ∙ z, e)

      pub write_fits : length (record_for version l s) ≤ length out → write_answer version l s out ≡ 0
      write_fits h = write_answer_lem true (le-leb (length (record_for version l s)) (length out) h)

      -- first is the length of the version's field, size that of the channels', n the number of steps
      module _ (first size n : ℕ) (ef : first ≡ length (version_field version)) (es : size ≡ length (channel_fields (channels l))) (en : n ≡ min s.count max_steps) where
        record_size : length (record_for version l s) ≡ first + size + step_size * n
        unfolding list_fields record_of
        record_size =
            omega (
              arith,
              length-append (version_field version) (channel_fields (channels l) ++ step_fields (S.steps s)),
              length-append (channel_fields (channels l)) (step_fields (S.steps s)),
              steps_size s n en,
            )

        pub write_short : length out < first + size + step_size * n
            → (record { answer = refused_length; size = 0 } ≡ written_of version l s out) × (out ≡ written_bytes version l s out)
        write_short h =
            written_nothing version l s out refused_length (write_answer_lem false (lt-leb (length (record_for version l s)) (length out) (omega (arith, record_size)))) (λ e. omega arith)

        module _ (h : first + size + step_size * n ≤ length out) where
          fits : write_answer version l s out ≡ 0
          fits = write_fits (omega (arith, record_size))

          pub write_length : record { answer = 0; size = first + size + step_size * n } ≡ written_of version l s out
          write_length = sym (written_length version l s out fits ∙ rw record_size)

          -- the version's field, the channels' and the steps', each after the one before
          pub write_bytes : (out₁ out₂ out₃ : List ℕ) → out₁ ≡ placed out 0 (version_field version) → out₂ ≡ placed out₁ first (channel_fields (channels l))
              → out₃ ≡ placed out₂ (first + size) (step_fields (S.steps s)) → out₃ ≡ written_bytes version l s out
          unfolding list_fields record_of
          write_bytes out₁ out₂ out₃ e₁ e₂ e₃ =
              let v = version_field version in
              let cs = channel_fields (channels l) in
              let ss = step_fields (S.steps s) in
              let n : first ≡ 0 + length v = omega arith in
              let m : first + size ≡ 0 + length (v ++ cs) = omega (arith, length-append v cs) in
              let two : out₂ ≡ placed out 0 (v ++ cs) = e₂ ∙ rw (e₁, n) (placed_more out 0 v (omega arith) cs) in
              let three : out₃ ≡ placed out 0 ((v ++ cs) ++ ss) = e₃ ∙ rw (two, m) (placed_more out 0 (v ++ cs) (omega arith) ss) in
              three ∙ rw (append_assoc v cs ss, zero-add) (sym (written_bytes_lem version l s out fits))

-- what the reader and the writer need
pub ruleset forms = (form_without, form_refused, form_after, version_long, read_refused, form_read, plan_answer, number_some)

pub ruleset writings = (write_refused, write_length, write_bytes, version_within, channels_few, steps_size, plan_answer, number_some)
