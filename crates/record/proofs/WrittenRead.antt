-- Bytes that the reader accepts are the record of what it gives: each field is that of its channel or step, and the fields stand in their order.
-- So the writer writes them back, and a version, a list and its steps have one record. Assumes nothing.
use mathlib.Core.Path.{◌≡◌, refl, sym, ap, ◌∙◌}
use mathlib.Core.Bool.{Bool, true, false, cond}
use mathlib.Core.List.{List, [], ◌∷◌, ◌++◌, append-nil, append_assoc}
use Prim.Native.Nat.{ℕ, zero, suc, ◌+◌, ◌≤◌}
use native.Mathlib.Omega.{arith}
use lib.Dec.{eqb, leb}
use lib.ListN.{length, drop, length-drop}
use lib.Seq.{get_or-drop}
use borrow.Author.Tests.{eqb-true, eqb-false}
use Rattle.numbers.specs.Numbers.{refused_count}
use Rattle.channel.specs.declared.Channel.{Channel}
use Rattle.list.specs.declared.Step.{Step}
use Rattle.list.specs.Lists as Lists
use Rattle.list.specs.Lists.{channels}
use Rattle.list.proofs.Packed.{channels_packed}
use Rattle.plan.specs.Version.{standard_version, house_version}
use Rattle.plan.specs.Steps as S
use Rattle.plan.specs.Plans.{judge_plan}
use Rattle.plan.proofs.Packed.{packed_count, steps_packed}
use Rattle.record.specs.Told.{Record}
use Rattle.record.specs.Bytes.{version_size, channel_field, step_field, version_field, channel_fields, step_fields, list_fields, record_of}
use Rattle.record.specs.Reading.{Form, asked, field_size, field_channel, field_step, is_step, finished, answer_of, read_fields, fields_of, has_version_tag, judge_version_field, form_of}
use Rattle.record.specs.Records.{read_answer, read_of, record_for, write_answer}
use Rattle.record.specs.Laws.{AreBytes, WrittenRead, WrittenReadLaw, OneRecord}
use Rattle.record.proofs.Fields.{judged_inside, is_step_lem, is_channel_lem}
use Rattle.record.proofs.Words.{step_bytes, channel_bytes, version_bytes_lem}
use Rattle.plan.proofs.Runs.{none_refused}
use Rattle.plan.proofs.Judged.{judged_counts}
use Rattle.record.proofs.Pushed.{list_count}
use Rattle.record.proofs.Joined.{joined_snoc}
use Rattle.record.proofs.Forms.{fields_have}
use Rattle.record.proofs.Outcomes.{write_fits, written_length, written_bytes_lem}
use Rattle.record.proofs.Readings.{read_answer_lem}

none {ℓ} : {A : Type ℓ} (xs : List A) → length xs ≤ 0 → xs ≡ []
none [] h = refl
none (x ∷ xs) h = absurd (omega arith)

-- ---- what has been read, and what is left
-- the fields of a form that refuses nothing are `whole`
abbrev Gives : List ℕ → Form → Type 0
Gives whole form = form.answer ≡ 0 → list_fields form.channels form.steps ≡ whole

asked_gives : (whole : List ℕ) (answer : ℕ) (next : Form) → (answer ≡ 0 → Gives whole next) → Gives whole (asked (eqb answer 0) answer next)
asked_gives whole answer next h = go (eqb answer 0) refl
  where
    go : (b : Bool) → eqb answer 0 ≡ b → Gives whole (asked b answer next)
    go true e = h (eqb-true answer 0 e)
    go false e = λ z. absurd (eqb-false answer 0 e z)

finished_gives : (version : ℕ) (cs : List Channel) (ss : List Step) (bytes : List ℕ) → length bytes ≤ 0 → Gives (list_fields cs ss ++ bytes) (finished version cs ss)
finished_gives version cs ss bytes h = rw (none bytes h, append-nil) (go (leb 1 (length cs)))
  where
    go : (b : Bool) → Gives (list_fields cs ss) (asked b refused_count (record { answer = 0; version = version; channels = cs; steps = ss }))
    go true z = refl
    go false z = absurd (omega arith)

module _ (version : ℕ) (bytes : List ℕ) (b : AreBytes bytes) (cs : List Channel) (ss : List Step) where
  step_next : answer_of bytes cs ss ≡ 0 → is_step bytes ≡ true
      → list_fields cs (ss ++ field_step bytes ∷ []) ++ drop (field_size bytes) bytes ≡ list_fields cs ss ++ bytes
  unfolding list_fields
  step_next h t =
      rw (joined_snoc step_field ss (field_step bytes))
      (simp append_assoc (ap (λ (l : List ℕ). channel_fields cs ++ (step_fields ss ++ l)) (sym (step_bytes bytes b _ (judged_inside bytes _ _ _ h).1 (is_step_lem bytes _ _ _ h t)))))

  channel_next : answer_of bytes cs ss ≡ 0 → is_step bytes ≡ false
      → list_fields (cs ++ field_channel bytes ∷ []) ss ++ drop (field_size bytes) bytes ≡ list_fields cs ss ++ bytes
  unfolding list_fields
  channel_next h t =
      let f = is_channel_lem bytes _ _ _ h t in
      rw (none ss (omega (arith, f.first)), joined_snoc channel_field cs (field_channel bytes))
      (simp (append_assoc, append-nil) (ap (λ (l : List ℕ). channel_fields cs ++ l) (sym (channel_bytes bytes b (judged_inside bytes _ _ _ h).1 _ _ _ f))))

  turn_gives : (x y : Form)
      → Gives (list_fields cs (ss ++ field_step bytes ∷ []) ++ drop (field_size bytes) bytes) x
      → Gives (list_fields (cs ++ field_channel bytes ∷ []) ss ++ drop (field_size bytes) bytes) y
      → Gives (list_fields cs ss ++ bytes)
      (cond (eqb (length bytes) 0) (finished version cs ss) (asked (eqb (answer_of bytes cs ss) 0) (answer_of bytes cs ss) (cond (is_step bytes) x y)))
  turn_gives x y gx gy = go (eqb (length bytes) 0) refl
    where
      kind : (t : Bool) → is_step bytes ≡ t → answer_of bytes cs ss ≡ 0 → Gives (list_fields cs ss ++ bytes) (cond t x y)
      kind true e h = λ z. gx z ∙ step_next h e
      kind false e h = λ z. gy z ∙ channel_next h e

      go : (t : Bool) → eqb (length bytes) 0 ≡ t
          → Gives (list_fields cs ss ++ bytes) (cond t (finished version cs ss) (asked (eqb (answer_of bytes cs ss) 0) (answer_of bytes cs ss) (cond (is_step bytes) x y)))
      go true e = finished_gives version cs ss bytes (omega (arith, eqb-true (length bytes) 0 e))
      go false e = asked_gives (list_fields cs ss ++ bytes) (answer_of bytes cs ss) _ (kind (is_step bytes) refl)

pub dropped : (bytes : List ℕ) (n : ℕ) → AreBytes bytes → AreBytes (drop n bytes)
dropped bytes n b k = rw (get_or-drop n bytes k 0) (b (n + k))

fields_give : (version turns : ℕ) (bytes : List ℕ) (cs : List Channel) (ss : List Step) → AreBytes bytes → length bytes ≤ turns
    → Gives (list_fields cs ss ++ bytes) (read_fields version turns bytes cs ss)
fields_give version zero bytes cs ss b l = finished_gives version cs ss bytes l
fields_give version (suc turns) bytes cs ss b l =
    let d = dropped bytes (field_size bytes) b in
    let m : length (drop (field_size bytes) bytes) ≤ turns = omega (arith, length-drop (field_size bytes) bytes) in
    turn_gives version bytes b cs ss _ _ (fields_give version turns _ cs _ d m) (fields_give version turns _ _ ss d m)

-- the fields of a record, and the version before them
fields_back : (version : ℕ) (bytes : List ℕ) → AreBytes bytes → (fields_of version bytes).answer ≡ 0
    → list_fields (fields_of version bytes).channels (fields_of version bytes).steps ≡ bytes
unfolding fields_of list_fields
fields_back version bytes b = fields_give version (length bytes) bytes [] [] b (omega arith)

-- a form that refuses nothing has the version that it was read with
abbrev Versioned : ℕ → Form → Type 0
Versioned version form = form.answer ≡ 0 → form.version ≡ version

pub fields_version : (version turns : ℕ) (bytes : List ℕ) (cs : List Channel) (ss : List Step) → Versioned version (read_fields version turns bytes cs ss)
fields_version version = fields_have (Versioned version) version (λ cs ss z. refl) (λ z. absurd (omega arith)) (λ bytes cs ss n z. absurd (n z))

module _ (bytes : List ℕ) (b : AreBytes bytes) where
  version_read : (version : ℕ) (rest : List ℕ) → AreBytes rest → (fields_of version rest).answer ≡ 0 → (field : List ℕ) → field ≡ version_field version
      → bytes ≡ field ++ rest
      → record_of (fields_of version rest).version (fields_of version rest).channels (fields_of version rest).steps ≡ bytes
  unfolding fields_of record_of
  version_read version rest br z field ef e =
      rw (fields_version version (length rest) rest [] [] z, ← ef, fields_back version rest br z) (sym e)

  form_back : (form_of bytes).answer ≡ 0 → record_of (form_of bytes).version (form_of bytes).channels (form_of bytes).steps ≡ bytes
  unfolding form_of version_field
  form_back = go (has_version_tag bytes)
    where
      with_field : (a : ℕ) → judge_version_field bytes ≡ a → (t : Bool) → eqb a 0 ≡ t → let f = asked t a (fields_of house_version (drop version_size bytes)) in f.answer ≡ 0
          → record_of f.version f.channels f.steps ≡ bytes
      with_field a ea true e z =
          version_read house_version (drop version_size bytes) (dropped bytes version_size b) z _ refl (version_bytes_lem bytes b (ea ∙ eqb-true a 0 e))
      with_field a ea false e z = absurd (eqb-false a 0 e z)

      go : (t : Bool)
          → let f = cond t (asked (eqb (judge_version_field bytes) 0) (judge_version_field bytes) (fields_of house_version (drop version_size bytes))) (fields_of standard_version bytes) in
          f.answer ≡ 0 → record_of f.version f.channels f.steps ≡ bytes
      go true = with_field (judge_version_field bytes) refl (eqb (judge_version_field bytes) 0) refl
      go false = λ z. version_read standard_version bytes b z [] refl refl

-- ---- what the reader gives
module _ (bytes : List ℕ) (b : AreBytes bytes) (h : read_answer bytes ≡ 0) where
  parts : ((form_of bytes).answer ≡ 0) × (judge_plan (form_of bytes).version (Lists.packed (form_of bytes).channels) (S.packed (form_of bytes).steps) ≡ 0)
  unfolding read_answer
  parts = none_refused (form_of bytes).answer _ h

  whole : read_of bytes ≡ record { answer = 0; version = (form_of bytes).version; list = Lists.packed (form_of bytes).channels; steps = S.packed (form_of bytes).steps }
  unfolding read_of
  whole = rw h

  version_is : (read_of bytes).version ≡ (form_of bytes).version
  version_is = ap (λ (r : Record). r.version) whole

  list_is : (read_of bytes).list ≡ Lists.packed (form_of bytes).channels
  list_is = ap (λ (r : Record). r.list) whole

  steps_are : (read_of bytes).steps ≡ S.packed (form_of bytes).steps
  steps_are = ap (λ (r : Record). r.steps) whole

  judged : judge_plan (read_of bytes).version (read_of bytes).list (read_of bytes).steps ≡ 0
  judged = rw (version_is, list_is, steps_are) parts.1

  back : record_for (read_of bytes).version (read_of bytes).list (read_of bytes).steps ≡ bytes
  back =
      let n = judged_counts _ _ _ parts.1 in
      rw (
        version_is,
        list_is,
        steps_are,
        channels_packed (form_of bytes).channels (omega (arith, n.0, list_count (form_of bytes).channels)),
        steps_packed (form_of bytes).steps (omega (arith, n.1, packed_count (S.packed (form_of bytes).steps) _ refl)),
      ) (form_back bytes b parts.0)

  accepted : (out : List ℕ) → length bytes ≤ length out → write_answer (read_of bytes).version (read_of bytes).list (read_of bytes).steps out ≡ 0
  accepted out l = write_fits _ _ _ _ refl judged out (rw back l)

  gives_back : WrittenRead bytes
  gives_back =
      record {
        form = form_back bytes b parts.0;
        record_is = back;
        length_is = λ out l. written_length _ _ _ out (accepted out l) ∙ rw back;
        written = λ out l. written_bytes_lem _ _ _ out (accepted out l) ∙ rw back;
      }

pub written_read : WrittenReadLaw
written_read = gives_back

pub one_record : OneRecord
one_record x y bx by h e =
    let k = sym (read_answer_lem y (read_of x) e) ∙ read_answer_lem x (read_of x) refl ∙ h in
    sym (back x bx h) ∙ ap (λ (r : Record). record_for r.version r.list r.steps) e ∙ back y by k
