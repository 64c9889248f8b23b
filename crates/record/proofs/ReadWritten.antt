-- A record that the writer makes reads as what it was made of: each field is accepted and gives its channel or step. Assumes nothing.
use mathlib.Core.Path.{◌≡◌, refl, sym, ap, ◌∙◌}
use mathlib.Core.Bool.{Bool, true, false, cond, ◌&&◌, ◌||◌, not, or-true, and-eq-true_iff, not-not, true≢false, false≢true}
use mathlib.Core.List.{List, [], ◌∷◌, ◌++◌, append-nil, append_assoc}
use Prim.Native.Nat.{ℕ, zero, suc, ◌+◌, ◌<◌, ◌≤◌}
use native.Mathlib.Omega.{arith}
use lib.Dec.{eqb, ltb}
use lib.ListN.{length, drop, length-append}
use lib.Seq.{append_snoc, take-append_seam}
use borrow.Author.Tests.{eqb-true, ltb-false, lt-ltb, le-leb, ne_eqb}
use Rattle.channel.specs.declared.Channel.{Channel}
use Rattle.channel.specs.Channel.{is_meta, shifts_allowed, sides_fit, is_allowed}
use Rattle.channel.proofs.Sides.{fit_sides}
use Rattle.list.specs.declared.ChannelList.{ChannelList}
use Rattle.list.specs.declared.Step.{Step}
use Rattle.list.specs.Tables.{all}
use Rattle.list.specs.Lists as Lists
use Rattle.list.specs.Lists.{max_channels, max_steps, channels, stepped}
use Rattle.list.specs.Questions as Q
use Rattle.list.specs.Questions.{judge_step, meta_first}
use Rattle.list.proofs.MetaFirst.{allowed_after}
use Rattle.list.proofs.Acceptance.{list_accepted, step_accepted}
use Rattle.plan.specs.declared.Steps.{Steps}
use Rattle.plan.specs.Version.{standard_version, house_version, is_version}
use Rattle.plan.specs.Steps as S
use Rattle.plan.specs.Plans as P
use Rattle.plan.specs.Plans.{judge_steps, judge_meant, judge_plan}
use Rattle.record.specs.Told.{Record}
use Rattle.record.specs.Bytes.{version_tag, version_length, head_length, low, high, max_short_side, is_strip, short_field, strip_field, channel_field, step_field, version_field, channel_fields, step_fields, list_fields, record_of}
use Rattle.record.specs.Reading.{field_size, field_channel, field_step, field_inside, has_head, is_channel, is_step, channel_allowed, tag_allowed, judge_channel_field, judge_step_field, judge_field, answer_of, read_fields, fields_of, has_version_tag, judge_version_field, form_of}
use Rattle.record.specs.Records.{read_answer, read_of, record_for}
use Rattle.record.specs.Laws.{ReadWritten, ReadWrittenLaw}
use Rattle.record.proofs.Fields.{judged_inside}
use Rattle.record.proofs.Flags.{flags_allowed_lem, flags_back}
use Rattle.record.proofs.Words.{word_back, long_back}
use Rattle.record.proofs.Pushed.{metas_pushed}
use Rattle.record.proofs.Joined.{channel_within, step_size_lem}
use Rattle.plan.proofs.Runs.{none_refused}
use Rattle.plan.proofs.Judged.{judged_parts, judged_list, judged_version, steps_few}
use Rattle.record.proofs.Judged.{judged_packed}
use Rattle.record.proofs.Outcomes.{written_length, written_bytes_lem}

-- ---- one field, and `rest` after it
is_inside_lem : (bytes : List ℕ) → head_length ≤ length bytes → field_size bytes ≤ length bytes → field_inside bytes ≡ true
unfolding field_inside
is_inside_lem bytes h m = rw (le-leb head_length (length bytes) h, le-leb (field_size bytes) (length bytes) m)

-- a field that is refused nothing
field_turn : (version : ℕ) (bytes rest : List ℕ) (cs : List Channel) (ss : List Step) → answer_of bytes cs ss ≡ 0 → drop (field_size bytes) bytes ≡ rest → (turns : ℕ)
    → read_fields version (suc turns) bytes cs ss
    ≡ cond (is_step bytes) (read_fields version turns rest cs (ss ++ field_step bytes ∷ [])) (read_fields version turns rest (cs ++ field_channel bytes ∷ []) ss)
field_turn version bytes rest cs ss z e turns =
    let n : length bytes ≡ 0 → ⊥ = λ k. omega (arith, (judged_inside bytes _ _ _ z).0) in
    rw (ne_eqb (length bytes) 0 n, z, e)

abbrev StepFits : Step → Type 0
StepFits s = (s.begin < 65536) × (s.number < 65536)

module _ (s : Step) (rest : List ℕ) (fits : StepFits s) where
  step_read : field_step (step_field s ++ rest) ≡ s
  unfolding step_field
  step_read =
      let b = word_back s.begin fits.0 in
      let n = word_back s.number fits.1 in
      λ i. record { horizontal = (flags_back s).0 i; inplace = (flags_back s).1 i; begin = b i; number = n i }

  step_known : is_step (step_field s ++ rest) ≡ true
  unfolding step_field has_head is_step
  step_known = refl

  step_judged : (channels : ℕ) (metas : Bool) (steps : ℕ) → steps < max_steps → judge_field (step_field s ++ rest) channels metas steps ≡ 0
  unfolding step_field judge_field judge_step_field
  step_judged channels metas steps h =
      rw (is_inside_lem (step_field s ++ rest) (omega arith) (omega arith), step_known, or-true (is_channel (step_field s ++ rest) steps), lt-ltb steps max_steps h, flags_allowed_lem s)

  step_rest : drop (field_size (step_field s ++ rest)) (step_field s ++ rest) ≡ rest
  unfolding step_field
  step_rest = refl

  step_turn : (version turns : ℕ) (cs : List Channel) (ss : List Step) → length ss < max_steps
      → read_fields version (suc turns) (step_field s ++ rest) cs ss ≡ read_fields version turns rest cs (ss ++ s ∷ [])
  step_turn version turns cs ss h =
      field_turn version (step_field s ++ rest) rest cs ss (step_judged (length cs) (all is_meta cs) (length ss) h) step_rest turns ∙ rw (step_known, step_read)

-- bytes that begin with a field of the channel c, of either kind
record Reads (c : Channel) (bytes rest : List ℕ) : Type 0 where
  inside_is : field_inside bytes ≡ true
  known : is_channel bytes 0 ≡ true
  other : is_step bytes ≡ false
  read : field_channel bytes ≡ c
  tag : tag_allowed bytes ≡ true
  rest_is : drop (field_size bytes) bytes ≡ rest

module _ (c : Channel) (rest : List ℕ) where
  short_sides : is_strip c ≡ false → (c.width < 65536) × (c.height < 65536)
  unfolding is_strip
  short_sides s = go (ltb max_short_side c.width) refl s
    where
      go : (t : Bool) → ltb max_short_side c.width ≡ t → (t || ltb max_short_side c.height) ≡ false → (c.width < 65536) × (c.height < 65536)
      go true e k = absurd (true≢false k)
      go false e k = (omega (arith, ltb-false max_short_side c.width e), omega (arith, ltb-false max_short_side c.height k))

  short_reads : is_strip c ≡ false → Reads c (short_field c ++ rest) rest
  unfolding short_field has_head is_channel is_step field_channel tag_allowed
  short_reads s =
      let f = short_sides s in
      let w = word_back c.width f.0 in
      let h = word_back c.height f.1 in
      record {
        inside_is = is_inside_lem (short_field c ++ rest) (omega arith) (omega arith);
        known = refl;
        other = refl;
        read = λ i. record { width = w i; height = h i; hshift = c.hshift; vshift = c.vshift };
        tag = refl;
        rest_is = refl;
      }

  strip_reads : is_strip c ≡ true → sides_fit c ≡ true → Reads c (strip_field c ++ rest) rest
  unfolding strip_field has_head is_channel is_step field_channel tag_allowed
  strip_reads s a =
      let f = fit_sides c a in
      let w = long_back c.width (omega arith) in
      let h = long_back c.height (omega arith) in
      let r : field_channel (strip_field c ++ rest) ≡ c = λ i. record { width = w i; height = h i; hshift = c.hshift; vshift = c.vshift } in
      record {
        inside_is = is_inside_lem (strip_field c ++ rest) (omega arith) (omega arith);
        known = refl;
        other = refl;
        read = r;
        tag = ap is_strip r ∙ s;
        rest_is = refl;
      }

  channel_reads : sides_fit c ≡ true → Reads c (channel_field c ++ rest) rest
  unfolding channel_field
  channel_reads a = go (is_strip c) refl
    where
      go : (t : Bool) → is_strip c ≡ t → Reads c (cond t (strip_field c) (short_field c) ++ rest) rest
      go true e = strip_reads e a
      go false e = short_reads e

  allowed_sides : (metas : Bool) → channel_allowed c metas ≡ true → sides_fit c ≡ true
  unfolding channel_allowed is_allowed
  allowed_sides metas a =
      let b = (and-eq-true_iff (shifts_allowed c && sides_fit c) (not (is_meta c) || metas)).0 a in
      ((and-eq-true_iff (shifts_allowed c) (sides_fit c)).0 b.0).1

  channel_judged : (channels : ℕ) (metas : Bool) → channels < max_channels → channel_allowed c metas ≡ true → judge_field (channel_field c ++ rest) channels metas 0 ≡ 0
  unfolding judge_field judge_channel_field
  channel_judged channels metas h a =
      let r = channel_reads (allowed_sides metas a) in
      rw (r.inside_is, r.known, r.other, lt-ltb channels max_channels h, r.read, a, r.tag)

  channel_turn : (version turns : ℕ) (cs : List Channel) → length cs < max_channels → channel_allowed c (all is_meta cs) ≡ true
      → read_fields version (suc turns) (channel_field c ++ rest) cs [] ≡ read_fields version turns rest (cs ++ c ∷ []) []
  channel_turn version turns cs h a =
      let r = channel_reads (allowed_sides (all is_meta cs) a) in
      field_turn version (channel_field c ++ rest) rest cs [] (channel_judged (length cs) (all is_meta cs) h a) r.rest_is turns ∙ rw (r.other, r.read)

-- ---- the fields of a record
abbrev Each {ℓ} : {A : Type ℓ} → (A → Type 0) → List A → Type 0
Each P [] = Unit {0}
Each P (x ∷ xs) = P x × Each P xs

steps_read : (version turns : ℕ) (cs : List Channel) (done ss : List Step) → 1 ≤ length cs → length done + length ss ≤ max_steps → Each StepFits ss
    → length (step_fields ss) ≤ turns → read_fields version turns (step_fields ss) cs done ≡ record { answer = 0; version = version; channels = cs; steps = done ++ ss }
steps_read version zero cs done [] some few f l = rw (le-leb 1 (length cs) some, append-nil)
steps_read version (suc turns) cs done [] some few f l = rw (le-leb 1 (length cs) some, append-nil)
steps_read version zero cs done (s ∷ ss) some few f l = absurd (omega (arith, length-append (step_field s) (step_fields ss), step_size_lem s))
steps_read version (suc turns) cs done (s ∷ ss) some few f l =
    step_turn s (step_fields ss) f.0 version turns cs done (omega arith)
    ∙ steps_read version turns cs (done ++ s ∷ []) ss some (omega (arith, length-append done (s ∷ []))) f.1
    (omega (arith, length-append (step_field s) (step_fields ss), step_size_lem s))
    ∙ rw (append_snoc done s ss)

-- "meta channels first", of the channel after `done`
allowed_first : (p a m x n f : Bool) → ((a && x) && cond p (not m && n) (cond m f n)) ≡ true
    → ((a && (not m || not p)) ≡ true) × ((x && cond (not m) n f) ≡ true)
allowed_first p false m x n f h = absurd (false≢true h)
allowed_first true true true true n f h = absurd (false≢true h)
allowed_first true true true false n f h = absurd (false≢true h)
allowed_first true true false x n f h = (refl, h)
allowed_first false true true x n f h = (refl, h)
allowed_first false true false x n f h = (refl, h)

module _ (done : List Channel) (c : Channel) (cs : List Channel) (h : allowed_after (not (all is_meta done)) (c ∷ cs) ≡ true) where
  first : (channel_allowed c (all is_meta done) ≡ true) × (allowed_after (not (is_meta c)) cs ≡ true)
  unfolding channel_allowed
  first = rw not-not at (allowed_first (not (all is_meta done)) (is_allowed c) (is_meta c) (all is_allowed cs) (all (λ d. not (is_meta d)) cs) (meta_first cs) h)

  after : allowed_after (not (all is_meta (done ++ c ∷ []))) cs ≡ true
  after = rw (← metas_pushed done c first.0) first.1

channels_read : (version turns : ℕ) (done cs : List Channel) (ss : List Step) → 1 ≤ length done + length cs → length done + length cs ≤ max_channels → length ss ≤ max_steps
    → allowed_after (not (all is_meta done)) cs ≡ true → Each StepFits ss → length (channel_fields cs ++ step_fields ss) ≤ turns
    → read_fields version turns (channel_fields cs ++ step_fields ss) done [] ≡ record { answer = 0; version = version; channels = done ++ cs; steps = ss }
channels_read version turns done [] ss some few short a fs l = steps_read version turns done [] ss (omega arith) (omega arith) fs l ∙ rw (append-nil done)
channels_read version zero done (c ∷ cs) ss some few short a fs l =
    absurd (omega (arith, length-append (channel_field c ++ channel_fields cs) (step_fields ss), length-append (channel_field c) (channel_fields cs), (channel_within c).0))
channels_read version (suc turns) done (c ∷ cs) ss some few short a fs l =
    rw (append_assoc (channel_field c) (channel_fields cs) (step_fields ss))
    (channel_turn c (channel_fields cs ++ step_fields ss) version turns done (omega arith) (first done c cs a).0
    ∙ channels_read version turns (done ++ c ∷ []) cs ss (omega (arith, length-append done (c ∷ []))) (omega (arith, length-append done (c ∷ []))) short (after done c cs a) fs
    (omega (
      arith,
      length-append (channel_field c ++ channel_fields cs) (step_fields ss),
      length-append (channel_field c) (channel_fields cs),
      length-append (channel_fields cs) (step_fields ss),
      (channel_within c).0,
    ))
    ∙ rw (append_snoc done c cs))

-- ---- a list and steps that the writer accepts
-- questions 7 and 11 bound a step's range
steps_fit : (ss : List Step) (cs : List Channel) → judge_steps ss cs ≡ 0 → Each StepFits ss
steps_fit [] cs h = tt
steps_fit (s ∷ ss) cs h =
    let b = none_refused (judge_step s cs) _ h in
    let a = step_accepted s cs b.0 in
    ((omega (arith, a.inside, a.room), omega (arith, a.inside, a.room)), steps_fit ss (stepped s cs) b.1)

meant_fit : (version : ℕ) (ss : List Step) (cs : List Channel) → judge_meant version ss cs ≡ 0 → Each StepFits ss
unfolding P.judge_meant P.meant_allowed P.meant
meant_fit version [] cs h = tt
meant_fit version (s ∷ ss) cs h = steps_fit (s ∷ ss) cs h

-- no field of a channel or a step has the version's tag
channels_tag : (c : Channel) (rest : List ℕ) → has_version_tag (channel_field c ++ rest) ≡ false
unfolding channel_field short_field strip_field
channels_tag c rest = go (is_strip c)
  where
    go : (t : Bool) → has_version_tag (cond t (strip_field c) (short_field c) ++ rest) ≡ false
    go true = refl
    go false = refl

list_tag : (cs : List Channel) (ss : List Step) → 1 ≤ length cs → has_version_tag (list_fields cs ss) ≡ false
unfolding list_fields
list_tag [] ss h = absurd (omega arith)
list_tag (c ∷ cs) ss h = rw (append_assoc (channel_field c) (channel_fields cs) (step_fields ss)) (channels_tag c (channel_fields cs ++ step_fields ss))

-- a record's form is that of its list's fields, with the version that stands before them
version_first : (version : ℕ) (cs : List Channel) (ss : List Step) → is_version version ≡ true → 1 ≤ length cs
    → form_of (record_of version cs ss) ≡ fields_of version (list_fields cs ss)
unfolding is_version version_field record_of form_of judge_version_field field_inside has_head
version_first version cs ss known some = go (eqb version standard_version) (eqb version house_version) refl refl known
  where
    -- the field lies inside: four bytes are there
    house : form_of (version_tag ∷ low version_length ∷ high version_length ∷ house_version ∷ list_fields cs ss) ≡ fields_of house_version (list_fields cs ss)
    house = let n = length (list_fields cs ss) in rw (le-leb head_length (suc (suc (suc (suc n)))) (omega arith), le-leb (suc (suc (suc (suc zero)))) (suc (suc (suc (suc n)))) (omega arith))

    go : (a b : Bool) → eqb version standard_version ≡ a → eqb version house_version ≡ b → (a || b) ≡ true
        → form_of (cond b (version_tag ∷ low version_length ∷ high version_length ∷ house_version ∷ []) [] ++ list_fields cs ss) ≡ fields_of version (list_fields cs ss)
    go a true ea eb k = rw (eqb-true version house_version eb) house
    go true false ea eb k = rw (list_tag cs ss some, eqb-true version standard_version ea)
    go false false ea eb k = absurd (true≢false (sym k))

module _ (version : ℕ) (l : ChannelList) (s : Steps) (h : judge_plan version l s ≡ 0) where
  form_is : form_of (record_for version l s) ≡ record { answer = 0; version = version; channels = channels l; steps = S.steps s }
  unfolding fields_of list_fields Q.channels_allowed
  form_is =
      let a = list_accepted l (judged_list version l s h) in
      version_first version (channels l) (S.steps s) (judged_version version l s h) a.some
      ∙ channels_read version (length (list_fields (channels l) (S.steps s))) [] (channels l) (S.steps s) (omega (arith, a.some)) (omega (arith, a.few))
      (steps_few version l s h) a.allowed (meant_fit version (S.steps s) (channels l) (judged_parts version l s h).1) (omega arith)

  read_is : read_of (record_for version l s) ≡ record { answer = 0; version = version; list = Lists.packed (channels l); steps = S.packed (S.steps s) }
  unfolding read_of read_answer
  read_is = rw (form_is, judged_packed version l s h)

  none_stays : s.count ≡ 0 → S.steps s ≡ []
  unfolding S.steps
  none_stays e = rw e

  gives_back : ReadWritten version l s
  gives_back =
      record {
        form = form_is;
        read = read_is;
        none = λ e. ap (λ (r : Record). r.steps) read_is ∙ ap S.packed (none_stays e);
        written = λ out e. rw (written_length version l s out e, written_bytes_lem version l s out e) (take-append_seam (record_for version l s) (drop (length (record_for version l s)) out));
      }

pub read_written : ReadWrittenLaw
read_written = gives_back
