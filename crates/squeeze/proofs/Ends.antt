-- What a call on a record comes to (specs/Entry.antt), by what the reader of its form, the plan run and the writer promise: the run and the writer
-- judge the plan. Assumes nothing.
use mathlib.Core.Path.{◌≡◌, refl, sym, ◌∙◌}
use mathlib.Core.Bool.{Bool, true, false, cond, ◌&&◌}
use mathlib.Core.List.{List}
use Prim.Native.Nat.{ℕ}
use lib.Dec.{eqb}
use lib.IntN.{ℤ}
use lib.ListN.{length}
use borrow.Author.Tests.{ne_eqb, eqb-true, eqb-false, eq-eqb}
use Rattle.std.specs.Prelude.{Err}
use Rattle.numbers.specs.declared.Refusal.{Refusal}
use Rattle.numbers.specs.Numbers.{refused_length, number_of}
use Rattle.numbers.proofs.Refusals.{number_some}
use Rattle.channel.specs.declared.Channel.{Channel}
use Rattle.list.specs.declared.ChannelList.{ChannelList}
use Rattle.list.specs.declared.Step.{Step}
use Rattle.list.specs.Lists.{channels, total}
use Rattle.list.specs.Questions.{ask}
use Rattle.plan.specs.declared.Steps.{Steps}
use Rattle.plan.specs.Steps.{steps}
use Rattle.plan.specs.Plans.{meant, judge_plan}
use Rattle.record.specs.Told.{Record, record_told}
use Rattle.record.specs.Reading.{form_of}
use Rattle.record.specs.Records.{packed_form, read_answer, read_of, channels_of, steps_of}
use Rattle.record.proofs.Outcomes.{read_refused, form_judged, form_read}
use Rattle.record.proofs.Readings.{read_answer_lem, read_zero, read_judged, version_is, list_back, steps_back}
use Rattle.buffer.specs.Buffer.{zeros}
use Rattle.runs.specs.Runs.{rebuilt, squeezed}
use Rattle.rebuild.specs.Rebuild as B
use Rattle.write.specs.Write as W
use Rattle.runs.specs.Marks.{run_marked, run_written_marked}
use Rattle.squeeze.specs.Entry.{answer, picture_of, pyramid_of, work_of}
use Rattle.squeeze.specs.Marked.{with_mark, slice_after, rebuild_mark, write_mark}
use Rattle.squeeze.proofs.WithMark.{with_room, no_room, slice_same}

-- ---- a call on a plan: its answer, the slice that it fills by `run`, and the work slice
abbrev asked : ℕ → ChannelList → Steps → List ℤ → List ℤ → List ℤ → ℕ
asked version l s p q w =
    ask (eqb (judge_plan version l s) 0) (judge_plan version l s)
    (ask (eqb (length p) (total (channels l)) && (eqb (length q) (total (channels l)) && eqb (length w) (total (channels l)))) refused_length 0)

abbrev filled : (List Step → List Channel → List ℤ → List ℤ) → ℕ → ChannelList → Steps → List ℤ → List ℤ → List ℤ → List ℤ
filled run version l s p q w = cond (eqb (asked version l s p q w) 0) (run (meant version (steps s) (channels l)) (channels l) p) q

abbrev worked : ℕ → ChannelList → Steps → List ℤ → List ℤ → List ℤ → List ℤ
worked version l s p q w = cond (eqb (asked version l s p q w) 0) (zeros w) w

-- the same of a record
abbrev filled_of : (List Step → List Channel → List ℤ → List ℤ) → List ℕ → List ℤ → List ℤ → List ℤ → List ℤ
filled_of run bytes p q w = cond (eqb (answer bytes p q w) 0) (run (steps_of bytes) (channels_of bytes) p) q

-- ---- a record that is refused: a is its answer
module _ (bytes : List ℕ) (a : ℕ) (e : a ≡ read_answer bytes) (h : a ≡ 0 → ⊥) (p q w : List ℤ) where
  refused_answer : a ≡ answer bytes p q w
  unfolding answer
  refused_answer = rw (← e, ne_eqb a 0 h)

-- ---- a record that is accepted: f is what `read_record` gives
module _ (bytes : List ℕ) (f : Record) (e : f ≡ read_of bytes) (z : f.answer ≡ 0) (p q w : List ℤ) where
  write_answer_lem : W.answer f.version f.list f.steps p q w ≡ answer bytes p q w
  unfolding W.answer W.slices_fit answer
  write_answer_lem = rw (read_judged bytes f e z, read_zero bytes f e z, list_back bytes f e z)

module _ (run : List Step → List Channel → List ℤ → List ℤ) (bytes : List ℕ) (p q w : List ℤ) where
  abbrev Ended : ℕ → List ℤ → List ℤ → Type 0
  Ended a q' w' = (a ≡ answer bytes p q w) × (q' ≡ filled_of run bytes p q w) × (w' ≡ work_of bytes p q w)

  -- a record that is refused: a is its answer
  module _ (a : ℕ) (e : a ≡ read_answer bytes) (h : a ≡ 0 → ⊥) where
    kept : Ended a q w
    unfolding work_of
    kept =
        let r = refused_answer bytes a e h p q w in
        let z : eqb (answer bytes p q w) 0 ≡ false = rw (← r) (ne_eqb a 0 h) in
        (r, rw z, rw z)

  -- f is what `read_form` gave
  module _ (f : Record) (e : f ≡ packed_form (form_of bytes)) where
    refused : (f.answer ≡ 0 → ⊥) → Ended f.answer q w
    refused h = kept f.answer (read_answer_lem bytes f (read_refused bytes f e h)) h

    -- a form that passes, with the plan accepted or refused
    done : f.answer ≡ 0 → (r : ℕ) (q' w' : List ℤ)
        → (r ≡ asked f.version f.list f.steps p q w) × (q' ≡ filled run f.version f.list f.steps p q w) × (w' ≡ worked f.version f.list f.steps p q w)
        → Ended r q' w'
    unfolding W.answer W.slices_fit work_of
    done z r q' w' h = by (eqb (judge_plan f.version f.list f.steps) 0) refl
      where
        by : (b : Bool) → eqb (judge_plan f.version f.list f.steps) 0 ≡ b → Ended r q' w'
        by true t =
            let g = form_read bytes f e z (eqb-true (judge_plan f.version f.list f.steps) 0 t) in
            let n : asked f.version f.list f.steps p q w ≡ answer bytes p q w = write_answer_lem bytes f g z p q w in
            (h.0 ∙ n, h.1 ∙ rw (n, version_is bytes f g z, list_back bytes f g z, steps_back bytes f g z) refl, h.2 ∙ rw n refl)
        by false t =
            let k = kept (judge_plan f.version f.list f.steps) (form_judged bytes f e z) (eqb-false _ 0 t) in
            (h.0 ∙ rw t k.0, h.1 ∙ rw (t, t) k.1, h.2 ∙ rw (t, t) k.2)

    -- the questions of such a form and of the slices are the record's
    asked_is : f.answer ≡ 0 → asked f.version f.list f.steps p q w ≡ answer bytes p q w
    asked_is z =
        (done z (asked f.version f.list f.steps p q w) (filled run f.version f.list f.steps p q w) (worked f.version f.list f.steps p q w) (refl, refl, refl)).0

-- what a run tells of a plan that is accepted, it tells of the record
told_of : (told : List Step → List Channel → List ℤ → Bool) (bytes : List ℕ) (p q w : List ℤ) (f : Record) → f ≡ packed_form (form_of bytes) → f.answer ≡ 0
    → 0 ≡ asked f.version f.list f.steps p q w
    → told (meant f.version (steps f.steps) (channels f.list)) (channels f.list) p ≡ told (steps_of bytes) (channels_of bytes) p
told_of told bytes p q w f e z h = by (eqb (judge_plan f.version f.list f.steps) 0) refl
  where
    by : (b : Bool) → eqb (judge_plan f.version f.list f.steps) 0 ≡ b
        → told (meant f.version (steps f.steps) (channels f.list)) (channels f.list) p ≡ told (steps_of bytes) (channels_of bytes) p
    by true t =
        let g = form_read bytes f e z (eqb-true (judge_plan f.version f.list f.steps) 0 t) in
        rw (version_is bytes f g z, list_back bytes f g z, steps_back bytes f g z) refl
    by false t = let k : 0 ≡ judge_plan f.version f.list f.steps = rw t at h in absurd (eqb-false (judge_plan f.version f.list f.steps) 0 t (sym k))

-- ---- the plan run, and the writer
module _ (bytes : List ℕ) (p q w : List ℤ) where
  -- r is what `read_form` refused, and a the answer
  module _ (r : Refusal) (e : record_told (Err r) ≡ packed_form (form_of bytes)) (a : ℕ) (h : a ≡ number_of r) where
    pub rebuild_refused : (a ≡ answer bytes p q w) × (q ≡ picture_of bytes p q w) × (w ≡ work_of bytes p q w)
    unfolding picture_of
    rebuild_refused = rw h (refused rebuilt bytes p q w (record_told (Err r)) e (number_some r))

    pub write_refused : (a ≡ answer bytes p q w) × (q ≡ pyramid_of bytes p q w) × (w ≡ work_of bytes p q w)
    unfolding pyramid_of
    write_refused = rw h (refused squeezed bytes p q w (record_told (Err r)) e (number_some r))

  -- f is what `read_form` gave
  module _ (f : Record) (e : f ≡ packed_form (form_of bytes)) (z : f.answer ≡ 0) (r : ℕ) (q' w' : List ℤ) where
    pub rebuild_done : (r ≡ B.answer_of f.version f.list f.steps p q w) × (q' ≡ B.picture_after f.version f.list f.steps p q w) × (w' ≡ B.work_after f.version f.list f.steps p q w)
        → (r ≡ answer bytes p q w) × (q' ≡ picture_of bytes p q w) × (w' ≡ work_of bytes p q w)
    unfolding B.answer_of B.slices_fit B.picture_after B.work_after picture_of
    rebuild_done = done rebuilt bytes p q w f e z r q' w'

    -- beside a slice with room for the mark
    pub rebuild_with : (mark : List ℕ) → (length mark ≡ 0 → ⊥)
        → (r ≡ B.answer_of f.version f.list f.steps p q w) × (q' ≡ B.picture_after f.version f.list f.steps p q w) × (w' ≡ B.work_after f.version f.list f.steps p q w)
        → (r ≡ with_mark (answer bytes p q w) mark) × (q' ≡ slice_after (answer bytes p q w) mark (picture_of bytes p q w) q)
        × (w' ≡ slice_after (answer bytes p q w) mark (work_of bytes p q w) w)
    unfolding picture_of work_of
    rebuild_with mark room h =
        let d = rebuild_done h in
        let u = answer bytes p q w in
        let k = with_room u mark room in
        (d.0 ∙ k, d.1 ∙ slice_same u mark k (rebuilt (steps_of bytes) (channels_of bytes) p) q, d.2 ∙ slice_same u mark k (zeros w) w)

    pub rebuild_told : 0 ≡ B.answer_of f.version f.list f.steps p q w → B.mark f.version f.list f.steps p q w ≡ rebuild_mark bytes p
    unfolding B.mark B.answer_of B.slices_fit
    rebuild_told h = rw (eq-eqb (asked f.version f.list f.steps p q w) 0 (sym h)) (told_of run_marked bytes p q w f e z h)

    pub write_done : (r ≡ W.answer f.version f.list f.steps p q w) × (q' ≡ W.written f.version f.list f.steps p q w) × (w' ≡ W.cleared f.version f.list f.steps p q w)
        → (r ≡ answer bytes p q w) × (q' ≡ pyramid_of bytes p q w) × (w' ≡ work_of bytes p q w)
    unfolding W.answer W.slices_fit W.written W.cleared pyramid_of
    write_done = done squeezed bytes p q w f e z r q' w'

    pub write_with : (mark : List ℕ) → (length mark ≡ 0 → ⊥)
        → (r ≡ W.answer f.version f.list f.steps p q w) × (q' ≡ W.written f.version f.list f.steps p q w) × (w' ≡ W.cleared f.version f.list f.steps p q w)
        → (r ≡ with_mark (answer bytes p q w) mark) × (q' ≡ slice_after (answer bytes p q w) mark (pyramid_of bytes p q w) q)
        × (w' ≡ slice_after (answer bytes p q w) mark (work_of bytes p q w) w)
    unfolding pyramid_of work_of
    write_with mark room h =
        let d = write_done h in
        let u = answer bytes p q w in
        let k = with_room u mark room in
        (d.0 ∙ k, d.1 ∙ slice_same u mark k (squeezed (steps_of bytes) (channels_of bytes) p) q, d.2 ∙ slice_same u mark k (zeros w) w)

    pub write_told : 0 ≡ W.answer f.version f.list f.steps p q w → W.mark f.version f.list f.steps p q w ≡ write_mark bytes p
    unfolding W.mark W.answer W.slices_fit
    write_told h = rw (eq-eqb (asked f.version f.list f.steps p q w) 0 (sym h)) (told_of run_written_marked bytes p q w f e z h)

  -- ---- a call with a mark's slice that is refused, by its form or for want of room: a is its answer
  module _ (f : Record) (e : f ≡ packed_form (form_of bytes)) (z : f.answer ≡ 0) (a : ℕ) (mark : List ℕ) where
    pub without_room : length mark ≡ 0 → a ≡ ask (eqb (judge_plan f.version f.list f.steps) 0) (judge_plan f.version f.list f.steps) refused_length
        → a ≡ with_mark (answer bytes p q w) mark
    without_room n h =
        no_room (judge_plan f.version f.list f.steps) (answer bytes p q w) a _ mark n (sym (asked_is rebuilt bytes p q w f e z)) h
