-- Each channel's origin (specs/Origins.antt): the laws of whole runs are those of crate origins; what is left is that the calls give the layout and the
-- origins that they speak of, that no other definition reads origins, and the wrong ones, which differ on three squares. Assumes nothing.
use mathlib.Core.Path.{◌≡◌, refl, sym, ap, ◌∙◌}
use mathlib.Core.Bool.{Bool, true, false, cond}
use mathlib.Core.List.{List, [], ◌∷◌}
use Prim.Native.Nat.{ℕ}
use native.Mathlib.Omega.{arith}
use lib.Dec.{eqb}
use lib.IntN.{ℤ}
use lib.ListN.{length, get_or}
use borrow.Author.Tests.{eqb-true, eqb-false, ne_eqb}
use Rattle.channel.specs.declared.Channel.{Channel}
use Rattle.channel.specs.Channel as C
use Rattle.list.specs.declared.ChannelList.{ChannelList}
use Rattle.list.specs.declared.Step.{Step}
use Rattle.list.specs.Questions.{Stepped}
use Rattle.list.specs.Tables.{map}
use Rattle.list.specs.Lists as Lists
use Rattle.list.specs.Lists.{channels, origins, own_positions, holding, stepped, stepped_origins, next_list}
use Rattle.list.specs.Questions as Questions
use Rattle.list.specs.Questions.{judge_list, judge_step, taken}
use Rattle.list.proofs.Channels.{channels_length, origins_length}
use Rattle.list.proofs.Entries.{stepped_length, origins_stepped}
use Rattle.list.proofs.Packed.{channels_held, origins_held, origins_packed}
use Rattle.list.proofs.Acceptance.{list_accepted, step_accepted, held_accepted}
use Rattle.list.proofs.Kept.{stepped_allowed}
use Rattle.list.proofs.Taken.{list_passed, on_refused, step_taken}
use Rattle.plan.specs.declared.Steps.{Steps}
use Rattle.plan.specs.Steps as StepsSpec
use Rattle.plan.specs.Version as Versions
use Rattle.plan.specs.Version.{standard_version}
use Rattle.plan.specs.Coarse as Count
use Rattle.plan.specs.Plans as Plans
use Rattle.plan.specs.Plans.{judge_plan, judge_steps, stepped_all, origins_all, origins_left, meant, rewritten}
use Rattle.plan.proofs.Runs.{none_refused}
use Rattle.plan.proofs.Judged.{plan_answer, meant_judged, reached_back, reached_origins}
use Rattle.record.specs.Bytes.{record_of}
use Rattle.record.specs.Reading as Reading
use Rattle.record.specs.Reading.{Form}
use Rattle.record.specs.Records as Records
use Rattle.record.specs.Records.{read_answer, read_of, channels_of, steps_of, reached_of, origins_of}
use Rattle.record.proofs.Readings.{channels_accepted, steps_judged}
use Rattle.record.proofs.RecordOf.{record_form, record_accepted}
use Rattle.layout.proofs.Back.{numbers_back}
use Rattle.runs.proofs.Taken.{by_taken}
use Rattle.runs.specs.Runs.{is_taken, layout}
use Rattle.origins.specs.Origins.{origins_from, layout_origins}
use Rattle.origins.proofs.Whole.{origin_laws}
use Rattle.rebuild.specs.Rebuild as Rebuild
use Rattle.write.specs.Write as Write
use Rattle.claims.specs.Origins.{after_steps, WholeRuns, with_origins, OnlyOrigins, squares, square_steps, own_residuals, squeezed_positions, left_behind, left_in_range, origins_by, OriginsRefuted, TakenOverRefuted, NotThrough, Origins}
use Rattle.claims.proofs.Demands.{layout_reached}

-- ---- steps one by one
module _ (s : Step) (l : ChannelList) (z : judge_list l ≡ 0) where
  took : is_taken s (channels l) ≡ true
      → (judge_list (taken s l).list ≡ 0) × (channels (taken s l).list ≡ stepped s (channels l)) × (origins (taken s l).list ≡ stepped_origins s (origins l))
  took t =
      let h = eqb-true (judge_step s (channels l)) 0 t in
      let ok = step_accepted s (channels l) h in
      let all = stepped_allowed s (channels l) ok (list_accepted l z) in
      let i = ok.inside in
      let n = channels_length l in
      let m = origins_length l in
      let same : length (stepped_origins s (origins l)) ≡ length (stepped s (channels l)) = omega (arith, origins_stepped s (origins l) (omega arith), stepped_length s (channels l) i) in
      let e : (taken s l).list ≡ next_list s l = ap (λ (x : Stepped). x.list) (step_taken s l z h) in
      (ap judge_list e ∙ held_accepted _ _ all, ap channels e ∙ channels_held _ _ all.few, ap origins e ∙ origins_held _ _ all.few same)

  stayed : is_taken s (channels l) ≡ false → (taken s l).list ≡ l
  stayed t = ap (λ (x : Stepped). x.list) (list_passed s l z ∙ on_refused s l (eqb-false (judge_step s (channels l)) 0 t))

step_by_step : (ss : List Step) (l : ChannelList) → judge_list l ≡ 0
    → (channels (after_steps ss l) ≡ layout ss (channels l)) × (origins (after_steps ss l) ≡ origins_from ss (channels l) (origins l))
step_by_step [] l z = (refl, refl)
step_by_step (s ∷ ss) l z =
    by_taken s (channels l)
    (λ t.
    let k = took s l z t in
    let r = step_by_step ss (taken s l).list k.0 in
    rw t (r.0 ∙ ap (layout ss) k.1, r.1 ∙ (λ i. origins_from ss (k.1 i) (k.2 i))))
    (λ t. rw (t, stayed s l z t) (step_by_step ss l z))

-- ---- a plan, and a record
origins_reached : (ss : List Step) (cs : List Channel) (os : List ℕ) → judge_steps ss cs ≡ 0 → origins_from ss cs os ≡ origins_all ss os
origins_reached [] cs os h = refl
origins_reached (s ∷ ss) cs os h =
    let a = none_refused (judge_step s cs) (judge_steps ss (stepped s cs)) h in
    rw a.0 (origins_reached ss (stepped s cs) (stepped_origins s os) a.1)

planned : (version : ℕ) (l : ChannelList) (s : Steps) → (rewritten version l s).answer ≡ 0
    → (channels (rewritten version l s).list ≡ layout (meant version (StepsSpec.steps s) (channels l)) (channels l))
    × (origins (rewritten version l s).list ≡ layout_origins (meant version (StepsSpec.steps s) (channels l)) (channels l))
planned version l s z =
    let ok = sym (plan_answer version l s (rewritten version l s) refl) ∙ z in
    let ss = meant version (StepsSpec.steps s) (channels l) in
    let j = meant_judged version l s ok in
    (reached_back version l s ok (rewritten version l s) refl ∙ sym (layout_reached ss (channels l) j), reached_origins version l s ok (rewritten version l s) refl ∙ sym (origins_reached ss (channels l) _ j))

read : (bytes : List ℕ) → read_answer bytes ≡ 0 → origins (read_of bytes).list ≡ own_positions (length (channels_of bytes))
unfolding Records.read_of
read bytes z =
    let e : (read_of bytes).list ≡ Lists.packed (channels_of bytes) = rw z in
    ap origins e ∙ origins_packed (channels_of bytes) (channels_accepted bytes z).few

laid_out : (bytes : List ℕ) → read_answer bytes ≡ 0
    → (reached_of bytes ≡ layout (steps_of bytes) (channels_of bytes)) × (origins_of bytes ≡ layout_origins (steps_of bytes) (channels_of bytes))
laid_out bytes z =
    let j = steps_judged bytes z in
    (sym (layout_reached (steps_of bytes) (channels_of bytes) j), sym (origins_reached (steps_of bytes) (channels_of bytes) _ j))

whole_runs : WholeRuns
whole_runs = record { laws = origin_laws; step_by_step = step_by_step; planned = planned; read = read; laid_out = laid_out }

-- ---- what reads no origins: each definition has the count and the channels of a list alone
held_same : (cs : List Channel) (os ps : List ℕ) → channels (holding cs os) ≡ channels (holding cs ps)
unfolding Lists.channels Lists.holding
held_same cs os ps = refl

module _ (os : List ℕ) (l : ChannelList) where
  same : channels (with_origins os l) ≡ channels l
  unfolding Lists.channels
  same = refl

  judged : judge_list (with_origins os l) ≡ judge_list l
  unfolding Questions.judge_list
  judged = rw same

  plan_judged : (version : ℕ) (s : Steps) → judge_plan version (with_origins os l) s ≡ judge_plan version l s
  unfolding Plans.judge_plan Plans.judge_form
  plan_judged version s = rw same

  step_judged : (s : Step) → Questions.step_answer s (with_origins os l) ≡ Questions.step_answer s l
  unfolding Questions.step_answer
  step_judged s = rw (judged, same)

  only_stepped : (s : Step) → ((taken s (with_origins os l)).answer ≡ (taken s l).answer) × (channels (taken s (with_origins os l)).list ≡ channels (taken s l).list)
  unfolding Questions.taken
  only_stepped s = rw (step_judged s) (by (eqb (Questions.step_answer s l) 0))
    where
      by : (b : Bool)
          → ((cond {A = Stepped} b (record { answer = 0; list = next_list s (with_origins os l) }) (record { answer = Questions.step_answer s l; list = with_origins os l })).answer
          ≡ (cond {A = Stepped} b (record { answer = 0; list = next_list s l }) (record { answer = Questions.step_answer s l; list = l })).answer)
          × (channels (cond {A = Stepped} b (record { answer = 0; list = next_list s (with_origins os l) }) (record { answer = Questions.step_answer s l; list = with_origins os l })).list
          ≡ channels (cond {A = Stepped} b (record { answer = 0; list = next_list s l }) (record { answer = Questions.step_answer s l; list = l })).list)
      by true =
          let ps = stepped_origins s (origins (with_origins os l)) in
          (refl, ap (λ (cs : List Channel). channels (holding (stepped s cs) ps)) same ∙ held_same (stepped s (channels l)) ps (stepped_origins s (origins l)))
      by false = (refl, same)

  only_meant : (version : ℕ) (s : Steps) → Plans.meant_steps version (with_origins os l) s ≡ Plans.meant_steps version l s
  unfolding Plans.meant_steps Plans.judge_meaning Plans.judge_form
  only_meant version s = rw same

  module _ (version : ℕ) (s : Steps) where
    only_rewrites : (rewritten version (with_origins os l) s).answer ≡ (rewritten version l s).answer
    only_rewrites =
        plan_answer version (with_origins os l) s _ refl ∙ plan_judged version s ∙ sym (plan_answer version l s _ refl)

    only_leaves : (rewritten version l s).answer ≡ 0 → (rewritten version (with_origins os l) s).list ≡ (rewritten version l s).list
    unfolding Plans.rewritten Plans.outcome
    only_leaves z = let ok = sym (plan_answer version l s _ refl) ∙ z in rw (plan_judged version s, same, ok)

    only_refuses : ((rewritten version l s).answer ≡ 0 → ⊥) → (rewritten version (with_origins os l) s).list ≡ with_origins os l
    unfolding Plans.rewritten Plans.outcome
    only_refuses h = let n = ne_eqb (judge_plan version l s) 0 (λ e. h (plan_answer version l s _ refl ∙ e)) in rw (plan_judged version s, n)

    only_written : (out : List ℕ)
        → (Records.written_of version (with_origins os l) s out ≡ Records.written_of version l s out)
        × (Records.written_bytes version (with_origins os l) s out ≡ Records.written_bytes version l s out)
    unfolding Records.written_of Records.written_bytes Records.write_answer
    only_written out = (rw (plan_judged version s, same), rw (plan_judged version s, same))

    only_rebuilt : (pyramid picture work : List ℤ)
        → (Rebuild.answer_of version (with_origins os l) s pyramid picture work ≡ Rebuild.answer_of version l s pyramid picture work)
        × (Rebuild.picture_after version (with_origins os l) s pyramid picture work ≡ Rebuild.picture_after version l s pyramid picture work)
    unfolding Rebuild.answer_of Rebuild.slices_fit Rebuild.picture_after
    only_rebuilt pyramid picture work = (rw (plan_judged version s, same), rw (plan_judged version s, same))

    only_squeezed : (picture pyramid work : List ℤ)
        → (Write.answer version (with_origins os l) s picture pyramid work ≡ Write.answer version l s picture pyramid work)
        × (Write.written version (with_origins os l) s picture pyramid work ≡ Write.written version l s picture pyramid work)
    unfolding Write.answer Write.written
    only_squeezed picture pyramid work = (rw (plan_judged version s, same), rw (plan_judged version s, same))

  only_coarse : (version : ℕ) → Count.coarse_of version (with_origins os l) ≡ Count.coarse_of version l
  unfolding Count.coarse_of
  only_coarse version = rw same

  only_origins : OnlyOrigins os l
  only_origins =
      record {
        same = same;
        judged = judged;
        stepped = only_stepped;
        meant = only_meant;
        rewrites = only_rewrites;
        leaves = only_leaves;
        refuses = only_refuses;
        coarse = only_coarse;
        written = only_written;
        rebuilt = only_rebuilt;
        squeezed = only_squeezed;
      }

-- ---- the wrong ones
bytes : List ℕ
bytes = record_of standard_version squares square_steps

foreign : ChannelList
foreign = with_origins (5 ∷ 5 ∷ 5 ∷ []) (Lists.packed squares)

meant_here : List Step
meant_here = meant standard_version square_steps squares

-- origin k of a list of them
at : List ℕ → ℕ → ℕ
at os k = get_or os k 9

record Computed : Type 0 where
  pub judged : judge_plan standard_version (Lists.packed squares) (StepsSpec.packed square_steps) ≡ 0
  pub left : origins_left meant_here squares ≡ 0 ∷ 0 ∷ 0 ∷ 1 ∷ 2 ∷ 1 ∷ []
  pub own : at (origins_by own_residuals meant_here (own_positions 3)) 1 ≡ 1
  pub positions : at (origins_by squeezed_positions meant_here (own_positions 3)) 2 ≡ 1
  pub behind : at (origins_by left_behind meant_here (own_positions 3)) 1 ≡ 1
  pub inside : at (origins_by left_in_range meant_here (own_positions 3)) 4 ≡ 1
  pub zeros : at (map (λ _. 0) (stepped_all meant_here squares)) 3 ≡ 0
  pub foreign_judged : judge_plan standard_version foreign (StepsSpec.packed square_steps) ≡ 0
  pub taken_over : at (origins_from (meant standard_version (StepsSpec.steps (StepsSpec.packed square_steps)) (channels foreign)) (channels foreign) (origins foreign)) 0 ≡ 5
  pub own_there : at (origins_left (meant standard_version (StepsSpec.steps (StepsSpec.packed square_steps)) (channels foreign)) (channels foreign)) 0 ≡ 0
  pub laid_out : (layout_origins square_steps squares ≡ 0 ∷ 0 ∷ 0 ∷ 1 ∷ 2 ∷ 1 ∷ []) × (length (layout square_steps squares) ≡ 6)

computed : Computed
unfolding
    foreign meant_here at
    C.is_meta C.shifts_allowed C.sides_fit C.is_allowed C.samples
    Lists.channels Lists.origins Lists.holding Lists.raised Lists.average Lists.residual Lists.stepped Lists.stepped_origins
    Questions.count_allowed Questions.channels_allowed Questions.total_allowed Questions.range_allowed Questions.kinds_alike Questions.place_allowed Questions.has_sides Questions.shifts_kept Questions.room_left Questions.judge_step
    StepsSpec.flags_of StepsSpec.flags_allowed StepsSpec.steps StepsSpec.all_flags StepsSpec.packed Versions.is_version
    Plans.meant Plans.meant_allowed Plans.judge_form Plans.judge_meant Plans.judge_plan
computed =
    record {
      judged = refl;
      left = refl;
      own = refl;
      positions = refl;
      behind = refl;
      inside = refl;
      zeros = refl;
      foreign_judged = refl;
      taken_over = refl;
      own_there = refl;
      laid_out = (refl, refl);
    }

form_is : Reading.form_of bytes ≡ record { answer = 0; version = standard_version; channels = squares; steps = square_steps }
unfolding bytes
form_is = record_form standard_version squares square_steps computed.judged

accepted : read_answer bytes ≡ 0
unfolding bytes
accepted = record_accepted standard_version squares square_steps computed.judged

-- what is made of the record's version, steps and channels, of the squares'
of_squares {ℓ} : {A : Type ℓ} (g : List Step → List Channel → A) → g (steps_of bytes) (channels_of bytes) ≡ g meant_here squares
unfolding meant_here
of_squares g = ap (λ (f : Form). g (meant f.version f.steps f.channels) f.channels) form_is

right : (k : ℕ) → at (origins_of bytes) k ≡ at (0 ∷ 0 ∷ 0 ∷ 1 ∷ 2 ∷ 1 ∷ []) k
right k = ap (λ (os : List ℕ). at os k) (of_squares origins_left ∙ computed.left)

-- origins that differ at k
differs : (g : List Step → List Channel → List ℕ) (k n : ℕ) → at (g meant_here squares) k ≡ n → (n ≡ at (0 ∷ 0 ∷ 0 ∷ 1 ∷ 2 ∷ 1 ∷ []) k → ⊥)
    → OriginsRefuted (λ b. g (steps_of b) (channels_of b))
differs g k n e h all = h (sym e ∙ ap (λ (os : List ℕ). at os k) (sym (of_squares g) ∙ all bytes accepted) ∙ right k)

along_by : (Step → List ℕ → List ℕ) → List Step → List Channel → List ℕ
along_by f ss cs = origins_by f ss (own_positions (length cs))

taken_over : TakenOverRefuted
unfolding at
taken_over all =
    let s = StepsSpec.packed square_steps in
    let ok = computed.foreign_judged in
    let z = plan_answer standard_version foreign s (rewritten standard_version foreign s) refl ∙ ok in
    let e = all standard_version foreign s z ∙ reached_origins standard_version foreign s ok (rewritten standard_version foreign s) refl in
    absurd (omega (arith, computed.taken_over, computed.own_there, ap (λ (os : List ℕ). get_or os 0 9) e))

not_through : NotThrough
unfolding along_by at
not_through =
    record {
      own_residuals_lem = differs (along_by own_residuals) 1 1 computed.own (λ e. absurd (omega arith));
      squeezed_positions_lem = differs (along_by squeezed_positions) 2 1 computed.positions (λ e. absurd (omega arith));
      left_behind_lem = differs (along_by left_behind) 1 1 computed.behind (λ e. absurd (omega arith));
      left_in_range_lem = differs (along_by left_in_range) 4 1 computed.inside (λ e. absurd (omega arith));
      zero_for_all_lem = differs (λ ss cs. map (λ _. 0) (stepped_all ss cs)) 3 0 computed.zeros (λ e. absurd (omega arith));
      taken_over = taken_over;
    }

pub origins_known : Origins
origins_known =
    record {
      whole_runs = whole_runs;
      only_origins = only_origins;
      numbers_back = numbers_back;
      not_through = not_through;
      squares_left = computed.laid_out;
    }
