-- A record from numbers is what the record's writer makes of their flat arrays (specs/Laws.antt), and a refusal keeps both slices. Assumes nothing.
use mathlib.Core.Path.{◌≡◌, refl, sym, ap, ◌∙◌}
use mathlib.Core.Bool.{Bool, true, false, ◌&&◌, and-true}
use mathlib.Core.List.{List}
use Prim.Native.Nat.{ℕ, ◌≤◌}
use lib.Dec.{eqb, leb}
use lib.ListN.{length}
use borrow.Author.Tests.{eqb-true, eqb-false, ne_eqb, le-leb}
use Rattle.numbers.specs.Numbers.{refused_length}
use Rattle.list.specs.Questions.{ask}
use Rattle.list.proofs.Asking.{none_refused}
use Rattle.plan.specs.Steps as S
use Rattle.record.specs.Records as W
use Rattle.record.specs.Records.{record_for, write_answer, written_of}
use Rattle.record.proofs.Outcomes.{written_length, written_bytes_lem}
use Rattle.numbered.specs.Numbered.{channel_numbers, step_numbers, whole, steps_of, bytes_of, judge_numbers, slices_allowed, answer}
use Rattle.numbered.specs.Arrays.{list_of, plan_of}
use Rattle.numbered.specs.Laws.{AsWritten, AsWrittenLaw, PlanPacked, RefusalKeeps}
use Rattle.numbered.proofs.Arrays.{packed_by}
use Rattle.numbered.proofs.Judged.{map_over, numbers_plan}
use Rattle.numbered.proofs.Outcomes.{kept, filled, written_answer, bytes_kept, record_by}

pub refusal_keeps : RefusalKeeps
refusal_keeps version ns ms bytes len z =
    let k = kept version ns ms bytes len (answer version ns ms bytes len) refl z in
    (sym k.1, sym k.2)

module _ (version : ℕ) (ns ms bytes len : List ℕ) (wholes : (whole channel_numbers ns && whole step_numbers ms) ≡ true) (room : 1 ≤ length len) where
  record_is : judge_numbers version ns ms ≡ 0 → record_for version (list_of ns) (plan_of ms) ≡ bytes_of version ns ms
  record_is z = record_by version ns ms z (λ n. n) (map_over (steps_of ms))

  same_answer : write_answer version (list_of ns) (plan_of ms) bytes ≡ answer version ns ms bytes len
  unfolding W.write_answer answer slices_allowed
  same_answer =
      rw (numbers_plan version ns ms, wholes, le-leb 1 (length len) room, and-true (leb (length (bytes_of version ns ms)) (length bytes)))
      (go (eqb (judge_numbers version ns ms) 0) refl)
    where
      go : (t : Bool) → eqb (judge_numbers version ns ms) 0 ≡ t
          → ask t (judge_numbers version ns ms) (ask (leb (length (record_for version (list_of ns) (plan_of ms))) (length bytes)) refused_length 0)
          ≡ ask t (judge_numbers version ns ms) (ask (leb (length (bytes_of version ns ms)) (length bytes)) refused_length 0)
      go true e = rw (record_is (eqb-true (judge_numbers version ns ms) 0 e))
      go false e = refl

  gave : (written_of version (list_of ns) (plan_of ms) bytes).answer ≡ answer version ns ms bytes len
  gave = written_answer version (list_of ns) (plan_of ms) bytes ∙ same_answer

  -- nothing is refused
  module _ (z : answer version ns ms bytes len ≡ 0) where
    judged : judge_numbers version ns ms ≡ 0
    unfolding answer
    judged = (none_refused (judge_numbers version ns ms) _ z).0

    made : AsWritten version ns ms bytes len
    made =
        let k = filled version ns ms bytes len z in
        let e = record_is judged in
        record {
          answered = sym gave;
          written = sym k.1 ∙ rw (← e) (sym (written_bytes_lem version (list_of ns) (plan_of ms) bytes (same_answer ∙ z)));
          told = sym k.2 ∙ rw (gave ∙ z, written_length version (list_of ns) (plan_of ms) bytes (same_answer ∙ z), e);
        }

  refused : (answer version ns ms bytes len ≡ 0 → ⊥) → AsWritten version ns ms bytes len
  refused n =
      let k = refusal_keeps version ns ms bytes len n in
      record {
        answered = sym gave;
        written = k.0 ∙ sym (bytes_kept version (list_of ns) (plan_of ms) bytes (λ e. n (sym same_answer ∙ e)));
        told = k.1 ∙ rw (gave, ne_eqb (answer version ns ms bytes len) 0 n);
      }

  either : AsWritten version ns ms bytes len
  either = go (eqb (answer version ns ms bytes len) 0) refl
    where
      go : (t : Bool) → eqb (answer version ns ms bytes len) 0 ≡ t → AsWritten version ns ms bytes len
      go true e = made (eqb-true _ 0 e)
      go false e = refused (eqb-false _ 0 e)

pub as_written : AsWrittenLaw
as_written version ns ms bytes len n m room = either version ns ms bytes len (rw (n, m)) room

-- ---- the arrays of the steps, which hold them as they are
pub plan_packed : PlanPacked
unfolding S.packed
plan_packed ms a = packed_by (λ n. n) ms a ∙ ap S.packed (map_over (steps_of ms))
