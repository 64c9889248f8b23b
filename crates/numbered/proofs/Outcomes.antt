-- What a record from numbers comes to (`answer`, `record_after` and `length_after` of specs/Numbered.antt), by the answers that the code has found on
-- the way: questions 3 to 11, then 14, then what the record's writer gave. Assumes nothing.
use mathlib.Core.Path.{◌≡◌, refl, sym, ap, ◌∙◌}
use mathlib.Core.Bool.{Bool, true, false, cond, ◌&&◌, and-true, and-eq-true_iff}
use mathlib.Core.List.{List, [], ◌∷◌, ◌++◌}
use Prim.Native.Nat.{ℕ, ◌≤◌}
use native.Mathlib.Omega.{arith}
use lib.Dec.{eqb, leb}
use lib.ListN.{length, drop, set}
use borrow.Author.Tests.{eqb-true, ne_eqb, leb-true}
use Rattle.numbers.specs.Numbers.{refused_length}
use Rattle.list.specs.declared.ChannelList.{ChannelList}
use Rattle.list.specs.Tables.{map}
use Rattle.list.specs.Questions.{ask}
use Rattle.plan.specs.declared.Steps.{Steps}
use Rattle.record.specs.Told.{Written}
use Rattle.record.specs.Bytes.{record_room}
use Rattle.record.specs.Records as W
use Rattle.record.specs.Records.{record_for, write_answer, written_of, written_bytes}
use Rattle.record.proofs.Joined.{record_most}
use Rattle.record.proofs.Outcomes.{written_length, written_bytes_lem}
use Rattle.numbered.specs.Numbered.{channel_numbers, step_numbers, whole, channels_of, steps_of, bytes_of, judge_numbers, slices_allowed, answer, record_after, length_after}
use Rattle.numbered.specs.Arrays.{list_of, plan_by, held}
use Rattle.numbered.proofs.Fields.{channels_count, steps_count}
use Rattle.numbered.proofs.Arrays.{over, list_channels, plan_steps}
use Rattle.numbered.proofs.Holding.{meant_same}
use Rattle.numbered.proofs.Judged.{Accepted, accepted, numbers_held}

-- ---- by the answer
abbrev pub Results : ℕ → List ℕ → List ℕ → List ℕ → List ℕ → ℕ → List ℕ → List ℕ → Type 0
Results version ns ms bytes len a out n = (a ≡ answer version ns ms bytes len) × (out ≡ record_after version ns ms bytes len) × (n ≡ length_after version ns ms bytes len)

module _ (version : ℕ) (ns ms bytes len : List ℕ) where
  pub kept : (a : ℕ) → answer version ns ms bytes len ≡ a → (a ≡ 0 → ⊥) → Results version ns ms bytes len a bytes len
  unfolding record_after length_after
  kept a e z = (sym e, rw (e, ne_eqb a 0 z), rw (e, ne_eqb a 0 z))

  pub filled : answer version ns ms bytes len ≡ 0
      → Results version ns ms bytes len 0 (bytes_of version ns ms ++ drop (length (bytes_of version ns ms)) bytes) (length (bytes_of version ns ms) ∷ drop 1 len)
  unfolding record_after length_after
  filled e = (sym e, rw e, rw e)

-- ---- the record's writer
pub written_answer : (version : ℕ) (l : ChannelList) (s : Steps) (out : List ℕ) → (written_of version l s out).answer ≡ write_answer version l s out
unfolding W.written_of
written_answer version l s out = go (eqb (write_answer version l s out) 0) refl
  where
    go : (t : Bool) → eqb (write_answer version l s out) 0 ≡ t
        → (cond {A = Written} t (record { answer = 0; size = length (record_for version l s) }) (record { answer = write_answer version l s out; size = 0 })).answer ≡ write_answer version l s out
    go true e = sym (eqb-true (write_answer version l s out) 0 e)
    go false e = refl

pub bytes_kept : (version : ℕ) (l : ChannelList) (s : Steps) (out : List ℕ) → (write_answer version l s out ≡ 0 → ⊥) → written_bytes version l s out ≡ out
unfolding W.written_bytes
bytes_kept version l s out z = rw (ne_eqb (write_answer version l s out) 0 z)

-- no remainder, and a number for the length
abbrev slices : List ℕ → List ℕ → List ℕ → Bool
slices ns ms len = (whole channel_numbers ns && whole step_numbers ms) && leb 1 (length len)

module _ (ns ms len : List ℕ) (h : slices ns ms len ≡ true) where
  parts : ((whole channel_numbers ns && whole step_numbers ms) ≡ true) × (leb 1 (length len) ≡ true)
  parts = (and-eq-true_iff (whole channel_numbers ns && whole step_numbers ms) (leb 1 (length len))).0 h

  pub length_room : 1 ≤ length len
  length_room = leb-true 1 (length len) parts.1

first_set : (len : List ℕ) (n : ℕ) → 1 ≤ length len → set len 0 n ≡ n ∷ drop 1 len
first_set [] n h = absurd (omega arith)
first_set (x ∷ len) n h = refl

-- numbers that questions 3 to 11 accept
module _ (version : ℕ) (ns ms : List ℕ) (z : judge_numbers version ns ms ≡ 0) where
  is : Accepted version ns ms
  is = accepted version ns ms z

  -- the arrays' record is that of the numbers, where f keeps the steps
  pub record_by : (f : ℕ → ℕ) → map (over f) (steps_of ms) ≡ steps_of ms → record_for version (list_of ns) (plan_by f ms) ≡ bytes_of version ns ms
  unfolding bytes_of
  record_by f e = rw (list_channels ns is.list.0, plan_steps f ms is.steps.0, e)

  record_is : record_for version (list_of ns) (plan_by held ms) ≡ bytes_of version ns ms
  record_is = record_by held (meant_same version (steps_of ms) (channels_of ns) (omega (arith, channels_count ns, is.list.0)) is.meant)

  bytes_few : length (bytes_of version ns ms) ≤ record_room
  unfolding bytes_of
  bytes_few =
      record_most version (channels_of ns) (steps_of ms) (omega (arith, channels_count ns, is.list.0)) (omega (arith, steps_count ms, is.steps.0))

  write_asked : (bytes : List ℕ) → write_answer version (list_of ns) (plan_by held ms) bytes ≡ ask (leb (length (bytes_of version ns ms)) (length bytes)) refused_length 0
  unfolding W.write_answer
  write_asked bytes = rw (numbers_held version ns ms is.counted is.list, z, record_is)

-- ---- by the code's answers: a to questions 3 to 11
module _ (version : ℕ) (ns ms bytes len : List ℕ) (a : ℕ) (ea : a ≡ judge_numbers version ns ms) where
  pub numbers_refused : (a ≡ 0 → ⊥) → Results version ns ms bytes len a bytes len
  unfolding answer
  numbers_refused n = kept version ns ms bytes len a (rw (← ea, ne_eqb a 0 n)) n

  module _ (z : a ≡ 0) where
    asked : answer version ns ms bytes len ≡ ask (slices_allowed version ns ms bytes len) refused_length 0
    unfolding answer
    asked = rw (← ea, z)

    pub slices_refused : slices ns ms len ≡ false → Results version ns ms bytes len refused_length bytes len
    unfolding slices_allowed
    slices_refused h =
        kept version ns ms bytes len refused_length
        (asked ∙ go (whole channel_numbers ns && whole step_numbers ms) (leb 1 (length len)) (leb (length (bytes_of version ns ms)) (length bytes)) h)
        (λ e. omega arith)
      where
        go : (x y b : Bool) → (x && y) ≡ false → ask (x && (b && y)) refused_length 0 ≡ refused_length
        go false y b e = refl
        go true y false e = refl
        go true y true e = rw e

    -- w and out are what the record's writer gave
    module _ (h : slices ns ms len ≡ true) (l : ChannelList) (s : Steps) (el : l ≡ list_of ns) (es : s ≡ plan_by held ms) (w : Written) (out : List ℕ)
        (ew : w ≡ written_of version l s bytes) (eo : out ≡ written_bytes version l s bytes) where
      gave : w ≡ written_of version (list_of ns) (plan_by held ms) bytes
      gave = ew ∙ rw (el, es)

      left : out ≡ written_bytes version (list_of ns) (plan_by held ms) bytes
      left = eo ∙ rw (el, es)

      writer_answer : write_answer version (list_of ns) (plan_by held ms) bytes ≡ w.answer
      writer_answer = sym (ap (λ (x : Written). x.answer) gave ∙ written_answer version (list_of ns) (plan_by held ms) bytes)

      same_answer : answer version ns ms bytes len ≡ w.answer
      unfolding slices_allowed
      same_answer =
          asked
          ∙ rw ((parts ns ms len h).0, (parts ns ms len h).1, and-true (leb (length (bytes_of version ns ms)) (length bytes))) (sym (write_asked version ns ms (sym ea ∙ z) bytes) ∙ writer_answer)

      pub writing_refused : (w.answer ≡ 0 → ⊥) → Results version ns ms bytes len w.answer out len
      writing_refused n =
          let e : out ≡ bytes = left ∙ bytes_kept version (list_of ns) (plan_by held ms) bytes (λ q. n (sym writer_answer ∙ q)) in
          rw e (kept version ns ms bytes len w.answer same_answer n)

      module _ (ok : w.answer ≡ 0) where
        writes : write_answer version (list_of ns) (plan_by held ms) bytes ≡ 0
        writes = writer_answer ∙ ok

        length_is : w.size ≡ length (bytes_of version ns ms)
        length_is =
            ap (λ (x : Written). x.size) (gave ∙ written_length version (list_of ns) (plan_by held ms) bytes writes)
            ∙ ap length (record_is version ns ms (sym ea ∙ z))

        out_is : out ≡ bytes_of version ns ms ++ drop (length (bytes_of version ns ms)) bytes
        out_is = left ∙ rw (← record_is version ns ms (sym ea ∙ z)) (written_bytes_lem version (list_of ns) (plan_by held ms) bytes writes)

        pub length_few : w.size ≤ record_room
        length_few = omega (arith, length_is, bytes_few version ns ms (sym ea ∙ z))

        pub writing_done : Results version ns ms bytes len 0 out (set len 0 w.size)
        writing_done = rw (out_is, length_is, first_set len (length (bytes_of version ns ms)) (length_room ns ms len h)) (filled version ns ms bytes len (same_answer ∙ ok))
