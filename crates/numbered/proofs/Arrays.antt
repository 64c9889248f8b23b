-- What the numbers' flat arrays hold (specs/Arrays.antt): the list's channels, and the steps with their flags. Assumes nothing.
use mathlib.Core.Path.{◌≡◌, refl, sym, ap, ◌∙◌}
use mathlib.Core.Bool.{true}
use mathlib.Core.List.{List, [], ◌∷◌}
use Prim.Native.Nat.{ℕ, zero, suc, ◌<◌, ◌≤◌, min}
use native.Mathlib.Omega.{arith}
use lib.ListN.{get_or}
use Rattle.list.specs.declared.Step.{Step}
use Rattle.list.specs.Tables.{table, padded, map, all}
use Rattle.list.specs.Lists as Lists
use Rattle.list.specs.Lists.{max_channels, max_steps, channels}
use Rattle.list.proofs.Filled.{padded_at}
use Rattle.list.proofs.Packed.{channels_packed}
use Rattle.plan.specs.Steps as S
use Rattle.numbered.specs.Numbered.{channel_numbers, step_numbers, groups, channels_of, flags_at, first_at, number_at, step_at, steps_of, flags_of}
use Rattle.numbered.specs.Arrays.{list_of, plan_by, step_by}
use Rattle.numbered.proofs.Fields.{entry_at, channels_count, flags_small}
use Rattle.plan.specs.Steps.{flags_allowed}
use Rattle.list.proofs.Tables.{table_length, table_same, map_table}
use Rattle.record.proofs.Flags.{flags_read}

-- the step with its first channel and its number put through f
abbrev pub over : (ℕ → ℕ) → Step → Step
over f s = record { horizontal = s.horizontal; inplace = s.inplace; begin = f s.begin; number = f s.number }

-- ---- the list
module _ (ns : List ℕ) where
  pub list_count : (list_of ns).count ≡ groups channel_numbers ns
  unfolding Lists.holding
  list_count = channels_count ns

  pub list_channels : groups channel_numbers ns ≤ max_channels → channels (list_of ns) ≡ channels_of ns
  list_channels few = channels_packed (channels_of ns) (omega (arith, channels_count ns))

-- ---- the steps
module _ (f : ℕ → ℕ) (ms : List ℕ) where
  pub plan_count : (plan_by f ms).count ≡ groups step_numbers ms
  unfolding plan_by
  plan_count = refl

  module _ (few : groups step_numbers ms ≤ max_steps) where
    array_at : (g : ℕ → ℕ) (k : ℕ) → k < groups step_numbers ms → get_or (padded max_steps (table g 0 (groups step_numbers ms))) k 0 ≡ g k
    array_at g k h = padded_at max_steps (table g 0 (groups step_numbers ms)) k (omega arith) ∙ entry_at g (groups step_numbers ms) k 0 h

    all_meant : min (groups step_numbers ms) max_steps ≡ groups step_numbers ms
    all_meant = omega arith

    step_is : (k : ℕ) → k < groups step_numbers ms → S.step_at (plan_by f ms) k ≡ over f (step_at ms k)
    unfolding plan_by flags_of step_at
    step_is k h = rw (array_at (flags_at ms) k h, array_at (λ j. f (first_at ms j)) k h, array_at (λ j. f (number_at ms j)) k h)

    pub plan_steps : S.steps (plan_by f ms) ≡ map (over f) (steps_of ms)
    unfolding S.steps steps_of
    plan_steps =
        rw (plan_count, all_meant, map_table (over f) (step_at ms) 0 (groups step_numbers ms))
        (table_same (S.step_at (plan_by f ms)) (λ j. over f (step_at ms j)) 0 (groups step_numbers ms) (λ j m l. step_is j (omega arith)))

    pub plan_flags : S.all_flags (plan_by f ms) ≡ flags_of ms
    unfolding S.all_flags plan_by flags_of
    plan_flags = rw all_meant (table_same _ (flags_at ms) 0 (groups step_numbers ms) (λ j m l. array_at (flags_at ms) j (omega arith)))

-- ---- the arrays of steps with allowed flags hold the list of them
flags_by : (f : ℕ → ℕ) (ms : List ℕ) (k : ℕ) → flags_at ms k < 4 → S.flags_of (step_by f ms k) ≡ flags_at ms k
unfolding S.flags_of
flags_by f ms k h = flags_read (0 ∷ 0 ∷ 0 ∷ flags_at ms k ∷ []) h

module _ (f : ℕ → ℕ) (ms : List ℕ) (a : all flags_allowed (flags_of ms) ≡ true) where
  pub packed_table : plan_by f ms ≡ S.packed (table (step_by f ms) 0 (groups step_numbers ms))
  unfolding plan_by flags_of S.packed
  packed_table =
      let n = groups step_numbers ms in
      let l = table_length (step_by f ms) 0 n in
      let t = map_table S.flags_of (step_by f ms) 0 n ∙ table_same (λ j. S.flags_of (step_by f ms j)) (flags_at ms) 0 n (λ j m l. flags_by f ms j (flags_small ms j (omega arith) a)) in
      let b = map_table (λ (s : Step). s.begin) (step_by f ms) 0 n in
      let m = map_table (λ (s : Step). s.number) (step_by f ms) 0 n in
      λ i. record {
        count = sym l i;
        flags = padded max_steps (sym t i);
        begins = padded max_steps (sym b i);
        numbers = padded max_steps (sym m i);
      }

  pub packed_by : plan_by f ms ≡ S.packed (map (over f) (steps_of ms))
  unfolding steps_of step_at
  packed_by = packed_table ∙ ap S.packed (sym (map_table (over f) (step_at ms) 0 (groups step_numbers ms)))
