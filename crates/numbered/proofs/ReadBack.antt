-- A record from numbers reads as the version, the channels and the steps of the numbers (specs/Laws.antt): it is the record of their flat arrays, which crate
-- record reads back. Assumes nothing.
use mathlib.Core.Path.{◌≡◌, ap, ◌∙◌}
use mathlib.Core.List.{List}
use Prim.Native.Nat.{ℕ}
use lib.ListN.{length, get_or, take, drop}
use lib.Seq.{take-append_seam}
use Rattle.list.specs.Lists as Lists
use Rattle.list.proofs.Asking.{none_refused}
use Rattle.plan.specs.Steps as S
use Rattle.record.specs.Records.{read_of}
use Rattle.record.proofs.ReadWritten.{read_written}
use Rattle.numbered.specs.Numbered.{channels_of, steps_of, bytes_of, judge_numbers, answer, record_after, length_after}
use Rattle.numbered.specs.Arrays.{list_of, plan_of}
use Rattle.numbered.specs.Laws.{ReadBack}
use Rattle.numbered.proofs.Arrays.{list_channels, plan_steps}
use Rattle.numbered.proofs.Judged.{Accepted, accepted, map_over, numbers_plan}
use Rattle.numbered.proofs.Outcomes.{filled, record_by}

-- ---- a record that was made
module _ (version : ℕ) (ns ms bytes len : List ℕ) (z : answer version ns ms bytes len ≡ 0) where
  judged : judge_numbers version ns ms ≡ 0
  unfolding answer
  judged = (none_refused (judge_numbers version ns ms) _ z).0

  is : Accepted version ns ms
  is = accepted version ns ms judged

  front : take (get_or (length_after version ns ms bytes len) 0 0) (record_after version ns ms bytes len) ≡ bytes_of version ns ms
  front =
      let k = filled version ns ms bytes len z in
      rw (← k.1, ← k.2) (take-append_seam (bytes_of version ns ms) (drop (length (bytes_of version ns ms)) bytes))

  reads : read_of (bytes_of version ns ms) ≡ record { answer = 0; version = version; list = Lists.packed (channels_of ns); steps = S.packed (steps_of ms) }
  reads =
      let w = (read_written version (list_of ns) (plan_of ms) (numbers_plan version ns ms ∙ judged)).read in
      rw (
        record_by version ns ms judged (λ n. n) (map_over (steps_of ms)),
        list_channels ns is.list.0,
        plan_steps (λ n. n) ms is.steps.0,
        map_over (steps_of ms),
      ) at w

pub read_back : ReadBack
read_back version ns ms bytes len z = ap read_of (front version ns ms bytes len z) ∙ reads version ns ms bytes len z
