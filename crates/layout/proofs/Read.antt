-- The rows of a record's layout, from what the reader of its form, the plan's run and the steps that are meant gave (crate record,
-- proofs/Reached.antt). Assumes nothing.
use mathlib.Core.Path.{◌≡◌, ap, ◌∙◌}
use mathlib.Core.Bool.{◌&&◌}
use mathlib.Core.List.{List}
use Prim.Native.Nat.{ℕ, ◌*◌, ◌≤◌, min}
use lib.Dec.{leb}
use lib.ListN.{length}
use Rattle.list.specs.Questions.{Stepped}
use Rattle.list.specs.Lists.{max_channels, max_steps, channels, origins}
use Rattle.plan.specs.Plans.{Planned, rewritten, meant_steps}
use Rattle.plan.specs.Steps as S
use Rattle.record.specs.Told.{Record}
use Rattle.record.specs.Reading.{form_of}
use Rattle.record.specs.Records.{packed_form}
use Rattle.record.proofs.Reached.{version_is, steps_are, channels_are, origins_are}
use Rattle.layout.specs.Layout.{Rows, rows_of, layout_of, all_fit}
use Rattle.layout.proofs.Outcomes.{room_is}

-- f is what `read_form` gave, p what `plan`
module _ (bytes : List ℕ) (f : Record) (ef : f ≡ packed_form (form_of bytes)) (z : f.answer ≡ 0)
    (r : Stepped) (er : r ≡ rewritten f.version f.list f.steps) (a : r.answer ≡ 0)
    (m : Planned) (em : m ≡ meant_steps f.version f.list f.steps) (room : m.steps.count ≤ max_steps) where
  pub rows_are : rows_of f.version (S.steps m.steps) (channels r.list) (origins r.list) ≡ layout_of bytes
  rows_are =
      let v = version_is bytes f ef z r er a in
      let s = steps_are bytes f ef z r er a m em room in
      let c = channels_are bytes f ef z r er a in
      let o = origins_are bytes f ef z r er a in
      λ i. rows_of (v i) (s i) (c i) (o i)

  -- question 14, of slices `out`: n and k are how many steps and channels there are
  pub fit_is : (n k : ℕ) → n ≡ min m.steps.count max_steps → k ≡ min r.list.count max_channels → (out : Rows)
      → (((leb 4 (length out.counts) && leb (3 * n) (length out.steps)) && leb (4 * k) (length out.channels)) && leb k (length out.origins))
      ≡ all_fit (layout_of bytes) out
  fit_is n k en ek out = room_is f.version m.steps r.list n k en ek out ∙ ap (λ (rs : Rows). all_fit rs out) rows_are
