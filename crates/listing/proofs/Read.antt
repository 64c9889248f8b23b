-- The lines of a record's plan, from what the reader of its form, the plan and the coarse count gave (crate record, proofs/Reached.antt). Assumes
-- nothing.
use mathlib.Core.Path.{◌≡◌, sym, ◌∙◌}
use mathlib.Core.List.{List}
use Prim.Native.Nat.{ℕ, ◌≤◌}
use Rattle.list.specs.Questions.{Stepped}
use Rattle.list.specs.Lists.{max_steps, channels}
use Rattle.plan.specs.Coarse.{CoarseCount, coarse_count, coarse_of}
use Rattle.plan.specs.Plans.{Planned, rewritten, meant_steps}
use Rattle.plan.specs.Steps as S
use Rattle.plan.specs.Version.{rule_of}
use Rattle.record.specs.Told.{Record}
use Rattle.record.specs.Reading.{form_of}
use Rattle.record.specs.Records.{packed_form}
use Rattle.record.proofs.Reached.{read_accepted, version_is, channels_are, steps_are, coarse_is}
use Rattle.listing.specs.Listing.{lines_text, listing}
use Rattle.listing.proofs.Outcomes.{listing_read}

pub lines_are : (bytes : List ℕ) (f : Record) (ef : f ≡ packed_form (form_of bytes)) (z : f.answer ≡ 0)
    → (r : Stepped) (er : r ≡ rewritten f.version f.list f.steps) (a : r.answer ≡ 0)
    → (m : Planned) → m ≡ meant_steps f.version f.list f.steps → m.steps.count ≤ max_steps
    → (q : CoarseCount) → q ≡ coarse_of f.version r.list
    → lines_text (S.steps m.steps) (channels r.list) q.count ≡ listing bytes
lines_are bytes f ef z r er a m em room q eq =
    let v = version_is bytes f ef z r er a in
    let s = steps_are bytes f ef z r er a m em room in
    let c = channels_are bytes f ef z r er a in
    let n = coarse_is bytes f ef z r er a q eq ∙ (λ i. coarse_count (rule_of (v i)).stop (c i)) in
    (λ i. lines_text (s i) (c i) (n i)) ∙ sym (listing_read bytes (read_accepted bytes f ef z r er a))
