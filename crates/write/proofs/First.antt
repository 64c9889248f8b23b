-- A list's channels in the picture, before the first step: what they hold one after the other is the picture. Assumes nothing.
use mathlib.Core.Path.{◌≡◌, refl, sym, ◌∙◌}
use mathlib.Core.Bool.{Bool, false}
use mathlib.Core.List.{List, [], ◌∷◌, ◌++◌}
use Prim.Native.Nat.{ℕ, ◌+◌, ◌*◌, ◌≤◌}
use native.Mathlib.Omega.{arith}
use borrow.Author.Tests.{leb-true}
use lib.IntN.{ℤ}
use lib.ListN.{length, drop}
use lib.Seq.{take-add, take_all, drop-drop}
use Rattle.numbers.specs.Numbers.{max_samples}
use Rattle.channel.specs.declared.Channel.{Channel}
use Rattle.channel.specs.Channel.{samples}
use Rattle.list.specs.declared.ChannelList.{ChannelList}
use Rattle.list.specs.Lists.{channels, total}
use Rattle.list.specs.Questions as Questions
use Rattle.list.specs.Questions.{judge_list}
use Rattle.list.proofs.Acceptance.{list_accepted}
use Rattle.places.specs.declared.Place.{Place}
use Rattle.places.specs.Places as Places
use Rattle.places.specs.Places.{behind, places_from}
use Rattle.places.specs.Laid as Laid
use Rattle.places.specs.Laid.{part}
use Rattle.places.proofs.First.{from_sided, from_laid}
use Rattle.plan.specs.declared.Steps.{Steps}
use Rattle.plan.specs.Steps.{steps}
use Rattle.plan.specs.Plans.{judge_steps}
use Rattle.runs.specs.Parts.{joined}
use Rattle.write.specs.Standing as Standing
use Rattle.write.specs.Standing.{Alike, held}
use Rattle.write.proofs.Running.{Running, running_none}

-- two parts, one after the other
part_more : (at n m : ℕ) (xs : List ℤ) → part at n xs ++ part (at + n) m xs ≡ part at (n + m) xs
unfolding Laid.part
part_more at n m xs = rw (← drop-drop n at xs) (sym (take-add n m (drop at xs)))

held_from : (picture odds evens : List ℤ) (at : ℕ) (cs : List Channel) → at + total cs ≤ max_samples
    → joined (held picture odds evens (places_from at cs)) ≡ part at (total cs) picture
unfolding Standing.lying Laid.part Places.behind samples
held_from picture odds evens at [] h = refl
held_from picture odds evens at (c ∷ cs) h =
    let n = c.width * c.height in
    let b : behind at n ≡ at + n = omega arith in
    rw (b, held_from picture odds evens (at + n) cs (omega arith)) (part_more at n (total cs) picture)

-- what the steps start from
pub first_running : (l : ChannelList) (s : Steps) (marks : Bool) (picture odds evens : List ℤ) → judge_list l ≡ 0
    → judge_steps (steps s) (channels l) ≡ 0 → length picture ≡ total (channels l) → Alike picture odds evens
    → (ps : List Place) → ps ≡ places_from 0 (channels l) → Running (channels l) s picture marks ps odds evens false 0
unfolding Questions.total_allowed Laid.part
first_running l s marks picture odds evens ok judged long alike ps e =
    let fine = list_accepted l ok in
    let t = leb-true (total (channels l)) max_samples fine.samples in
    let h : joined (held picture odds evens (places_from 0 (channels l))) ≡ picture =
    held_from picture odds evens 0 (channels l) (omega arith) ∙ take_all (total (channels l)) picture (omega arith) in
    rw e
    (running_none (channels l) s picture marks (places_from 0 (channels l)) odds evens fine judged long (from_sided 0 (channels l))
    (rw long (from_laid (channels l) t)) alike h)
