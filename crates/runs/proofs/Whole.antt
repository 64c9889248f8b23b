-- The claim over a whole list of steps (specs/Claim.antt), by induction along the list: an accepted step undoes its inverse both ways
-- (OneStep.antt), a refused one changes nothing. Assumes nothing.
use mathlib.Core.Path.{◌≡◌, refl, sym, ap, ◌∙◌}
use mathlib.Core.Bool.{true}
use mathlib.Core.List.{List, [], ◌∷◌}
use lib.IntN.{ℤ}
use Rattle.channel.specs.declared.Channel.{Channel}
use Rattle.list.specs.declared.Step.{Step}
use Rattle.list.specs.Lists.{stepped}
use Rattle.runs.specs.Runs.{is_taken, layout, rebuilt, squeezed, step_back, step_forward}
use Rattle.runs.specs.Claim.{Fills, ExactlyOne}
use Rattle.runs.proofs.Taken.{by_taken, taken_inside}
use Rattle.runs.proofs.OneStep.{forward_length, forward_samples, step_again, back_length, back_samples, back_again}

pub forward_fills : (s : Step) (cs : List Channel) (xs : List ℤ) → is_taken s cs ≡ true → Fills cs xs → Fills (stepped s cs) (step_forward s cs xs)
forward_fills s cs xs e f =
    let i = taken_inside s cs e in
    record { long = forward_length s cs i xs f.long f.samples; samples = forward_samples s cs i xs f.long f.samples }

back_fills : (s : Step) (cs : List Channel) (xs : List ℤ) → is_taken s cs ≡ true → Fills (stepped s cs) xs → Fills cs (step_back s cs xs)
back_fills s cs xs e f =
    let i = taken_inside s cs e in
    record { long = back_length s cs i xs f.long f.samples; samples = back_samples s cs i xs f.long f.samples }

-- ---- the writer's pyramid fills the layout and rebuilds to the picture
pub squeezed_fills : (ss : List Step) (cs : List Channel) (xs : List ℤ) → Fills cs xs → Fills (layout ss cs) (squeezed ss cs xs)
squeezed_fills [] cs xs f = f
squeezed_fills (s ∷ ss) cs xs f =
    by_taken s cs
    (λ t. rw t (squeezed_fills ss (stepped s cs) (step_forward s cs xs) (forward_fills s cs xs t f)))
    (λ t. rw t (squeezed_fills ss cs xs f))

pub squeezed_rebuilds : (ss : List Step) (cs : List Channel) (xs : List ℤ) → Fills cs xs → rebuilt ss cs (squeezed ss cs xs) ≡ xs
squeezed_rebuilds [] cs xs f = refl
squeezed_rebuilds (s ∷ ss) cs xs f =
    by_taken s cs
    (λ t.
    rw (t, squeezed_rebuilds ss (stepped s cs) (step_forward s cs xs) (forward_fills s cs xs t f))
    (step_again s cs (taken_inside s cs t) xs f.long f.samples))
    (λ t. rw t (squeezed_rebuilds ss cs xs f))

-- ---- a pyramid of the layout rebuilds to a picture of the list, and is that picture's pyramid
pub rebuilt_fills : (ss : List Step) (cs : List Channel) (ys : List ℤ) → Fills (layout ss cs) ys → Fills cs (rebuilt ss cs ys)
rebuilt_fills [] cs ys f = f
rebuilt_fills (s ∷ ss) cs ys f =
    by_taken s cs
    (λ t. rw t (back_fills s cs (rebuilt ss (stepped s cs) ys) t (rebuilt_fills ss (stepped s cs) ys (rw t at f))))
    (λ t. rw t (rebuilt_fills ss cs ys (rw t at f)))

pub rebuilt_squeezes : (ss : List Step) (cs : List Channel) (ys : List ℤ) → Fills (layout ss cs) ys → squeezed ss cs (rebuilt ss cs ys) ≡ ys
rebuilt_squeezes [] cs ys f = refl
rebuilt_squeezes (s ∷ ss) cs ys f =
    by_taken s cs
    (λ t.
    let g : Fills (layout ss (stepped s cs)) ys = rw t at f in
    let h = rebuilt_fills ss (stepped s cs) ys g in
    rw (t, back_again s cs (taken_inside s cs t) (rebuilt ss (stepped s cs) ys) h.long h.samples) (rebuilt_squeezes ss (stepped s cs) ys g))
    (λ t. rw t (rebuilt_squeezes ss cs ys (rw t at f)))

-- Demand 3, over a whole list of steps of any length
pub exactly_one : (ss : List Step) (cs : List Channel) (picture : List ℤ) → Fills cs picture → ExactlyOne ss cs picture
exactly_one ss cs picture f =
    record {
      pyramid = squeezed ss cs picture;
      fills = squeezed_fills ss cs picture f;
      rebuilds = squeezed_rebuilds ss cs picture f;
      only = λ ys g e. sym (rebuilt_squeezes ss cs ys g) ∙ ap (squeezed ss cs) e;
    }
