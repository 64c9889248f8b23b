-- The marks of the channels of a list, the writer's and those back (`each_marked` and `range_marked` of specs/Marks.antt), by their places. Assumes
-- nothing.
use mathlib.Core.Path.{◌≡◌, refl}
use mathlib.Core.Bool.{Bool, ◌||◌}
use mathlib.Core.List.{List, [], ◌∷◌}
use Prim.Native.Nat.{ℕ, zero, suc}
use native.Mathlib.Omega.{arith}
use lib.IntN.{ℤ}
use lib.ListN.{length, get_or}
use Rattle.std.proofs.Math.Bool.{or_comm, or_assoc}
use Rattle.channel.specs.declared.Channel.{Channel}
use Rattle.range.specs.Range.{some}
use Rattle.list.specs.Questions.{channel_of}
use Rattle.runs.specs.Marks.{channel_marked, range_marked, each_marked}

-- the first apart from the others
some_first : (f : ℕ → Bool) (n : ℕ) → some f (suc n) ≡ (f 0 || some (λ i. f (suc i)) n)
some_first f zero = or_comm (some f 0) (f 0)
some_first f (suc n) = rw (some_first f n) (or_assoc (f 0) (some (λ i. f (suc i)) n) (f (suc n)))

pub each_some : (f : Channel → List ℤ → Bool) (cs : List Channel) (ps : List (List ℤ)) → length ps ≡ length cs
    → each_marked f cs ps ≡ some (λ i. f (channel_of cs i) (get_or ps i [])) (length cs)
each_some f [] ps e = refl
each_some f (c ∷ cs) [] e = absurd (omega arith)
each_some f (c ∷ cs) (p ∷ ps) e =
    rw (some_first (λ i. f (channel_of (c ∷ cs) i) (get_or (p ∷ ps) i [])) (length cs), each_some f cs ps (omega arith))

pub range_some : (h : Bool) (cs : List Channel) (avgs ress : List (List ℤ)) → length avgs ≡ length cs → length ress ≡ length cs
    → range_marked h cs avgs ress ≡ some (λ i. channel_marked h (channel_of cs i) (get_or avgs i []) (get_or ress i [])) (length cs)
range_some h [] avgs ress ea er = refl
range_some h (c ∷ cs) [] ress ea er = absurd (omega arith)
range_some h (c ∷ cs) (a ∷ avgs) [] ea er = absurd (omega arith)
range_some h (c ∷ cs) (a ∷ avgs) (r ∷ ress) ea er =
    rw (
      some_first (λ i. channel_marked h (channel_of (c ∷ cs) i) (get_or (a ∷ avgs) i []) (get_or (r ∷ ress) i [])) (length cs),
      range_some h cs avgs ress (omega arith) (omega arith),
    )
