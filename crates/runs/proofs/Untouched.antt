-- A channel that no step touches never marks (specs/MarkClaims.antt): a step carries it along and reads nothing of it, so that pictures that are the same
-- but for it stay so, step by step. Assumes nothing.
use mathlib.Core.Path.{◌≡◌, refl, sym, ap, ◌∙◌}
use mathlib.Core.Bool.{Bool, true, false, cond}
use mathlib.Core.List.{List, [], ◌∷◌, ◌++◌}
use mathlib.Core.Logic.{inl, inr}
use Prim.Native.Nat.{ℕ, ◌+◌, ◌-◌, ◌<◌, ◌≤◌}
use lib.Dec.{ltb}
use native.Mathlib.Omega.{arith}
use borrow.Author.Tests.{lt-ltb, le-ltb}
use lib.IntN.{ℤ}
use lib.ListN.{length, take, drop, set, length-take, length-drop}
use Rattle.std.proofs.Math.Seq.{take-set-lt}
use Rattle.std.proofs.lemmas.List.{take-set-le, drop-set-add, set-append_left, set-append_right}
use Rattle.channel.specs.declared.Channel.{Channel}
use Rattle.list.specs.declared.Step.{Step}
use Rattle.list.specs.Lists.{average, residual, range, stepped}
use Rattle.list.specs.Tables.{map}
use Rattle.list.proofs.Maps.{map_length}
use Rattle.list.proofs.Entries.{length_range, stepped_length}
use Rattle.runs.specs.Parts.{parts}
use Rattle.runs.specs.Runs.{place_after, channel_averages, channel_residuals, each, forward_parts, step_forward, layout, rebuilt}
use Rattle.runs.specs.Claim.{Fills}
use Rattle.runs.specs.Marks.{step_written_marked, run_marked, run_written_marked}
use Rattle.runs.specs.MarkClaims.{OtherBefore, Untouched, SameBut, NeverMarks}
use Rattle.runs.proofs.Taken.{by_taken, taken_inside}
use Rattle.runs.proofs.Shapes.{Shaped, shaped_length, parts_shaped, parts_samples}
use Rattle.runs.proofs.OneChannel.{averages_shaped, residuals_shaped}
use Rattle.runs.proofs.OneStep.{step_reads, forward_again}
use Rattle.runs.proofs.Whole.{forward_fills, rebuilt_fills, rebuilt_squeezes}
use Rattle.runs.proofs.Other.{set_before, set_behind, only_range}
use Rattle.runs.proofs.Marks.{same_mark}

-- another entry behind the first n
set_right : (xs ys : List (List ℤ)) (n j : ℕ) (y : List ℤ) → length xs ≡ n → set (xs ++ ys) (n + j) y ≡ xs ++ set ys j y
set_right xs ys n j y l =
    let e : n + j - n ≡ j = omega arith in
    set-append_right xs ys n (n + j) y l (omega arith) ∙ rw e

-- ---- one step: what is put together of parts, with another of them
module _ (x a r z : List (List ℤ)) (b n : ℕ) (lx : length x ≡ b) (la : length a ≡ n) (lr : length r ≡ n) (j : ℕ) (lz : j < length z) (p : List ℤ) where
  behind_residuals : set (x ++ (a ++ (r ++ z))) (b + (n + (n + j))) p ≡ x ++ (a ++ (r ++ set z j p))
  behind_residuals =
      rw (set_right x (a ++ (r ++ z)) b (n + (n + j)) p lx, set_right a (r ++ z) n (n + j) p la, set_right r z n j p lr)

  before_residuals : set (x ++ (a ++ (z ++ r))) (b + (n + j)) p ≡ x ++ (a ++ (set z j p ++ r))
  before_residuals =
      rw (set_right x (a ++ (z ++ r)) b (n + j) p lx, set_right a (z ++ r) n j p la, set-append_left z r j p lz)

  carried : (inplace : Bool) (k m : ℕ) → k ≡ b + (n + j) → m ≡ cond inplace (k + n) k
      → x ++ (a ++ cond inplace (r ++ set z j p) (set z j p ++ r)) ≡ set (x ++ (a ++ cond inplace (r ++ z) (z ++ r))) m p
  carried true k m e f = let g : m ≡ b + (n + (n + j)) = omega arith in rw g (sym behind_residuals)
  carried false k m e f = let g : m ≡ b + (n + j) = omega arith in rw g (sym before_residuals)

module _ (s : Step) (cs : List Channel) (inside : s.begin + s.number ≤ length cs) (ps : List (List ℤ)) (shaped : Shaped cs ps)
    (k : ℕ) (p : List ℤ) (here : k < length cs) where
  long : length ps ≡ length cs
  long = shaped_length cs ps shaped

  abbrev b : ℕ
  b = s.begin

  abbrev n : ℕ
  n = s.number

  abbrev a : List (List ℤ)
  a = each (channel_averages s.horizontal) (range s cs) (take n (drop b ps))

  abbrev r : List (List ℤ)
  r = each (channel_residuals s.horizontal) (range s cs) (take n (drop b ps))

  first_long : length (take b ps) ≡ b
  first_long = simp length-take (omega (arith, long))

  module _ (sh : Shaped (range s cs) (take n (drop b ps))) where
    averages_long : length a ≡ n
    averages_long =
        shaped_length (map (average s.horizontal) (range s cs)) a (averages_shaped s.horizontal (range s cs) (take n (drop b ps)) sh)
        ∙ map_length (average s.horizontal) (range s cs)
        ∙ length_range s cs inside

    residuals_long : length r ≡ n
    residuals_long =
        shaped_length (map (residual s.horizontal) (range s cs)) r (residuals_shaped s.horizontal (range s cs) (take n (drop b ps)) sh)
        ∙ map_length (residual s.horizontal) (range s cs)
        ∙ length_range s cs inside

    forward_set : OtherBefore s k → forward_parts s cs (set ps k p) ≡ set (forward_parts s cs ps) (place_after s k) p
    unfolding forward_parts place_after
    forward_set (inl h) =
        let l : k < length (take b ps) = omega (arith, first_long) in
        rw (take-set-lt b ps k p h, set_before ps k p b h, set_before ps k p (b + n) (omega arith), lt-ltb k (b + n) (omega arith))
        (sym (set-append_left (take b ps) _ k p l))
    forward_set (inr h) =
        let j = k - (b + n) in
        let e : k ≡ b + n + j = omega arith in
        let l : b ≤ k = omega arith in
        let z : j < length (drop (b + n) ps) = simp length-drop (omega (arith, long)) in
        let d : drop (b + n) (set ps k p) ≡ set (drop (b + n) ps) j p =
        ap (λ (i : ℕ). drop (b + n) (set ps i p)) e ∙ drop-set-add (b + n) ps j p in
        rw (take-set-le b ps k p l, set_behind ps k p b n h, d, le-ltb k (b + n) h)
        (carried (take b ps) a r (drop (b + n) ps) b n first_long averages_long residuals_long j z p s.inplace k (cond s.inplace (k + n) k) (omega arith) refl)

-- ---- any number of steps
place_inside : (s : Step) (cs : List Channel) (k : ℕ) → s.begin + s.number ≤ length cs → k < length cs → place_after s k < length (stepped s cs)
unfolding place_after
place_inside s cs k i h = rw (stepped_length s cs i) (by (ltb k (s.begin + s.number)) s.inplace)
  where
    by : (t u : Bool) → cond t k (cond u (k + s.number) k) < length cs + s.number
    by true u = omega arith
    by false true = omega arith
    by false false = omega arith

written : (ss : List Step) (cs : List Channel) (k : ℕ) → k < length cs → Untouched ss cs k → (xs ys : List ℤ) → Fills cs xs → Fills cs ys → SameBut cs k xs ys
    → run_written_marked ss cs ys ≡ run_written_marked ss cs xs
written [] cs k h u xs ys f g d = refl
written (s ∷ ss) cs k h u xs ys f g d =
    by_taken s cs
    (λ t.
    let i = taken_inside s cs t in
    let v : OtherBefore s k × Untouched ss (stepped s cs) (place_after s k) = rw t at u in
    let ps = parts cs xs in
    let sh = parts_shaped cs xs f.long in
    let r = step_reads s cs i ps sh (parts_samples cs xs f.samples) in
    let m : step_written_marked s cs (parts cs ys) ≡ step_written_marked s cs ps =
    rw d.others ((only_range s cs).forward ps k d.part v.0) in
    let q : parts (stepped s cs) (step_forward s cs ys) ≡ set (parts (stepped s cs) (step_forward s cs xs)) (place_after s k) d.part =
    rw (forward_again s cs i ys g.long g.samples, forward_again s cs i xs f.long f.samples, d.others)
    (forward_set s cs i ps sh k d.part h r.shape v.0) in
    let w = written ss (stepped s cs) (place_after s k) (place_inside s cs k i h) v.1 (step_forward s cs xs) (step_forward s cs ys)
    (forward_fills s cs xs t f) (forward_fills s cs ys t g) (record { part = d.part; others = q }) in
    rw (t, m, w))
    (λ t. rw t (written ss cs k h (rw t at u) xs ys f g d))

-- the mark of a pyramid is that of its picture
of_picture : (ss : List Step) (cs : List Channel) (ys : List ℤ) → Fills (layout ss cs) ys → run_written_marked ss cs (rebuilt ss cs ys) ≡ run_marked ss cs ys
of_picture ss cs ys f = same_mark ss cs (rebuilt ss cs ys) (rebuilt_fills ss cs ys f) ∙ ap (run_marked ss cs) (rebuilt_squeezes ss cs ys f)

pub never_marks : (ss : List Step) (cs : List Channel) (k : ℕ) → k < length cs → Untouched ss cs k → NeverMarks ss cs k
never_marks ss cs k h u =
    record {
      forward = written ss cs k h u;
      back = λ xs ys f g d.
          sym (of_picture ss cs ys g)
          ∙ (written ss cs k h u (rebuilt ss cs xs) (rebuilt ss cs ys) (rebuilt_fills ss cs xs f) (rebuilt_fills ss cs ys g) d
          ∙ of_picture ss cs xs f);
    }
