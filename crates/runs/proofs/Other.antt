-- A channel outside a step's range leaves the step's mark as it is (specs/MarkClaims.antt): what a step reads is the same with another part there. And
-- where no step is taken there is no mark. Assumes nothing.
use mathlib.Core.Path.{◌≡◌, refl, ap, ◌∙◌}
use mathlib.Core.Bool.{Bool, true, false, cond}
use mathlib.Core.List.{List, [], ◌∷◌}
use mathlib.Core.Logic.{inl, inr}
use Prim.Native.Nat.{ℕ, ◌+◌, ◌-◌, ◌<◌, ◌≤◌}
use native.Mathlib.Omega.{arith}
use lib.IntN.{ℤ}
use lib.ListN.{take, drop, set}
use Rattle.std.proofs.lemmas.List.{take-set-le, drop-set-lt, drop-set-add}
use Rattle.std.proofs.lemmas.List.Elements.{All-head, All-tail}
use Rattle.channel.specs.declared.Channel.{Channel}
use Rattle.list.specs.declared.Step.{Step}
use Rattle.runs.specs.Runs.{behind, residual_parts, is_taken}
use Rattle.runs.specs.Marks.{step_marked, step_written_marked}
use Rattle.runs.specs.MarkClaims.{OtherBefore, OtherAfter, OnlyRange, NoStepNoMark}

-- a part of a list, with another entry before it or behind it
module _ (xs : List (List ℤ)) (k : ℕ) (x : List ℤ) where
  pub set_before : (a : ℕ) → k < a → drop a (set xs k x) ≡ drop a xs
  set_before a h = drop-set-lt a xs k x h

  pub set_behind : (a n : ℕ) → a + n ≤ k → take n (drop a (set xs k x)) ≡ take n (drop a xs)
  set_behind a n h =
      let e : k ≡ a + (k - a) = omega arith in
      let l : n ≤ k - a = omega arith in
      ap (λ (i : ℕ). take n (drop a (set xs i x))) e ∙ rw (drop-set-add a xs (k - a) x, take-set-le n (drop a xs) (k - a) x l)

  set_inner : (a n : ℕ) → a ≤ k → k < a + n → drop n (drop a (set xs k x)) ≡ drop n (drop a xs)
  set_inner a n h m =
      let e : k ≡ a + (k - a) = omega arith in
      let l : k - a < n = omega arith in
      ap (λ (i : ℕ). drop n (drop a (set xs i x))) e ∙ rw (drop-set-add a xs (k - a) x, drop-set-lt n (drop a xs) (k - a) x l)

module _ (s : Step) (cs : List Channel) (ps : List (List ℤ)) (k : ℕ) (p : List ℤ) where
  written : OtherBefore s k → step_written_marked s cs (set ps k p) ≡ step_written_marked s cs ps
  unfolding step_written_marked
  written (inl h) = rw (set_before ps k p s.begin h)
  written (inr h) = rw (set_behind ps k p s.begin s.number h)

  residuals_same : cond s.inplace (s.begin + s.number + s.number ≤ k) ((s.begin + s.number ≤ k) × (k < s.begin + s.number + behind s cs))
      → residual_parts s cs (drop (s.begin + s.number) (set ps k p)) ≡ residual_parts s cs (drop (s.begin + s.number) ps)
  residuals_same = by s.inplace
    where
      n : ℕ
      n = s.begin + s.number

      by : (b : Bool) → cond b (n + s.number ≤ k) ((n ≤ k) × (k < n + behind s cs))
          → cond b (take s.number (drop n (set ps k p))) (drop (behind s cs) (drop n (set ps k p))) ≡ cond b (take s.number (drop n ps)) (drop (behind s cs) (drop n ps))
      by true h = set_behind ps k p n s.number h
      by false h = set_inner ps k p n (behind s cs) h.0 h.1

  averages_before : (b : Bool) → cond b (s.begin + s.number + s.number ≤ k) ((s.begin + s.number ≤ k) × (k < s.begin + s.number + behind s cs)) → s.begin + s.number ≤ k
  averages_before true h = omega arith
  averages_before false h = h.0

  read : OtherAfter s cs k → step_marked s cs (set ps k p) ≡ step_marked s cs ps
  unfolding step_marked
  read (inl h) = rw (set_before ps k p s.begin h, set_before ps k p (s.begin + s.number) (omega arith))
  read (inr h) = rw (set_behind ps k p s.begin s.number (averages_before s.inplace h), residuals_same h)

pub only_range : (s : Step) (cs : List Channel) → OnlyRange s cs
only_range s cs = record { back = read s cs; forward = written s cs }

-- ---- no step is taken
pub no_step_no_mark : (ss : List Step) (cs : List Channel) → NoStepNoMark ss cs
no_step_no_mark [] cs a xs = (refl, refl)
no_step_no_mark (s ∷ ss) cs a xs =
    let none : is_taken s cs ≡ false = All-head (λ (s : Step). is_taken s cs ≡ false) s ss a in
    rw none (no_step_no_mark ss cs (All-tail (λ (s : Step). is_taken s cs ≡ false) s ss a) xs)
