-- A list of steps in flat arrays (`packed` of specs/Steps.antt): adding steps to the arrays adds them to the list, and the arrays hold no other
-- steps. Assumes nothing.
use mathlib.Core.Bool.{Bool, true, false}
use mathlib.Core.Path.{◌≡◌, refl, sym, ap, ◌∙◌}
use mathlib.Core.List.{List, [], ◌∷◌, ◌++◌, append-nil}
use Prim.Native.Nat.{ℕ, zero, suc, ◌+◌, ◌/◌, ◌%◌, ◌<◌, ◌≤◌, min}
use native.Mathlib.Omega.{arith}
use lib.Dec.{eqb}
use lib.ListN.{length, get_or, set, length-set, length-append}
use lib.Seq.{ext_get_or, append_snoc, get_or-set_same, get_or-set_other, get_or-append_seam}
use borrow.Author.Tests.{eqb-true, eqb-false}
use Rattle.list.specs.declared.Step.{Step}
use Rattle.list.specs.Tables.{padded, map}
use Rattle.list.specs.Lists.{max_steps}
use Rattle.list.proofs.Tables.{table_length, table_at}
use Rattle.list.proofs.Maps.{map_length, map_at}
use Rattle.list.proofs.Filled.{padded_at}
use Rattle.plan.specs.declared.Steps.{Steps}
use Rattle.plan.specs.Steps.{bit, flags_of, step_at, steps, packed}
use Rattle.plan.specs.Adding.{pushed, appended}
use Rattle.plan.proofs.Appended.{counted, appended_after}

pub packed_count : (s : Steps) (ss : List Step) → s ≡ packed ss → s.count ≡ length ss
unfolding packed
packed_count s ss e = ap (λ (x : Steps). x.count) e

-- ---- one entry more
snoc_other : (xs : List ℕ) (v k : ℕ) → (k ≡ length xs → ⊥) → get_or xs k 0 ≡ get_or (xs ++ v ∷ []) k 0
snoc_other [] v zero h = absurd (h refl)
snoc_other [] v (suc k) h = refl
snoc_other (x ∷ xs) v zero h = refl
snoc_other (x ∷ xs) v (suc k) h = snoc_other xs v k (λ e. h (ap suc e))

pub padded_snoc : (size : ℕ) (xs : List ℕ) (v : ℕ) → length xs < size → set (padded size xs) (length xs) v ≡ padded size (xs ++ v ∷ [])
padded_snoc size xs v h =
    let old = table_length (λ k. get_or xs k 0) 0 size in
    let new = table_length (λ k. get_or (xs ++ v ∷ []) k 0) 0 size in
    let kept = length-set (padded size xs) (length xs) v in
    ext_get_or 0 _ _ (omega arith) (λ k l. entry k (omega arith) (eqb k (length xs)) refl)
  where
    entry : (k : ℕ) → k < size → (t : Bool) → eqb k (length xs) ≡ t → get_or (set (padded size xs) (length xs) v) k 0 ≡ get_or (padded size (xs ++ v ∷ [])) k 0
    entry k l true e =
        let old = table_length (λ i. get_or xs i 0) 0 size in
        rw (padded_at size (xs ++ v ∷ []) k l, eqb-true k (length xs) e)
        (get_or-set_same (padded size xs) (length xs) v 0 (omega arith) ∙ sym (get_or-append_seam xs v [] 0))
    entry k l false e =
        get_or-set_other (padded size xs) (length xs) k v 0 (eqb-false k (length xs) e)
        ∙ rw (padded_at size xs k l, padded_at size (xs ++ v ∷ []) k l) (snoc_other xs v k (eqb-false k (length xs) e))

module _ (f : Step → ℕ) where
  map_snoc : (ss : List Step) (s : Step) → map f (ss ++ s ∷ []) ≡ map f ss ++ f s ∷ []
  map_snoc [] s = refl
  map_snoc (x ∷ ss) s = ap (λ (xs : List ℕ). f x ∷ xs) (map_snoc ss s)

  packed_snoc : (ss : List Step) (s : Step) → length ss < max_steps
      → set (padded max_steps (map f ss)) (length ss) (f s) ≡ padded max_steps (map f (ss ++ s ∷ []))
  packed_snoc ss s h =
      let n = map_length f ss in
      ap (λ (k : ℕ). set (padded max_steps (map f ss)) k (f s)) (sym n)
      ∙ padded_snoc max_steps (map f ss) (f s) (omega arith)
      ∙ ap (padded max_steps) (sym (map_snoc ss s))

pub pushed_packed : (ss : List Step) (s : Step) → length ss < max_steps → pushed (packed ss) s ≡ packed (ss ++ s ∷ [])
unfolding pushed packed
pushed_packed ss s h =
    let n : length ss + 1 ≡ length (ss ++ s ∷ []) = rw length-append in
    λ i. record {
      count = n i;
      flags = packed_snoc flags_of ss s h i;
      begins = packed_snoc (λ (x : Step). x.begin) ss s h i;
      numbers = packed_snoc (λ (x : Step). x.number) ss s h i;
    }

pub appended_packed : (ss xs : List Step) → length ss + length xs ≤ max_steps → appended (packed ss) xs ≡ packed (ss ++ xs)
unfolding appended
appended_packed ss [] h = ap packed (sym (append-nil ss))
appended_packed ss (x ∷ xs) h =
    let n : length (ss ++ x ∷ []) ≡ length ss + 1 = rw length-append in
    rw (pushed_packed ss x (omega arith)) (appended_packed (ss ++ x ∷ []) xs (omega arith) ∙ ap packed (append_snoc ss x xs))

-- two lists of steps added to the empty arrays one after the other
module _ (ss xs : List Step) (h : length (ss ++ xs) ≤ max_steps) (s₀ s₁ : Steps) (e₀ : s₀ ≡ packed []) (e₁ : s₁ ≡ appended s₀ ss) where
  pub packed_room : s₁.count + length xs ≤ max_steps
  packed_room =
      let n = length-append ss xs in
      omega (arith, counted s₀ s₁ ss e₁, packed_count s₀ [] e₀)

  pub packed_both : (r : Steps) → r ≡ appended s₁ xs → r ≡ packed (ss ++ xs)
  packed_both r e = appended_after s₀ s₁ r ss xs e₁ e ∙ rw e₀ (appended_packed [] (ss ++ xs) (omega arith))

-- ---- out of the arrays again
pub unpacked : (s : Step) → record { horizontal = eqb (flags_of s % 2) 1; inplace = eqb (flags_of s / 2 % 2) 1; begin = s.begin; number = s.number } ≡ s
unfolding flags_of
unpacked s = go s.horizontal s.inplace s.begin s.number
  where
    go : (h i : Bool) (b n : ℕ)
        → ◌≡◌ {A = Step}
        (record { horizontal = eqb ((bit h 1 + bit i 2) % 2) 1; inplace = eqb ((bit h 1 + bit i 2) / 2 % 2) 1; begin = b; number = n })
        (record { horizontal = h; inplace = i; begin = b; number = n })
    go true true b n = refl
    go true false b n = refl
    go false true b n = refl
    go false false b n = refl

module _ (none : Step) (ss : List Step) (h : length ss ≤ max_steps) where
  packed_at : (f : Step → ℕ) (k : ℕ) → k < length ss → get_or (padded max_steps (map f ss)) k 0 ≡ f (get_or ss k none)
  packed_at f k l = padded_at max_steps (map f ss) k (omega arith) ∙ map_at f ss k none 0 l

  step_at_packed : (k : ℕ) → k < length ss → step_at (packed ss) k ≡ get_or ss k none
  unfolding packed
  step_at_packed k l =
      rw (packed_at flags_of k l, packed_at (λ (s : Step). s.begin) k l, packed_at (λ (s : Step). s.number) k l) (unpacked (get_or ss k none))

pub steps_packed : (ss : List Step) → length ss ≤ max_steps → steps (packed ss) ≡ ss
unfolding steps
steps_packed ss h =
    let count = packed_count (packed ss) ss refl in
    let long = table_length (step_at (packed ss)) 0 (min (packed ss).count max_steps) in
    ext_get_or none _ ss (omega arith)
    (λ k l.
    let z : 0 + k ≡ k = omega arith in
    table_at (step_at (packed ss)) 0 (min (packed ss).count max_steps) k none (omega arith) ∙ rw z (step_at_packed none ss h k (omega arith)))
  where
    none : Step
    none = record { horizontal = false; inplace = false; begin = 0; number = 0 }
