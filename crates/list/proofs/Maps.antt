-- Elements of mapped and joined lists, by index, and a test of every element. Assumes nothing.
use mathlib.Core.Path.{◌≡◌, refl, sym, ap, ◌∙◌}
use mathlib.Core.Bool.{Bool, true, ◌&&◌, and_assoc, and-eq-true_iff}
use mathlib.Core.List.{List, [], ◌∷◌, ◌++◌}
use Prim.Native.Nat.{ℕ, zero, suc, ◌+◌, ◌-◌, ◌<◌, ◌≤◌}
use native.Mathlib.Omega.{arith}
use lib.ListN.{length, get_or, get_or-append}
use lib.Seq.{get_or-append-add}
use Rattle.list.specs.Tables.{map, all}

module _ {ℓ κ} {A : Type ℓ} {B : Type κ} (f : A → B) where
  pub map_length : (xs : List A) → length (map f xs) ≡ length xs
  map_length [] = refl
  map_length (x ∷ xs) = ap suc (map_length xs)

  pub map_at : (xs : List A) (i : ℕ) (d : A) (e : B) → i < length xs → get_or (map f xs) i e ≡ f (get_or xs i d)
  map_at [] i d e h = absurd (omega arith)
  map_at (x ∷ xs) zero d e h = refl
  map_at (x ∷ xs) (suc i) d e h = map_at xs i d e (omega arith)

  -- past the list too
  pub map_default : (xs : List A) (i : ℕ) (d : A) → get_or (map f xs) i (f d) ≡ f (get_or xs i d)
  map_default [] i d = refl
  map_default (x ∷ xs) zero d = refl
  map_default (x ∷ xs) (suc i) d = map_default xs i d

  -- r of each f x where p and q of each x
  pub all_map : (p q : A → Bool) (r : B → Bool) → ((x : A) → p x ≡ true → q x ≡ true → r (f x) ≡ true) → (xs : List A) → all p xs ≡ true → all q xs ≡ true
      → all r (map f xs) ≡ true
  all_map p q r h [] a b = refl
  all_map p q r h (x ∷ xs) a b =
      let u = (and-eq-true_iff (p x) (all p xs)).0 a in
      let v = (and-eq-true_iff (q x) (all q xs)).0 b in
      (and-eq-true_iff (r (f x)) (all r (map f xs))).1 (h x u.0 v.0, all_map p q r h xs u.1 v.1)

module _ {ℓ} {A : Type ℓ} where
  pub all_at : (p : A → Bool) (xs : List A) (i : ℕ) (d : A) → all p xs ≡ true → i < length xs → p (get_or xs i d) ≡ true
  all_at p [] i d a h = absurd (omega arith)
  all_at p (x ∷ xs) zero d a h = ((and-eq-true_iff (p x) (all p xs)).0 a).0
  all_at p (x ∷ xs) (suc i) d a h = all_at p xs i d ((and-eq-true_iff (p x) (all p xs)).0 a).1 (omega arith)

  -- two tests of every element are one
  pub all_both : (p q : A → Bool) (xs : List A) → all p xs ≡ true → all q xs ≡ true → all (λ x. p x && q x) xs ≡ true
  all_both p q [] a b = refl
  all_both p q (x ∷ xs) a b =
      let u = (and-eq-true_iff (p x) (all p xs)).0 a in
      let v = (and-eq-true_iff (q x) (all q xs)).0 b in
      rw (u.0, v.0) (all_both p q xs u.1 v.1)

  pub both_all : (p q : A → Bool) (xs : List A) → all (λ x. p x && q x) xs ≡ true → (all p xs ≡ true) × (all q xs ≡ true)
  both_all p q [] a = (refl, refl)
  both_all p q (x ∷ xs) a =
      let u = (and-eq-true_iff (p x && q x) (all (λ y. p y && q y) xs)).0 a in
      let v = (and-eq-true_iff (p x) (q x)).0 u.0 in
      let w = both_all p q xs u.1 in
      (rw v.0 w.0, rw v.1 w.1)

  all_split : (p : A → Bool) (xs ys : List A) → all p (xs ++ ys) ≡ all p xs && all p ys
  all_split p [] ys = refl
  all_split p (x ∷ xs) ys = ap (λ b. p x && b) (all_split p xs ys) ∙ sym (and_assoc (p x) (all p xs) (all p ys))

  pub all_parts : (p : A → Bool) (xs ys : List A) → all p (xs ++ ys) ≡ true → (all p xs ≡ true) × (all p ys ≡ true)
  all_parts p xs ys a = (and-eq-true_iff (all p xs) (all p ys)).0 (sym (all_split p xs ys) ∙ a)

  pub all_append : (p : A → Bool) (xs ys : List A) → all p xs ≡ true → all p ys ≡ true → all p (xs ++ ys) ≡ true
  all_append p xs ys a b = all_split p xs ys ∙ rw (a, b)

  module _ (xs ys : List A) (n k : ℕ) (d : A) (e : length xs ≡ n) where
    pub left_at : k < n → get_or (xs ++ ys) k d ≡ get_or xs k d
    left_at h = get_or-append xs ys d k (omega arith)

    pub right_at : n ≤ k → get_or (xs ++ ys) k d ≡ get_or ys (k - n) d
    right_at h = let z : k ≡ length xs + (k - n) = omega arith in ap (λ (j : ℕ). get_or (xs ++ ys) j d) z ∙ get_or-append-add xs ys (k - n) d
