-- What has origin o (`of_origin` of specs/Origins.antt), of lists joined, mapped, and beside own positions. Each goes along the origins, and the one
-- case to see is a Bool. Assumes nothing.
use mathlib.Core.Path.{◌≡◌, refl, ap}
use mathlib.Core.Bool.{Bool, true, false}
use mathlib.Core.List.{List, [], ◌∷◌, ◌++◌}
use Prim.Native.Nat.{ℕ, zero, suc, ◌+◌, ◌<◌}
use native.Mathlib.Omega.{arith}
use borrow.Author.Tests.{eq-eqb, ne_eqb}
use lib.Dec.{eqb}
use lib.ListN.{length, get_or}
use Rattle.list.specs.Tables.{table, map}
use Rattle.list.specs.Lists.{own_positions}
use Rattle.list.proofs.Parts.{joined}
use Rattle.origins.specs.Origins.{kept_if, of_origin}

pub map_itself {ℓ} : {A : Type ℓ} (xs : List A) → map (λ x. x) xs ≡ xs
map_itself [] = refl
map_itself (x ∷ xs) = ap (◌∷◌ x) (map_itself xs)

module _ (o : ℕ) where
  module _ {ℓ} {A : Type ℓ} where
    pub of_append : (os ps : List ℕ) (xs ys : List A) → length os ≡ length xs → of_origin o (os ++ ps) (xs ++ ys) ≡ of_origin o os xs ++ of_origin o ps ys
    of_append [] ps [] ys e = refl
    of_append [] ps (x ∷ xs) ys e = absurd (omega arith)
    of_append (a ∷ os) ps [] ys e = absurd (omega arith)
    of_append (a ∷ os) ps (x ∷ xs) ys e = by (eqb a o) (of_append os ps xs ys (omega arith))
      where
        by : (b : Bool) → of_origin o (os ++ ps) (xs ++ ys) ≡ of_origin o os xs ++ of_origin o ps ys
            → kept_if b x (of_origin o (os ++ ps) (xs ++ ys)) ≡ kept_if b x (of_origin o os xs) ++ of_origin o ps ys
        by true e = ap {B = List A} (λ r. x ∷ r) e
        by false e = e

    -- residuals and others, in place or not
    pub of_joined : (i : Bool) (rs zs : List ℕ) (xs ys : List A) → length rs ≡ length xs → length zs ≡ length ys
        → of_origin o (joined i rs zs) (joined i xs ys) ≡ joined i (of_origin o rs xs) (of_origin o zs ys)
    of_joined true rs zs xs ys e f = of_append rs zs xs ys e
    of_joined false rs zs xs ys e f = of_append zs rs ys xs f

    -- beside k, k + 1, ..: none before k, and one at each
    own_none : (k n : ℕ) (xs : List A) → o < k → of_origin o (table (λ j. j) k n) xs ≡ []
    own_none k zero xs h = refl
    own_none k (suc n) [] h = refl
    own_none k (suc n) (x ∷ xs) h = rw (ne_eqb k o (λ e. absurd (omega arith))) (own_none (suc k) n xs (omega arith))

    own_from : (i k n : ℕ) (xs : List A) (d : A) → length xs ≡ n → i < n → o ≡ k + i → of_origin o (table (λ j. j) k n) xs ≡ get_or xs i d ∷ []
    own_from i k zero xs d e h z = absurd (omega arith)
    own_from i k (suc n) [] d e h z = absurd (omega arith)
    own_from zero k (suc n) (x ∷ xs) d e h z = rw (eq-eqb k o (omega arith)) (ap {B = List A} (λ r. x ∷ r) (own_none (suc k) n xs (omega arith)))
    own_from (suc i) k (suc n) (x ∷ xs) d e h z = rw (ne_eqb k o (λ y. absurd (omega arith))) (own_from i (suc k) n xs d (omega arith) (omega arith) (omega arith))

    pub own_one : (n : ℕ) (xs : List A) (d : A) → length xs ≡ n → o < n → of_origin o (own_positions n) xs ≡ get_or xs o d ∷ []
    own_one n xs d e h = own_from o 0 n xs d e h (omega arith)

  pub of_map {ℓ κ} : {A : Type ℓ} {B : Type κ} (f : A → B) (os : List ℕ) (xs : List A) → of_origin o os (map f xs) ≡ map f (of_origin o os xs)
  of_map f [] xs = refl
  of_map f (a ∷ os) [] = refl
  of_map {A = A} {B = B} f (a ∷ os) (x ∷ xs) = by (eqb a o) (of_map f os xs)
    where
      by : (b : Bool) → of_origin o os (map f xs) ≡ map f (of_origin o os xs) → kept_if b (f x) (of_origin o os (map f xs)) ≡ map f (kept_if b x (of_origin o os xs))
      by true e = ap {B = List B} (λ r. f x ∷ r) e
      by false e = e
