-- A question's answer, tested by code that returns at the first "no", what no refusal says of it, and what every answer has. Assumes nothing.
use mathlib.Core.Path.{◌≡◌, refl, sym, ◌∙◌}
use mathlib.Core.Bool.{Bool, true, false, cond}
use Prim.Native.Nat.{ℕ, suc}
use native.Mathlib.Omega.{arith}
use lib.Dec.{eqb}
use borrow.Author.Tests.{eqb-true, eqb-false}
use Rattle.list.specs.Questions.{ask}

-- what both have, a choice between them has
pub cond_has {ℓ κ} : {A : Type ℓ} (P : A → Type κ) (t : Bool) (x y : A) → P x → P y → P (cond t x y)
cond_has P true x y a b = a
cond_has P false x y a b = b

-- the code's r is the answer
module _ {r answer : Bool} (e : r ≡ answer) where
  pub no : r ≡ false → answer ≡ false
  no h = sym e ∙ h

  pub yes : r ≡ true → answer ≡ true
  yes h = sym e ∙ h

-- no refusal: the answer was "yes", and the next questions refuse nothing either
pub passed : (answer : Bool) (number next : ℕ) → ask answer (suc number) next ≡ 0 → (answer ≡ true) × (next ≡ 0)
passed true number next h = (refl, h)
passed false number next h = absurd (omega arith)

-- an answer and the next one, where the first refuses nothing
pub none_refused : (a b : ℕ) → ask (eqb a 0) a b ≡ 0 → (a ≡ 0) × (b ≡ 0)
none_refused a b h = go (eqb a 0) refl h
  where
    go : (t : Bool) → eqb a 0 ≡ t → ask t a b ≡ 0 → (a ≡ 0) × (b ≡ 0)
    go true e h = (eqb-true a 0 e, h)
    go false e h = absurd (eqb-false a 0 e h)
