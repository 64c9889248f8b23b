-- `area_allowed` meets its contract: a product that does not fit is above the limit. Assumes nothing.
use mathlib.Core.Path.{◌≡◌, sym, ◌∙◌}
use mathlib.Core.Bool.{Bool, false}
use Prim.Native.Nat.{ℕ, ◌<◌}
use native.Mathlib.Omega.{arith}
use borrow.Author.Rules.{rules}
use borrow.Author.Tests.{tests, lt-leb}
use lib.Dec.{leb}
use Rattle.std.specs.Prelude.{Option, None, Some, MatchOption}
use Rattle.std.specs.Option.{SomeIff}
use Rattle.numbers.specs.Numbers.{max_samples}
use Rattle.tile.specs.Call.{area, area_allowed}
use Rattle.tile.proofs.Sides.area_allowed.Goals as goal

-- an answer of `is_some_and` on a product that fits or not
by_product : (o : Option ℕ) (n : ℕ) (b : Bool) {P : ℕ → Type 0} → SomeIff o (n < 18446744073709551616) n
    → MatchOption o (b ≡ false) P → ((x : ℕ) → P x → b ≡ leb x max_samples) → b ≡ leb n max_samples
by_product None n b e f tested = f ∙ sym (lt-leb n max_samples (omega (arith, e)))
by_product (Some x) n b e f tested = tested x f ∙ rw e.1

pub returns : goal.returns
unfolding area_allowed
returns c = by_product c.checked_mul.result (area c.args.self) _ c.checked_mul.ensures c.is_some_and.ensures (λ x k. search (rules, tests))
