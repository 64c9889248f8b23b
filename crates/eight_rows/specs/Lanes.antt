-- Eight lanes of a slice, `stride` samples apart from `at` on: a block taken out, and one put in. Definitions only.
use Rattle.std.specs.Prelude.{List, ℕ, zero, suc, ◌+◌, ◌*◌, ℤ, pos, get_or, set}
use Rattle.line.specs.Uncut.{table}

unfoldable pub lanes_at : List ℤ → ℕ → ℕ → List ℤ
lanes_at s at stride = table (λ k. get_or s (at + k * stride) (pos 0)) 0 8

-- the first n lanes of b put in
abbrev pub with_some : List ℤ → ℕ → ℕ → List ℤ → ℕ → List ℤ
with_some s at stride b zero = s
with_some s at stride b (suc n) = set (with_some s at stride b n) (at + n * stride) (get_or b n (pos 0))

unfoldable pub with_lanes : List ℤ → ℕ → ℕ → List ℤ → List ℤ
with_lanes s at stride b = with_some s at stride b 8

-- sample k of a block
abbrev pub lane : List ℤ → ℕ → ℤ
lane b k = get_or b k (pos 0)
