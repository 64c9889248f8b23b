-- Eight samples copied into a list, sample by sample: `paste d at s i` of lib.Seq has the first i samples of s over d from `at` on. One more
-- turn, and all eight. Assumes nothing.
use mathlib.Core.Path.{◌≡◌, ◌∙◌}
use mathlib.Core.List.{List}
use Prim.Native.Nat.{ℕ, ◌+◌, ◌<◌, ◌≤◌}
use native.Mathlib.Omega.{arith}
use native.Mathlib.Numerals.{add-one}
use lib.IntN.{ℤ, pos}
use lib.ListN.{length, get_or, set}
use lib.Seq.{paste, paste-suc, take_all}
use borrow.Author.Tests.{le-leb}
use Rattle.probe.specs.Probe.{with_block}

-- ---- over s, from `at` on, out of b
pub store_more : (s s₀ b : List ℤ) (at i : ℕ) → s ≡ paste s₀ at b i → length b ≡ 8 → i < 8 → at + 8 ≤ length s₀
    → set s (at + i) (get_or b i (pos 0)) ≡ paste s₀ at b (i + 1)
store_more s s₀ b at i e n l h =
    let l₁ : at + i < length s₀ = omega arith in
    let l₂ : i < length b = omega arith in
    rw (e, add-one) (paste-suc s₀ at b i (pos 0) l₁ l₂)

pub store_all : (s s₀ b : List ℤ) (at i : ℕ) → s ≡ paste s₀ at b i → length b ≡ 8 → i ≡ 8 → at + 8 ≤ length s₀ → s ≡ with_block s₀ at b
unfolding with_block
store_all s s₀ b at i e n l h =
    let z : length b ≤ 8 = omega arith in
    e ∙ rw (l, take_all 8 b z, le-leb (at + 8) (length s₀) h)
