-- `chunks_exact` gives the whole cases of a slice, in their order. Assumes nothing.
use Rattle.std.proofs.Common.{◌≡◌, ℕ, suc, ◌+◌, ◌*◌, ◌/◌, ◌%◌, ◌<◌, List, ◌∷◌, ◌++◌, length, ap, ◌∙◌, subst, arith, length-append}
use Rattle.std.proofs.lemmas.Nat.{div-mul-add, div-add-mod', div_below}
use Rattle.std.proofs.lemmas.Iterator.{YieldsList}
use Rattle.std.proofs.lemmas.Iterator.Splits.{YieldsList-from_shown_while}
use Rattle.std.specs.Slice.Iter.{chunks_exact_rest, chunks_exact_size, chunks_exact_steps}
use lib.Seq.{take-append_seam, drop-append_seam}
use Rattle.replay.specs.Cases.{cases_of}

div_more : (size m : ℕ) → 0 < size → (size + m) / size ≡ suc (m / size)
div_more size m h =
    let e : size + m ≡ suc (m / size) * size + m % size = grind (arith, div-add-mod' m size) in
    ap (λ n. n / size) e ∙ div-mul-add (suc (m / size)) size (m % size) (omega arith)

zero_below : (n : ℕ) → n < 1 → n ≡ 0
zero_below n h = omega arith

module _ (size : ℕ) (some : 0 < size) where
  cases_more : (case rest : List ℕ) → length case ≡ size → cases_of size (case ++ rest) ≡ case ∷ cases_of size rest
  cases_more case rest e =
      let n : length (case ++ rest) / size ≡ suc (length rest / size) = ap (λ k. k / size) (length-append case rest ∙ ap (λ k. k + length rest) e) ∙ div_more size (length rest) some in
      rw (n, ← e, take-append_seam case rest, drop-append_seam case rest)

  pub YieldsList-from_chunks_exact : {s : _} (bytes : List ℕ) → chunks_exact_rest s ≡ bytes → chunks_exact_size s ≡ size
      → YieldsList chunks_exact_steps (λ y. y.now) s (cases_of size bytes)
  YieldsList-from_chunks_exact {s} bytes rest sized =
      subst (YieldsList chunks_exact_steps (λ y. y.now) s) (ap (cases_of size) rest)
      (YieldsList-from_shown_while chunks_exact_steps (λ y. y.now) (λ t. cases_of size (chunks_exact_rest t)) (λ t. chunks_exact_size t ≡ size)
      (λ t u p k. let z = div_below (length (chunks_exact_rest t)) size 1 some (omega (arith, k.1.0)) in rw (zero_below _ z))
      (λ t x u p k. (k.0 ∙ p, ap (cases_of size) k.1.0 ∙ cases_more x.now (chunks_exact_rest u) (k.1.1 ∙ p))) s sized)
