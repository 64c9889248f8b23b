-- A list that begins as a copy and is filled from the front with f of the lanes (`lanes` of specs/Block.antt) is, once full, the lanes of f.
-- Assumes nothing.
use mathlib.Core.Path.{◌≡◌, refl, sym, ap, ◌∙◌}
use mathlib.Core.List.{List, [], ◌∷◌}
use Prim.Native.Nat.{ℕ, zero, suc, ◌+◌, ◌<◌, ◌≤◌}
use native.Mathlib.Omega.{arith}
use borrow.Author.Count.{below_more}
use lib.IntN.{ℤ, pos}
use lib.ListN.{length, get_or, set, length-set}
use lib.Seq.{ext_get_or, get_or-set_same, get_or-set_other}
use Rattle.block.specs.Block.{lanes}

-- f of lane k
abbrev pub lane : (ℤ → ℤ → ℤ → ℤ → ℤ) → List ℤ → List ℤ → List ℤ → List ℤ → ℕ → ℤ
lane f avg res next prev k = f (get_or avg k (pos 0)) (get_or res k (pos 0)) (get_or next k (pos 0)) (get_or prev k (pos 0))

-- out began as a copy of own: the lanes before i are done, the rest is own's
pub record Filled (f : ℤ → ℤ → ℤ → ℤ → ℤ) (avg res next prev own : List ℤ) (n : ℕ) (out : List ℤ) (i : ℕ) : Type 0 where
  pub long : length out ≡ n
  pub done : (k : ℕ) → k < i → get_or out k (pos 0) ≡ lane f avg res next prev k
  pub rest : (k : ℕ) → i ≤ k → get_or out k (pos 0) ≡ get_or own k (pos 0)

module _ (f : ℤ → ℤ → ℤ → ℤ → ℤ) (avg res next prev own : List ℤ) (n : ℕ) where
  pub filled_none : length own ≡ n → Filled f avg res next prev own n own 0
  filled_none e = record { long = e; done = λ k l. absurd (omega arith); rest = λ k l. refl }

  pub filled_more : (out : List ℤ) (i : ℕ) (v : ℤ) → Filled f avg res next prev own n out i → i < n → v ≡ lane f avg res next prev i
      → Filled f avg res next prev own n (set out i v) (i + 1)
  filled_more out i v h l e =
      let m = h.long in
      record {
        long = length-set out i v ∙ m;
        done =
            below_more (λ (k : ℕ). get_or (set out i v) k (pos 0) ≡ lane f avg res next prev k) i
            (λ k p. get_or-set_other out i k v (pos 0) (λ (q : k ≡ i). omega arith) ∙ h.done k p)
            (get_or-set_same out i v (pos 0) (omega arith) ∙ e);
        rest = λ k p. get_or-set_other out i k v (pos 0) (λ (q : k ≡ i). omega arith) ∙ h.rest k (omega arith);
      }

-- lanes of lists of one length: as long as they, and `lane` at each index
pub record Laned (f : ℤ → ℤ → ℤ → ℤ → ℤ) (avg res next prev : List ℤ) (n : ℕ) : Type 0 where
  pub long : length (lanes f avg res next prev) ≡ n
  pub at : (k : ℕ) → k < n → get_or (lanes f avg res next prev) k (pos 0) ≡ lane f avg res next prev k

module _ (f : ℤ → ℤ → ℤ → ℤ → ℤ) where
  pub laned : (n : ℕ) (avg res next prev : List ℤ) → length avg ≡ n → length res ≡ n → length next ≡ n → length prev ≡ n
      → Laned f avg res next prev n
  laned n [] res next prev ea er en ep = record { long = ea; at = λ k l. absurd (omega arith) }
  laned n (a ∷ avg) [] next prev ea er en ep = absurd (omega arith)
  laned n (a ∷ avg) (r ∷ res) [] prev ea er en ep = absurd (omega arith)
  laned n (a ∷ avg) (r ∷ res) (m ∷ next) [] ea er en ep = absurd (omega arith)
  laned zero (a ∷ avg) (r ∷ res) (m ∷ next) (p ∷ prev) ea er en ep = absurd (omega arith)
  laned (suc n) (a ∷ avg) (r ∷ res) (m ∷ next) (p ∷ prev) ea er en ep =
      let rest = laned n avg res next prev (omega arith) (omega arith) (omega arith) (omega arith) in
      record { long = ap suc rest.long; at = shifted n a r m p avg res next prev rest.at }
    where
      shifted : (n : ℕ) (a r m p : ℤ) (avg res next prev : List ℤ)
          → ((k : ℕ) → k < n → get_or (lanes f avg res next prev) k (pos 0) ≡ lane f avg res next prev k)
          → (k : ℕ) → k < suc n → get_or (lanes f (a ∷ avg) (r ∷ res) (m ∷ next) (p ∷ prev)) k (pos 0) ≡ lane f (a ∷ avg) (r ∷ res) (m ∷ next) (p ∷ prev) k
      shifted n a r m p avg res next prev h zero l = refl
      shifted n a r m p avg res next prev h (suc k) l = h k (omega arith)

  pub filled_all : (n : ℕ) (avg res next prev own out : List ℤ) → length avg ≡ n → length res ≡ n → length next ≡ n → length prev ≡ n
      → Filled f avg res next prev own n out n → out ≡ lanes f avg res next prev
  filled_all n avg res next prev own out ea er en ep h =
      let r = laned n avg res next prev ea er en ep in
      let o = h.long in
      let m = r.long in
      ext_get_or (pos 0) out (lanes f avg res next prev) (omega arith)
      (λ k l. let l' : k < n = omega arith in h.done k l' ∙ sym (r.at k l'))
