-- What is put into a slice, in two runs of entries: one after the other, and through a part that was lent and is all new. No code needs these laws any
-- more; papers name them. Assumes nothing.
use mathlib.Core.Path.{◌≡◌, ◌∙◌}
use mathlib.Core.List.{List, ◌++◌}
use mathlib.Core.Logic.{◌⊎◌, inl, inr}
use Prim.Native.Nat.{ℕ, ◌+◌, ◌-◌, ◌<◌, ◌≤◌}
use native.Mathlib.Omega.{arith}
use lib.IntN.{ℤ, pos}
use lib.ListN.{length, get_or, take, drop, length-append, length-drop, get_or-append}
use lib.Seq.{get_or-take, get_or-drop, get_or-append-add, length-take-le}
use Rattle.std.proofs.lemmas.Bool.{cases_lt}

-- a slice before and after: m entries from `a` on and n from `r` on are those of f, the others are as they were
pub record Put (f : ℕ → ℤ) (a m r n : ℕ) (old out : List ℤ) : Type 0 where
  pub long : length out ≡ length old
  pub low : (j : ℕ) → a ≤ j → j < a + m → get_or out j (pos 0) ≡ f j
  pub high : (j : ℕ) → r ≤ j → j < r + n → get_or out j (pos 0) ≡ f j
  pub kept : (j : ℕ) → (a ≤ j → a + m ≤ j) → (r ≤ j → r + n ≤ j) → get_or out j (pos 0) ≡ get_or old j (pos 0)

module _ (f : ℕ → ℤ) where
  -- what was as f has it stays so
  still : {a m r n : ℕ} {old out : List ℤ} → Put f a m r n old out → (j : ℕ) → get_or old j (pos 0) ≡ f j → get_or out j (pos 0) ≡ f j
  still {a} {m} {r} {n} {old} {out} p j e = low (cases_lt j a) (cases_lt j (a + m))
    where
      high : (a ≤ j → a + m ≤ j) → (j < r) ⊎ (r ≤ j) → (j < r + n) ⊎ (r + n ≤ j) → get_or out j (pos 0) ≡ f j
      high o (inl l) h = p.kept j o (λ k. absurd (omega arith)) ∙ e
      high o (inr l) (inl h) = p.high j l h
      high o (inr l) (inr h) = p.kept j o (λ k. h) ∙ e

      low : (j < a) ⊎ (a ≤ j) → (j < a + m) ⊎ (a + m ≤ j) → get_or out j (pos 0) ≡ f j
      low (inl l) h = high (λ k. absurd (omega arith)) (cases_lt j r) (cases_lt j (r + n))
      low (inr l) (inl h) = p.low j l h
      low (inr l) (inr h) = high (λ k. h) (cases_lt j r) (cases_lt j (r + n))

  -- one after the other
  pub put_join : {a m r n b k s l m' n' : ℕ} {old mid out : List ℤ} → Put f a m r n old mid → Put f b k s l mid out
      → b ≡ a + m → s ≡ r + n → m' ≡ m + k → n' ≡ n + l → Put f a m' r n' old out
  put_join {a} {m} {r} {n} {b} {k} {s} {l} {m'} {n'} {old} {mid} {out} p q eb es em en =
      record {
        long = q.long ∙ p.long;
        low = λ j g h. low j g h (cases_lt j (a + m));
        high = λ j g h. high j g h (cases_lt j (r + n));
        kept =
            λ j u v.
            q.kept j (λ g. let w = u (omega arith) in omega arith) (λ g. let w = v (omega arith) in omega arith)
            ∙ p.kept j (λ g. let w = u g in omega arith) (λ g. let w = v g in omega arith);
      }
    where
      low : (j : ℕ) → a ≤ j → j < a + m' → (j < a + m) ⊎ (a + m ≤ j) → get_or out j (pos 0) ≡ f j
      low j g h (inl i) = still q j (p.low j g i)
      low j g h (inr i) = q.low j (omega arith) (omega arith)

      high : (j : ℕ) → r ≤ j → j < r + n' → (j < r + n) ⊎ (r + n ≤ j) → get_or out j (pos 0) ≡ f j
      high j g h (inl i) = still q j (p.high j g i)
      high j g h (inr i) = q.high j (omega arith) (omega arith)

-- ---- a slice after k entries of it from s on were lent, and became `part`
module _ (s k : ℕ) (old part : List ℤ) (room : s + k ≤ length old) (long : length part ≡ k) where
  abbrev back : List ℤ
  back = take s old ++ (part ++ drop k (drop s old))

  back_length : length back ≡ length old
  back_length =
      length-append (take s old) (part ++ drop k (drop s old))
      ∙ omega (arith, length-take-le s old (omega arith), length-append part (drop k (drop s old)), length-drop k (drop s old), length-drop s old)

  back_front : (j : ℕ) → j < s → get_or back j (pos 0) ≡ get_or old j (pos 0)
  back_front j h =
      let t = length-take-le s old (omega arith) in
      get_or-append (take s old) (part ++ drop k (drop s old)) (pos 0) j (omega arith) ∙ get_or-take s old j (pos 0) h

  -- what stands behind the front
  back_from : (x : ℕ) → get_or back (s + x) (pos 0) ≡ get_or (part ++ drop k (drop s old)) x (pos 0)
  back_from x =
      let t = length-take-le s old (omega arith) in
      let e : s + x ≡ length (take s old) + x = omega arith in
      rw e (get_or-append-add (take s old) (part ++ drop k (drop s old)) x (pos 0))

  back_inside : (j : ℕ) → s ≤ j → j < s + k → get_or back j (pos 0) ≡ get_or part (j - s) (pos 0)
  back_inside j l h =
      let e : s + (j - s) ≡ j = omega arith in
      rw e at (back_from (j - s) ∙ get_or-append part (drop k (drop s old)) (pos 0) (j - s) (omega arith))

  back_behind : (j : ℕ) → s + k ≤ j → get_or back j (pos 0) ≡ get_or old j (pos 0)
  back_behind j h =
      let x = j - s - k in
      let e : s + (k + x) ≡ j = omega arith in
      let z : k + x ≡ length part + x = omega arith in
      rw e at
      (back_from (k + x)
      ∙ rw z (get_or-append-add part (drop k (drop s old)) x (pos 0))
      ∙ get_or-drop k (drop s old) x (pos 0)
      ∙ get_or-drop s old (k + x) (pos 0))

  -- where all of the part is new
  pub put_filled : (f : ℕ → ℤ) (m q : ℕ) → m ≡ k → ((x : ℕ) → x < k → get_or part x (pos 0) ≡ f (s + x)) → Put f s m q 0 old back
  put_filled f m q e h =
      record {
        long = back_length;
        low =
            λ j l w.
            let z : s + (j - s) ≡ j = omega arith in
            back_inside j l (omega arith) ∙ rw z at (h (j - s) (omega arith));
        high = λ j l w. absurd (omega arith);
        kept = λ j o w. same j o (cases_lt j s);
      }
    where
      same : (j : ℕ) → (s ≤ j → s + m ≤ j) → (j < s) ⊎ (s ≤ j) → get_or back j (pos 0) ≡ get_or old j (pos 0)
      same j o (inl l) = back_front j l
      same j o (inr l) = let i = o l in back_behind j (omega arith)
