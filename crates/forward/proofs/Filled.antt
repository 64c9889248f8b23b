-- A slice whose first n entries are those of a function (`Filled` of specs/Rows.antt): by a store, by a part that was lent and is now a table of the
-- next ones, and a slice that is so whole. Assumes nothing.
use mathlib.Core.Path.{◌≡◌, refl, ◌∙◌}
use mathlib.Core.List.{List, ◌++◌}
use mathlib.Core.Logic.{◌⊎◌, inl, inr}
use Prim.Native.Nat.{ℕ, ◌+◌, ◌-◌, ◌*◌, ◌<◌, ◌≤◌}
use native.Mathlib.Omega.{arith}
use native.Mathlib.Nat.{add-mul}
use lib.IntN.{ℤ, pos}
use lib.ListN.{length, get_or, set, take, drop, length-append, length-drop, get_or-append}
use lib.Seq.{get_or-set_same, get_or-set_other, get_or-take, get_or-append-add, length-take-le}
use Rattle.line.specs.Uncut.{table}
use Rattle.forward.specs.Rows.{Filled}
use Rattle.std.proofs.lemmas.Bool.{cases_lt}
use Rattle.line.proofs.Tables.{is_table, table_at, table_length}

module _ (f : ℕ → ℤ) where
  pub filled_none : (out : List ℤ) → Filled f 0 out
  filled_none out j h = absurd (omega arith)

  pub filled_all : (n : ℕ) (out : List ℤ) → length out ≡ n → Filled f n out → out ≡ table f 0 n
  filled_all n out e p = is_table f 0 n out e (λ i l. let z : 0 + i ≡ i = omega arith in rw z (p i l))

  -- one entry more
  pub filled_set : (n : ℕ) (out : List ℤ) (v : ℤ) → n < length out → v ≡ f n → Filled f n out → Filled f (n + 1) (set out n v)
  filled_set n out v h e p j l = by (cases_lt j n)
    where
      by : (j < n) ⊎ (n ≤ j) → get_or (set out n v) j (pos 0) ≡ f j
      by (inl b) = get_or-set_other out n j v (pos 0) (λ s. omega arith) ∙ p j b
      by (inr b) = let s : j ≡ n = omega arith in rw s (get_or-set_same out n v (pos 0) h ∙ e)

  -- n entries more, in a part that was lent
  pub filled_part : (s k n m : ℕ) (old part : List ℤ) → s ≤ length old → n ≤ length part → ((x : ℕ) → x < n → get_or part x (pos 0) ≡ f (s + x))
      → Filled f s old → m ≡ s + n → Filled f m (take s old ++ (part ++ drop k (drop s old)))
  filled_part s k n m old part h long same p em j l = by (cases_lt j s)
    where
      front : length (take s old) ≡ s
      front = length-take-le s old h

      by : (j < s) ⊎ (s ≤ j) → get_or (take s old ++ (part ++ drop k (drop s old))) j (pos 0) ≡ f j
      by (inl b) =
          get_or-append (take s old) (part ++ drop k (drop s old)) (pos 0) j (omega (arith, front))
          ∙ get_or-take s old j (pos 0) b ∙ p j b
      by (inr b) =
          let x = j - s in
          let z : length (take s old) + x ≡ j = omega (arith, front) in
          let y : s + x ≡ j = omega arith in
          rw z at (get_or-append-add (take s old) (part ++ drop k (drop s old)) x (pos 0))
          ∙ get_or-append part (drop k (drop s old)) (pos 0) x (omega arith)
          ∙ rw y at (same x (omega arith))

  -- which is now a table
  pub filled_table : (g : ℕ → ℤ) (a s k n m : ℕ) (old part : List ℤ) → s ≤ length old → part ≡ table g a n
      → ((x : ℕ) → x < n → g (a + x) ≡ f (s + x)) → Filled f s old → m ≡ s + n → Filled f m (take s old ++ (part ++ drop k (drop s old)))
  filled_table g a s k n m old part h e same p em =
      let long : length part ≡ n = rw e (table_length g a n) in
      filled_part s k n m old part h (omega arith) (λ x l. rw e (table_at g a n x l ∙ same x l)) p em

  -- the first n entries, before others
  pub filled_front : (g : ℕ → ℤ) (a n : ℕ) (part others : List ℤ) → part ≡ table g a n → ((x : ℕ) → x < n → g (a + x) ≡ f x) → Filled f n (part ++ others)
  filled_front g a n part others e same j l =
      let long : length part ≡ n = rw e (table_length g a n) in
      get_or-append part others (pos 0) j (omega arith) ∙ rw e (table_at g a n j l ∙ same j l)

-- a slice after a part of it was lent, which keeps its length
pub lent_length : (s k : ℕ) (old part : List ℤ) → s + k ≤ length old → length part ≡ k → length (take s old ++ (part ++ drop k (drop s old))) ≡ length old
lent_length s k old part h e =
    length-append (take s old) (part ++ drop k (drop s old))
    ∙ omega (arith, length-take-le s old (omega arith), length-append part (drop k (drop s old)), length-drop k (drop s old), length-drop s old)

-- ---- rows of w entries
-- the first row of w entries
pub first_row : (f : ℕ → ℤ) (w : ℕ) (row others : List ℤ) → row ≡ table f (0 * w) w → Filled f w (row ++ others)
first_row f w row others e = filled_front f f (0 * w) w row others e (λ x l. let z : 0 * w + x ≡ x = omega arith in rw z)

-- a row after those before it
pub next_row : (f : ℕ → ℤ) (y w k m : ℕ) (old row : List ℤ) → y * w ≤ length old → row ≡ table f (y * w) w → Filled f (y * w) old → m ≡ (y + 1) * w
    → Filled f m (take (y * w) old ++ (row ++ drop k (drop (y * w) old)))
next_row f y w k m old row h e p em =
    filled_table f f (y * w) (y * w) k w m old row h e (λ x l. refl) p (em ∙ add-mul y 1 w ∙ omega arith)
