-- Where line k and position i lie in a slice (`place` of specs/Uncut.antt), and back: inside the slice the two ways undo each other, in
-- either direction. So a slice of all entries of all lines (`entries`) has entry i of line k at their place, and a slice that has them there is it.
-- Assumes nothing.
use mathlib.Core.Path.{◌≡◌, sym, ap, ◌∙◌}
use mathlib.Core.Bool.{Bool, true, false}
use mathlib.Core.List.{List}
use Prim.Native.Nat.{ℕ, zero, suc, ◌+◌, ◌*◌, ◌/◌, ◌%◌, ◌<◌, ◌≤◌}
use native.Mathlib.Omega.{arith}
use native.Mathlib.Nat.{div-add-mod', mod-lt, mul-le-mul_right, mul_comm, add-mul-div_right, div-eq_of_lt, mod-eq_of_lt, mul-add-mod_self_right, div-lt_iff_lt-mul}
use lib.IntN.{ℤ, pos}
use lib.ListN.{length, get_or}
use Rattle.line.specs.Uncut.{place, line_at, position_at, table}
use Rattle.line.proofs.Tables.{table_length, table_at, is_table}

-- ---- rows of n: row k, place i in it
pub row_of : (k n i : ℕ) → i < n → (k * n + i) / n ≡ k
row_of k n i h =
    let p : 0 < n = omega arith in
    let c : k * n + i ≡ i + k * n = omega arith in
    let z : i / n ≡ 0 = div-eq_of_lt h in
    rw (c, add-mul-div_right i k p, z) (omega arith)

pub rest_of : (k n i : ℕ) → i < n → (k * n + i) % n ≡ i
rest_of k n i h = mul-add-mod_self_right k n i ∙ mod-eq_of_lt h

pub row_room : (k n i m : ℕ) → k < m → i < n → k * n + i < m * n
row_room k n i m h l =
    let s : suc k ≤ m = h in
    let r : suc k * n ≤ m * n = mul-le-mul_right n s in
    omega arith

-- where something lies there are lines, and positions along them
some_room : (lines size j : ℕ) → j < lines * size → (0 < lines) × (0 < size)
some_room zero size j h = absurd (omega arith)
some_room (suc lines) zero j h = absurd (omega arith)
some_room (suc lines) (suc size) j h = (omega arith, omega arith)

-- ---- either direction
module _ (horizontal : Bool) (lines size : ℕ) where
  pub line_back : (k i : ℕ) → k < lines → i < size → line_at horizontal lines size (place horizontal lines size k i) ≡ k
  line_back k i hk hi = go horizontal
    where
      go : (h : Bool) → line_at h lines size (place h lines size k i) ≡ k
      go true = row_of k size i hi
      go false = rest_of i lines k hk

  pub position_back : (k i : ℕ) → k < lines → i < size → position_at horizontal lines size (place horizontal lines size k i) ≡ i
  position_back k i hk hi = go horizontal
    where
      go : (h : Bool) → position_at h lines size (place h lines size k i) ≡ i
      go true = rest_of k size i hi
      go false = row_of i lines k hk

  pub place_room_lem : (k i : ℕ) → k < lines → i < size → place horizontal lines size k i < lines * size
  place_room_lem k i hk hi = go horizontal
    where
      go : (h : Bool) → place h lines size k i < lines * size
      go true = row_room k size i lines hk hi
      go false = let c = mul_comm lines size in let r = row_room i lines k size hi hk in omega arith

  pub line_room : (j : ℕ) → j < lines * size → line_at horizontal lines size j < lines
  line_room j h = go horizontal
    where
      go : (d : Bool) → line_at d lines size j < lines
      go true = (div-lt_iff_lt-mul (some_room lines size j h).1).1 h
      go false = mod-lt j (some_room lines size j h).0

  pub position_room : (j : ℕ) → j < lines * size → position_at horizontal lines size j < size
  position_room j h = go horizontal
    where
      go : (d : Bool) → position_at d lines size j < size
      go true = mod-lt j (some_room lines size j h).1
      go false = let c = mul_comm lines size in (div-lt_iff_lt-mul (some_room lines size j h).0).1 (omega arith)

  pub place_back : (j : ℕ) → place horizontal lines size (line_at horizontal lines size j) (position_at horizontal lines size j) ≡ j
  place_back j = go horizontal
    where
      go : (d : Bool) → place d lines size (line_at d lines size j) (position_at d lines size j) ≡ j
      go true = div-add-mod' j size
      go false = div-add-mod' j lines

  -- what is true of every sample of a slice is true of those at its places
  pub at_place : (P : ℤ → Type 0) (xs : List ℤ) → length xs ≡ lines * size → ((j : ℕ) → j < length xs → P (get_or xs j (pos 0)))
      → (k i : ℕ) → k < lines → i < size → P (get_or xs (place horizontal lines size k i) (pos 0))
  at_place P xs e all k i hk hi = let r = place_room_lem k i hk hi in all (place horizontal lines size k i) (omega arith)

  -- ---- all entries of all lines, of which f has entry i of line k
  module _ (f : ℕ → ℕ → ℤ) where
    abbrev pub entries : List ℤ
    entries = table (λ j. f (line_at horizontal lines size j) (position_at horizontal lines size j)) 0 (lines * size)

    pub entry_at : (k i : ℕ) → k < lines → i < size → get_or entries (place horizontal lines size k i) (pos 0) ≡ f k i
    entry_at k i hk hi =
        let j = place horizontal lines size k i in
        let z : 0 + j ≡ j = omega arith in
        table_at (λ j. f (line_at horizontal lines size j) (position_at horizontal lines size j)) 0 (lines * size) j (place_room_lem k i hk hi)
        ∙ rw (z, line_back k i hk hi, position_back k i hk hi)

    pub is_entries : (xs : List ℤ) → length xs ≡ lines * size
        → ((k i : ℕ) → k < lines → i < size → get_or xs (place horizontal lines size k i) (pos 0) ≡ f k i) → xs ≡ entries
    is_entries xs e h =
        is_table _ 0 (lines * size) xs e
        (λ j l.
        let z : 0 + j ≡ j = omega arith in
        rw z (ap (λ (q : ℕ). get_or xs q (pos 0)) (sym (place_back j)) ∙ h (line_at horizontal lines size j) (position_at horizontal lines size j) (line_room j l) (position_room j l)))

  -- two whose entries agree
  pub entries_cong : (f g : ℕ → ℕ → ℤ) → ((k i : ℕ) → k < lines → i < size → f k i ≡ g k i) → entries f ≡ entries g
  entries_cong f g h = is_entries g (entries f) (table_length _ 0 (lines * size)) (λ k i hk hi. entry_at f k i hk hi ∙ h k i hk hi)
