-- Parts put on a page one after the other, where each has room, and a loop that puts the lines of a table one by one. Assumes nothing.
use mathlib.Core.Path.{◌≡◌, sym, ap, ◌∙◌}
use mathlib.Core.List.{List, ◌++◌, append_assoc, append-nil}
use Prim.Native.Nat.{ℕ, ◌+◌, ◌-◌, ◌<◌, ◌≤◌}
use native.Mathlib.Omega.{arith}
use lib.ListN.{length, length-append}
use Rattle.list.specs.Tables.{table}
use Rattle.list.proofs.Tables.{table_rest, table_none}
use Rattle.record.specs.Bytes.{joined}
use Rattle.listing.specs.Putting.{Fits}

-- ---- one part after the other: x on the page a, and y on the page b that this gives
pub then : (a b x y : List ℕ) {c : List ℕ} → b ≡ a ++ x → c ≡ b ++ y → c ≡ a ++ (x ++ y)
then a b x y e f = rw (f, e) (simp append_assoc)

pub first_fits : (a x y : List ℕ) → Fits a (x ++ y) → Fits a x
first_fits a x y h = omega (arith, length-append x y)

pub rest_fits : (a x y : List ℕ) {b : List ℕ} → b ≡ a ++ x → Fits a (x ++ y) → Fits b y
rest_fits a x y e h = omega (arith, ap length e, length-append a x, length-append x y)

-- ---- n lines, those of f: before the loop `start` stands on the page, after k of them `page`, and those that are left complete them
pub record Lines {ℓ} {A : Type ℓ} (line : A → List ℕ) (f : ℕ → A) (n : ℕ) (start page : List ℕ) (k : ℕ) : Type ℓ where
  pub left : page ++ joined line (table f k (n - k)) ≡ start ++ joined line (table f 0 n)

module _ {ℓ} {A : Type ℓ} (line : A → List ℕ) (f : ℕ → A) (n : ℕ) (start : List ℕ) where
  pub lines_none : Lines line f n start start 0
  lines_none = let z : n - 0 ≡ n = omega arith in record { left = ap (λ (m : ℕ). start ++ joined line (table f 0 m)) z }

  module _ (page : List ℕ) (k : ℕ) (w : Lines line f n start page k) where
    pub lines_more : k < n → (next : List ℕ) → next ≡ page ++ line (f k) → Lines line f n start next (k + 1)
    lines_more h next e = record { left = rw (e, append_assoc) (rw (table_rest f k n h) at w.left) }

    -- there is room for one more where there was room for all
    pub line_fits : k < n → Fits start (joined line (table f 0 n)) → Fits page (line (f k))
    line_fits h room =
        let rest = joined line (table f (k + 1) (n - (k + 1))) in
        let long = ap length (rw (table_rest f k n h) at w.left) in
        omega (
          arith,
          room,
          long,
          length-append start (joined line (table f 0 n)),
          length-append page (line (f k) ++ rest),
          length-append (line (f k)) rest,
        )

    pub lines_all : n ≤ k → page ≡ start ++ joined line (table f 0 n)
    lines_all h = sym (append-nil page) ∙ rw (table_none f k n h) at w.left
