-- A strip of a horizontal squeeze: c of its lines from line y on, with their parts of the slices (`strip`). It fits where the squeeze does, its
-- line k is the squeeze's line y + k (`strip_line`), and so its output is that part of the squeeze's output (`strip_uncut`).
-- Assumes nothing.
use mathlib.Core.Path.{◌≡◌, refl, sym, ◌∙◌}
use mathlib.Core.Bool.{true}
use mathlib.Core.List.{List}
use Prim.Native.Nat.{ℕ, ◌+◌, ◌-◌, ◌*◌, ◌/◌, ◌%◌, ◌<◌, ◌≤◌}
use native.Mathlib.Omega.{arith}
use native.Mathlib.Nat.{add-mul, mul-le-mul_right, mul-add-div_right, mul-add-mod_self_right}
use lib.IntN.{ℤ, pos}
use lib.ListN.{length, get_or, take, drop}
use Rattle.line.specs.Uncut.{Squeeze, squeeze, Fitting, line_of, output_at, uncut, table}
use Rattle.line.specs.Into.{uncut_into}
use Rattle.line.proofs.Into.{fitting_fits, into_fits}
use Rattle.line.proofs.Tables.{is_table, table_at, table_cong, table_length}
use Rattle.line.proofs.Places.{row_room, line_room, position_room}
use Rattle.line.proofs.Lines.{Same, same_sample}
use Rattle.line.proofs.Outputs.{part_length, part_at, outer_length, outer_part}

-- ---- c rows of n from row y on
pub rows_room : (y c lines n : ℕ) → y + c ≤ lines → y * n + c * n ≤ lines * n
rows_room y c lines n h = let r : (y + c) * n ≤ lines * n = mul-le-mul_right n h in rw (add-mul y c n) at r

pub rows_span : (y c n : ℕ) → (y + c) * n - y * n ≡ c * n
rows_span y c n = rw (add-mul y c n) (omega arith)

-- they start and end inside
pub row_end : (e lines n : ℕ) → e ≤ lines → e * n ≤ lines * n
row_end e lines n h = mul-le-mul_right n h

pub row_start : (y c n : ℕ) → y * n ≤ (y + c) * n
row_start y c n = let h : y ≤ y + c = omega arith in mul-le-mul_right n h

pub size_fits : (lines size : ℕ) → 0 < lines → size ≤ lines * size
size_fits lines size h = let s : 1 * size ≤ lines * size = mul-le-mul_right size h in omega arith

-- one row
pub row_length : (y lines n : ℕ) (xs : List ℤ) → y + 1 ≤ lines → length xs ≡ lines * n → length (take (1 * n) (drop (y * n) xs)) ≡ n
row_length y lines n xs h e = let r = rows_room y 1 lines n h in part_length (y * n) (1 * n) xs (omega arith) ∙ omega arith

-- a row of the part
row_at : (y c n k i : ℕ) (xs : List ℤ) → k < c → i < n → get_or (take (c * n) (drop (y * n) xs)) (k * n + i) (pos 0) ≡ get_or xs ((y + k) * n + i) (pos 0)
row_at y c n k i xs hk hi =
    let e : y * n + (k * n + i) ≡ y * n + k * n + i = omega arith in
    part_at (y * n) (c * n) (k * n + i) xs (row_room k n i c hk hi) ∙ rw (add-mul y k n, e)

table_part : (f : ℕ → ℤ) (from n all : ℕ) → from + n ≤ all → take n (drop from (table f 0 all)) ≡ table f from n
table_part f from n all h =
    let l = table_length f 0 all in
    is_table f from n (take n (drop from (table f 0 all))) (part_length from n (table f 0 all) (omega arith))
    (λ i p. let z : 0 + (from + i) ≡ from + i = omega arith in part_at from n i (table f 0 all) p ∙ table_at f 0 all (from + i) (omega arith) ∙ rw z)

-- ---- the strip
abbrev pub strip : Squeeze → ℕ → ℕ → Squeeze
strip s y c =
    squeeze true c s.averages s.residuals
    (take (c * s.averages) (drop (y * s.averages) s.avg)) (take (c * s.residuals) (drop (y * s.residuals) s.res))
    (take c (drop y s.next)) (take c (drop y s.prev))

module _ (lines m n : ℕ) (avg res next prev : List ℤ) where
  abbrev whole : Squeeze
  whole = squeeze true lines m n avg res next prev

  module _ (f : Fitting whole) (y c : ℕ) (h : y + c ≤ lines) where
    pub strip_fitting : Fitting (strip whole y c)
    strip_fitting =
        record {
          low = f.low;
          high = f.high;
          avg_length = part_length (y * m) (c * m) avg (omega (arith, f.avg_length, rows_room y c lines m h));
          res_length = part_length (y * n) (c * n) res (omega (arith, f.res_length, rows_room y c lines n h));
          next_length = outer_length y c lines next h f.next_length;
          prev_length = outer_length y c lines prev h f.prev_length;
        }

    pub strip_line : (k : ℕ) → k < c → Same (line_of whole (y + k)) (line_of (strip whole y c) k)
    unfolding line_of
    strip_line k hk =
        record {
          averages = refl;
          residuals = refl;
          avg = λ i hi. row_at y c m k i avg hk hi;
          res = λ i hi. row_at y c n k i res hk hi;
          next = outer_part next y c k hk;
          prev = outer_part prev y c k hk;
        }

    strip_at : 0 < m → (q : ℕ) → q < c * (m + n) → output_at (strip whole y c) q ≡ output_at whole (y * (m + n) + q)
    unfolding output_at line_of
    strip_at some q hq =
        let p : 0 < m + n = omega arith in
        let k = line_room true c (m + n) q hq in
        let i = position_room true c (m + n) q hq in
        rw (mul-add-div_right p y q, mul-add-mod_self_right y (m + n) q)
        (same_sample (line_of whole (y + q / (m + n))) (line_of (strip whole y c) (q / (m + n)))
        (record { some = some; low = f.low; high = f.high }) (strip_line (q / (m + n)) k) (q % (m + n)) i)

    pub strip_uncut : 0 < m → uncut (strip whole y c) ≡ take (c * (m + n)) (drop (y * (m + n)) (uncut whole))
    unfolding uncut
    strip_uncut some =
        table_cong (output_at (strip whole y c)) (output_at whole) 0 (y * (m + n)) (c * (m + n))
        (λ q hq. let z : 0 + q ≡ q = omega arith in rw z (strip_at some q hq))
        ∙ sym (table_part (output_at whole) (y * (m + n)) (c * (m + n)) (lines * (m + n)) (rows_room y c lines (m + n) h))

    -- the same where it is written into a slice of its length
    pub strip_into : 0 < m → (part : List ℤ) → length part ≡ c * (m + n)
        → uncut_into (strip whole y c) part ≡ take (c * (m + n)) (drop (y * (m + n)) (uncut whole))
    strip_into some part long =
        let t = strip whole y c in
        sym (into_fits t part (fitting_fits c m n t.avg t.res t.next t.prev part strip_fitting long)) ∙ strip_uncut some
