-- The mark of rows, by their parts (`rows_outside` of specs/Parts.antt): none of no row (`rows_none`), what was seen and the next rows put together by
-- `or` (`rows_more`), all rows (`rows_seen`), and the outer lines with them (`rows_marked`). Assumes nothing.
use mathlib.Core.Path.{◌≡◌, refl, sym, ap, ◌∙◌}
use mathlib.Core.Bool.{Bool, true, false, ◌||◌, ◌&&◌}
use mathlib.Core.List.{List}
use Prim.Native.Nat.{ℕ, ◌+◌, ◌-◌, ◌*◌, ◌≤◌}
use native.Mathlib.Omega.{arith}
use native.Mathlib.Nat.{mul-le-mul_right}
use lib.IntN.{ℤ}
use lib.ListN.{length, take, drop}
use lib.Seq.{take-add, drop-drop, take_all}
use Rattle.std.proofs.Math.Bool.{and-or_distrib_left}
use Rattle.range.specs.Range.{some_outside}
use Rattle.range.proofs.Slices.{one_after_other}
use Rattle.range.proofs.Told.{one_behind}
use Rattle.line.specs.Uncut.{Squeeze, Fitting, size, uncut}
use Rattle.line.specs.Marks.{outers_outside}
use Rattle.line.specs.Squeezed.{squeeze_of}
use Rattle.line.specs.declared.Squeezed.{Squeezed}
use Rattle.line.proofs.Outputs.{uncut_length}
use Rattle.rows.specs.Parts.{between, IsPart, rows_outside}
use Rattle.rows.proofs.Strips.{rows_span}

-- ---- a part of a slice
no_part : (xs : List ℤ) (a : ℕ) → some_outside (between xs a a) ≡ false
no_part xs a = let z : a - a ≡ 0 = omega arith in rw z refl

two_parts : (xs : List ℤ) (a b c : ℕ) → a ≤ b → b ≤ c
    → (some_outside (between xs a b) || some_outside (between xs b c)) ≡ some_outside (between xs a c)
two_parts xs a b c h k =
    let e : c - a ≡ b - a + (c - b) = omega arith in
    let m : a + (b - a) ≡ b = omega arith in
    sym (rw (e, take-add (b - a) (c - b) (drop a xs), drop-drop (b - a) a xs, m) (one_after_other (between xs a b) (between xs b c)))

whole_part : (xs : List ℤ) (n : ℕ) → length xs ≡ n → between xs 0 n ≡ xs
whole_part xs n e = let z : n - 0 ≡ n = omega arith in rw z (take_all n xs (omega arith))

-- ---- tests
crossed : (a b c d : Bool) → ((a || b) || (c || d)) ≡ ((a || c) || (b || d))
crossed true b c d = refl
crossed false true true d = refl
crossed false true false d = refl
crossed false false c d = refl

-- ---- rows
pub rows_none : (m : Bool) (s : Squeeze) (a : ℕ) → false ≡ (m && rows_outside s a a)
unfolding rows_outside
rows_none true s a = rw (no_part s.res (a * s.residuals), no_part (uncut s) (a * size s)) refl
rows_none false s a = refl

-- of the residuals, and of the output
abbrev res_outside : Squeeze → ℕ → ℕ → Bool
res_outside s a b = some_outside (between s.res (a * s.residuals) (b * s.residuals))

abbrev out_outside : Squeeze → ℕ → ℕ → Bool
out_outside s a b = some_outside (between (uncut s) (a * size s) (b * size s))

parts_more : (s : Squeeze) (a b c : ℕ) → a ≤ b → b ≤ c → (rows_outside s a b || rows_outside s b c) ≡ rows_outside s a c
unfolding rows_outside
parts_more s a b c h k =
    crossed (res_outside s a b) (out_outside s a b) (res_outside s b c) (out_outside s b c)
    ∙ rw (
      two_parts s.res (a * s.residuals) (b * s.residuals) (c * s.residuals) (mul-le-mul_right s.residuals h) (mul-le-mul_right s.residuals k),
      two_parts (uncut s) (a * size s) (b * size s) (c * size s) (mul-le-mul_right (size s) h) (mul-le-mul_right (size s) k),
    ) refl

-- the part of rows that were made
part_seen : (s : Squeeze) (y c : ℕ) (res made : List ℤ) → res ≡ between s.res (y * s.residuals) ((y + c) * s.residuals)
    → made ≡ take (c * size s) (drop (y * size s) (uncut s)) → (some_outside res || some_outside made) ≡ rows_outside s y (y + c)
unfolding rows_outside
part_seen s y c res made e f = rw (e, f, rows_span y c (size s)) refl

pub rows_more : (m : Bool) {s part : Squeezed} (lines a y c : ℕ) {made : List ℤ} {seen next : Bool} → a ≤ y → IsPart s part y (y + c)
    → made ≡ take (c * size (squeeze_of true lines s)) (drop (y * size (squeeze_of true lines s)) (uncut (squeeze_of true lines s)))
    → seen ≡ (m && rows_outside (squeeze_of true lines s) a y)
    → next ≡ (m && (some_outside part.res.now || some_outside made))
    → (seen || next) ≡ (m && rows_outside (squeeze_of true lines s) a (y + c))
rows_more m {s} {part} lines a y c {made} h p e f g =
    let w = squeeze_of true lines s in
    rw (f, g, part_seen w y c part.res.now made p.res e)
    (sym (and-or_distrib_left m (rows_outside w a y) (rows_outside w y (y + c))) ∙ ap (λ (x : Bool). m && x) (parts_more w a y (y + c) h (omega arith)))

-- ---- the squeeze
rows_all : (s : Squeeze) → Fitting s → rows_outside s 0 s.lines ≡ (some_outside s.res || some_outside (uncut s))
unfolding rows_outside
rows_all s f =
    let z : 0 * s.residuals ≡ 0 = omega arith in
    let y : 0 * size s ≡ 0 = omega arith in
    rw (z, y, whole_part s.res (s.lines * s.residuals) f.res_length, whole_part (uncut s) (s.lines * size s) (uncut_length s)) refl

-- the eights and the single rows
pub rows_seen : (m : Bool) (s : Squeeze) (done : ℕ) {eights singles : Bool} → Fitting s → done ≤ s.lines
    → eights ≡ (m && rows_outside s 0 done) → singles ≡ (m && rows_outside s done s.lines)
    → (eights || singles) ≡ (m && (some_outside s.res || some_outside (uncut s)))
rows_seen m s done f h e g =
    rw (e, g, ← and-or_distrib_left m (rows_outside s 0 done) (rows_outside s done s.lines), parts_more s 0 done s.lines (omega arith) h, rows_all s f) refl

-- and the outer lines
pub rows_marked : (m : Bool) (s : Squeeze) (done : ℕ) {eights singles outers : Bool} → Fitting s → done ≤ s.lines
    → eights ≡ (m && rows_outside s 0 done) → singles ≡ (m && rows_outside s done s.lines) → outers ≡ (m && outers_outside s)
    → ((eights || singles) || outers) ≡ (m && (some_outside s.res || (some_outside (uncut s) || outers_outside s)))
rows_marked m s done f h e g o =
    rw (rows_seen m s done f h e g, o) (one_behind m (some_outside s.res) (some_outside (uncut s)) (outers_outside s))
