-- Whether some residual or output of rows lies outside the plain range (`some_outside` of the crate range), from what the pairs of rows say of their
-- own: one more pair of rows, the row of tails, and all of them put together. Assumes nothing.
use mathlib.Core.Path.{◌≡◌, refl, sym, ap, ◌∙◌}
use mathlib.Core.Bool.{Bool, ◌&&◌, ◌||◌}
use mathlib.Core.List.{List, ◌++◌, append-nil}
use Prim.Native.Nat.{ℕ, ◌+◌, ◌<◌}
use native.Mathlib.Omega.{arith}
use lib.IntN.{ℤ, pos}
use lib.ListN.{length, get_or, take, drop, length-take, length-drop, drop_of_length-le}
use lib.Seq.{ext_get_or, get_or-take, take_all, take-length, length-take-le}
use Rattle.std.proofs.lemmas.List.{take-append-drop, drop-take, drop-append-le}
use Rattle.range.specs.Range.{some_outside}
use Rattle.range.proofs.Slices.{one_after_other}
use Rattle.range.proofs.Told.{gather, one_behind, samples_more}
use Rattle.columns.specs.Rows.{Columns}
use Rattle.columns.proofs.Pastes.{pasted}

-- ---- a slice and its parts
pub first_and_rest : (n : ℕ) (xs : List ℤ) → some_outside xs ≡ (some_outside (take n xs) || some_outside (drop n xs))
first_and_rest n xs = ap some_outside (sym (take-append-drop n xs)) ∙ one_after_other (take n xs) (drop n xs)

pub same_front : (n : ℕ) (xs ys : List ℤ) → length xs ≡ length ys → ((q : ℕ) → q < n → get_or xs q (pos 0) ≡ get_or ys q (pos 0)) → take n xs ≡ take n ys
same_front n xs ys l e =
    let t = length-take n xs in
    let u = length-take n ys in
    ext_get_or (pos 0) (take n xs) (take n ys) (t ∙ rw l (sym u))
    (λ q h. let k : q < n = omega arith in get_or-take n xs q (pos 0) k ∙ e q k ∙ sym (get_or-take n ys q (pos 0) k))

-- ---- one more pair of rows
-- a pair of rows leaves what stands before it
pub rows_before_kept : {avg res next old new : List ℤ} {from to : ℕ} → Columns avg res next old new from to 0 (length avg) → take to new ≡ take to old
rows_before_kept {avg} {res} {next} {old} {new} {from} {to} c =
    same_front to new old c.long (λ q h. c.kept q (λ k g p. (λ e. omega arith, λ e. omega arith)))

pub more_marked : (m : Bool) {avg res next old new : List ℤ} {from to : ℕ} (a w : ℕ) (all : List ℤ) {before pair : Bool} → length avg ≡ w
    → Columns avg res next old new from to 0 (length avg)
    → before ≡ (m && (some_outside (take a all) || some_outside (take to old)))
    → pair ≡ (m && (some_outside (take w (drop a all)) || some_outside (take (length avg + length avg) (drop to new))))
    → (before || pair) ≡ (m && (some_outside (take (a + w) all) || some_outside (take (to + w + w) new)))
more_marked m {avg} {res} {next} {old} {new} {from} {to} a w all l c eb ep =
    let n = length avg + length avg in
    let z : to + w + w ≡ to + n = omega arith in
    rw (eb, ep, z, samples_more a w all, samples_more to n new, rows_before_kept c)
    (gather m (some_outside (take a all)) (some_outside (take to old)) (some_outside (take w (drop a all))) (some_outside (take n (drop to new))))

-- ---- the last pair of rows, with its averages and residuals at a
-- without a row of tails: what is left of both slices
pub last_marked : (m : Bool) (a w n : ℕ) (res new : List ℤ) {pair : Bool} → a + w ≡ length res → length new ≡ a + a + n
    → pair ≡ (m && (some_outside (take w (drop a res)) || some_outside (take n (drop (a + a) new))))
    → pair ≡ (m && (some_outside (drop a res) || some_outside (drop (a + a) new)))
last_marked m a w n res new er en e =
    let dr = length-drop a res in
    let dn = length-drop (a + a) new in
    rw (take_all w (drop a res) (omega arith), take_all n (drop (a + a) new) (omega arith)) at e

-- and with one: the tails come after the pair's rows, and nothing after them
tails_last : (a n : ℕ) (mid tail : List ℤ) → length mid ≡ a + n + length tail → drop a (pasted mid (a + n) tail) ≡ take n (drop a mid) ++ tail
tails_last a n mid tail e =
    let p = a + n in
    let l = length-take-le p mid (omega arith) in
    rw (
      take-length tail,
      drop_of_length-le mid {i = p + length tail} (omega arith),
      append-nil (take p mid ++ tail),
      drop-append-le a (take p mid) tail (omega arith),
      drop-take a n mid,
    ) refl

pub tails_marked : (m : Bool) (a w n : ℕ) (res mid tail : List ℤ) {pair tails : Bool} → a + w ≡ length res → length mid ≡ a + a + n + length tail
    → pair ≡ (m && (some_outside (take w (drop a res)) || some_outside (take n (drop (a + a) mid))))
    → tails ≡ (m && some_outside tail)
    → (pair || tails) ≡ (m && (some_outside (drop a res) || some_outside (drop (a + a) (pasted mid (a + a + n) tail))))
tails_marked m a w n res mid tail er en e f =
    let dr = length-drop a res in
    let x = some_outside (drop a res) in
    let y = some_outside (take n (drop (a + a) mid)) in
    let z = some_outside tail in
    rw (e, f, take_all w (drop a res) (omega arith), tails_last (a + a) n mid tail en, one_after_other (take n (drop (a + a) mid)) tail)
    (one_behind m x y z)

-- ---- all of them
pub all_marked : (m : Bool) (a b : ℕ) (res mid new : List ℤ) {before last : Bool} → take b new ≡ take b mid
    → before ≡ (m && (some_outside (take a res) || some_outside (take b mid)))
    → last ≡ (m && (some_outside (drop a res) || some_outside (drop b new)))
    → (before || last) ≡ (m && (some_outside res || some_outside new))
all_marked m a b res mid new k eb el =
    rw (eb, el, first_and_rest a res, first_and_rest b new, k)
    (gather m (some_outside (take a res)) (some_outside (take b mid)) (some_outside (drop a res)) (some_outside (drop b new)))
