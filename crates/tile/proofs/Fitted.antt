-- What the answers to questions 5, 12 and 14 say of a call (specs/Call.antt): the number that it gets, and that an accepted call's sizes and slices
-- fit. Assumes nothing.
use mathlib.Core.Path.{◌≡◌, refl, sym, ap, ◌∙◌}
use mathlib.Core.Bool.{Bool, true, false, cond, ◌&&◌, ◌||◌}
use mathlib.Core.List.{List}
use mathlib.Core.Logic.{◌⊎◌, inl, inr}
use Prim.Native.Nat.{ℕ, ◌+◌, ◌*◌, ◌≤◌}
use native.Mathlib.Omega.{arith}
use native.Mathlib.Nat.{mul_comm}
use borrow.Author.Tests.{leb-true, eqb-true, eq-eqb, ne_eqb}
use lib.Dec.{eqb}
use lib.IntN.{ℤ}
use lib.ListN.{length}
use Rattle.numbers.specs.Numbers.{max_samples, refused_samples, refused_sizes, refused_length}
use Rattle.line.specs.Uncut.{Fitting, uncut}
use Rattle.line.specs.Into.{outer_fits, uncut_into}
use Rattle.line.specs.Marks.{marked_into}
use Rattle.line.proofs.Into.{and_true, outer_line, fitting_fits, into_fits}
use Rattle.tile.specs.declared.Sides.{Sides}
use Rattle.tile.specs.Call.{Call, area, area_allowed, areas_allowed, along, across, sides_small, sides_fit, line_fits, sizes_fit, slices_fit, answer, squeeze_on, squeeze_of, after, call_mark}

-- ---- tests taken apart
or_true : (a b : Bool) → a || b ≡ true → (a ≡ true) ⊎ (b ≡ true)
or_true true b e = inl refl
or_true false b e = inr e

and_none : (a : Bool) → (a && false) ≡ false
and_none true = refl
and_none false = refl

-- ---- the number that a call gets
module _ (c : Call) where
  pub five : areas_allowed c ≡ false → answer c ≡ 5
  unfolding answer
  five e = rw e

  pub thirteen : areas_allowed c ≡ true → sizes_fit c ≡ false → answer c ≡ 13
  unfolding answer
  thirteen e f = rw (e, f)

  pub twelve : areas_allowed c ≡ true → sizes_fit c ≡ true → slices_fit c ≡ false → answer c ≡ 12
  unfolding answer
  twelve e f g = rw (e, f, g)

  pub none : areas_allowed c ≡ true → sizes_fit c ≡ true → slices_fit c ≡ true → answer c ≡ 0
  unfolding answer
  none e f g = rw (e, f, g)

  pub refused_after : (answer c ≡ 0 → ⊥) → after c ≡ c.out
  unfolding after
  refused_after n = rw (ne_eqb (answer c) 0 n)

  pub refused_mark : (answer c ≡ 0 → ⊥) → call_mark c ≡ false
  unfolding call_mark
  refused_mark n = rw (ne_eqb (answer c) 0 n)

  -- a call that is refused with the number of a refusal
  pub refused : (marks : Bool) (n : ℕ) → (n ≡ 0 → ⊥) → n ≡ answer c → (n ≡ answer c) × (c.out ≡ after c) × (false ≡ (marks && call_mark c))
  refused marks n s e =
      (e, sym (refused_after (λ z. s (e ∙ z))), rw (refused_mark (λ z. s (e ∙ z))) (sym (and_none marks)))

  pub made : answer c ≡ 0 → after c ≡ uncut (squeeze_of c)
  unfolding after
  made e = rw (eq-eqb (answer c) 0 e)

  -- only a call whose sizes and slices fit gets none
  pub fits : answer c ≡ 0 → (sizes_fit c ≡ true) × (slices_fit c ≡ true)
  unfolding answer
  fits e = by (areas_allowed c) (sizes_fit c) (slices_fit c) e
    where
      by : (a b d : Bool) → cond a (cond b (cond d 0 refused_length) refused_sizes) refused_samples ≡ 0 → (b ≡ true) × (d ≡ true)
      by true true true e = (refl, refl)
      by true true false e = absurd (omega arith)
      by true false d e = absurd (omega arith)
      by false b d e = absurd (omega arith)

-- ---- an area that is allowed
pub area_small : (s : Sides) → area_allowed s ≡ true → area s ≤ max_samples
unfolding area_allowed
area_small s e = leb-true (area s) max_samples e

area_by : (h : Bool) (s : Sides) → area s ≡ across h s * along h s
area_by true s = mul_comm s.width s.height
area_by false s = refl

-- ---- sides that fit
record SidesFit (h : Bool) (a r o : Sides) : Type 0 where
  low : along h r ≤ along h a
  high : along h a ≤ along h r + 1
  sum : along h o ≡ along h a + along h r
  res_across : across h r ≡ across h a
  out_across : across h o ≡ across h a

sides_fit_lem : (h : Bool) (a r o : Sides) → sides_fit h a r o ≡ true → SidesFit h a r o
unfolding sides_fit
sides_fit_lem h a r o e =
    let s = and_true (sides_small a && (sides_small r && sides_small o)) _ e in
    let p = and_true (eqb (along h a) (along h r) || eqb (along h a) (along h r + 1)) _ s.1 in
    let q = and_true (eqb (along h o) (along h a + along h r)) _ p.1 in
    let t = and_true (eqb (across h r) (across h a)) (eqb (across h o) (across h a)) q.1 in
    let d = one_or_none (or_true (eqb (along h a) (along h r)) (eqb (along h a) (along h r + 1)) p.0) in
    record {
      low = d.0;
      high = d.1;
      sum = eqb-true (along h o) (along h a + along h r) q.0;
      res_across = eqb-true (across h r) (across h a) t.0;
      out_across = eqb-true (across h o) (across h a) t.1;
    }
  where
    one_or_none : (eqb (along h a) (along h r) ≡ true) ⊎ (eqb (along h a) (along h r + 1) ≡ true) → (along h r ≤ along h a) × (along h a ≤ along h r + 1)
    one_or_none (inl t) = let z = eqb-true (along h a) (along h r) t in (omega arith, omega arith)
    one_or_none (inr t) = let z = eqb-true (along h a) (along h r + 1) t in (omega arith, omega arith)

-- the test of an outer line is that of the crate line
pub same_test : (n : ℕ) (xs : List ℤ) → outer_fits n xs ≡ line_fits n xs
unfolding line_fits outer_fits
same_test n xs = refl

line_fits_lem : (n : ℕ) (xs : List ℤ) → line_fits n xs ≡ true → (length xs ≡ 0) ⊎ (length xs ≡ n)
line_fits_lem n xs e = outer_line n xs (same_test n xs ∙ e)

-- ---- a call whose sizes and slices fit
module _ (c : Call) (f : sizes_fit c ≡ true) (g : slices_fit c ≡ true) where
  fit : SidesFit c.horizontal c.avg_sides c.res_sides c.out_sides
  unfolding sizes_fit
  fit =
      let n = across c.horizontal c.avg_sides in
      sides_fit_lem c.horizontal c.avg_sides c.res_sides c.out_sides
      (and_true (sides_fit c.horizontal c.avg_sides c.res_sides c.out_sides) (line_fits n c.next && line_fits n c.prev) f).0

  outer_fit : (line_fits (across c.horizontal c.avg_sides) c.next ≡ true) × (line_fits (across c.horizontal c.avg_sides) c.prev ≡ true)
  unfolding sizes_fit
  outer_fit =
      let n = across c.horizontal c.avg_sides in
      and_true (line_fits n c.next) (line_fits n c.prev)
      (and_true (sides_fit c.horizontal c.avg_sides c.res_sides c.out_sides) (line_fits n c.next && line_fits n c.prev) f).1

  lengths : (length c.avg ≡ area c.avg_sides) × (length c.res ≡ area c.res_sides) × (length c.out ≡ area c.out_sides)
  unfolding slices_fit
  lengths =
      let p = and_true (eqb (length c.avg) (area c.avg_sides)) _ g in
      let q = and_true (eqb (length c.res) (area c.res_sides)) (eqb (length c.out) (area c.out_sides)) p.1 in
      (eqb-true (length c.avg) (area c.avg_sides) p.0, eqb-true (length c.res) (area c.res_sides) q.0, eqb-true (length c.out) (area c.out_sides) q.1)

  pub fitting : Fitting (squeeze_on c.horizontal c.avg_sides c.res_sides c.avg c.res c.next c.prev)
  fitting =
      let h = c.horizontal in
      record {
        low = fit.low;
        high = fit.high;
        avg_length = lengths.0 ∙ area_by h c.avg_sides;
        res_length = lengths.1 ∙ area_by h c.res_sides ∙ ap (λ (n : ℕ). n * along h c.res_sides) fit.res_across;
        next_length = line_fits_lem (across h c.avg_sides) c.next outer_fit.0;
        prev_length = line_fits_lem (across h c.avg_sides) c.prev outer_fit.1;
      }

  pub out_length : length c.out ≡ across c.horizontal c.avg_sides * (along c.horizontal c.avg_sides + along c.horizontal c.res_sides)
  out_length =
      let h = c.horizontal in
      lengths.2 ∙ area_by h c.out_sides ∙ rw (fit.out_across, fit.sum)

-- ---- the tests of the code, in their order
module _ (c : Call) {p q s : Bool}
    (ea : p ≡ area_allowed c.avg_sides) (er : q ≡ area_allowed c.res_sides) (eo : s ≡ area_allowed c.out_sides) where
  areas : (b : Bool) → p && (q && s) ≡ b → areas_allowed c ≡ b
  unfolding areas_allowed
  areas b t = rw (← ea, ← er, ← eo) t

  pub areas_refused : p && (q && s) ≡ false → refused_samples ≡ answer c
  areas_refused t = sym (five c (areas false t))

  module _ (yes : p && (q && s) ≡ true) {x : ℕ} {f n l : Bool} (ex : x ≡ across c.horizontal c.avg_sides)
      (ef : f ≡ sides_fit c.horizontal c.avg_sides c.res_sides c.out_sides) (en : n ≡ outer_fits x c.next) (el : l ≡ outer_fits x c.prev) where
    sizes : (b : Bool) → f && (n && l) ≡ b → sizes_fit c ≡ b
    unfolding sizes_fit
    sizes b t =
        let k = across c.horizontal c.avg_sides in
        rw (← same_test k c.next, ← same_test k c.prev, ← ef, ← ex, ← en, ← el) t

    pub sizes_refused : f && (n && l) ≡ false → refused_sizes ≡ answer c
    sizes_refused t = sym (thirteen c (areas true yes) (sizes false t))

    module _ (also : f && (n && l) ≡ true) where
      pub slices_refused : slices_fit c ≡ false → refused_length ≡ answer c
      slices_refused t = sym (twelve c (areas true yes) (sizes true also) t)

      pub none_refused : slices_fit c ≡ true → 0 ≡ answer c
      none_refused t = sym (none c (areas true yes) (sizes true also) t)

-- ---- a call that is accepted, with what the squeeze then made and told
pub accepted_made : (c : Call) (marks m : Bool) (r : List ℤ) → 0 ≡ answer c → r ≡ uncut_into (squeeze_of c) c.out
    → m ≡ (marks && marked_into (squeeze_of c) c.out) → (0 ≡ answer c) × (r ≡ after c) × (m ≡ (marks && call_mark c))
unfolding squeeze_of call_mark marked_into
accepted_made c marks m r e er em =
    let w = fits c (sym e) in
    let room = fitting_fits _ _ _ c.avg c.res c.next c.prev c.out (fitting c w.0 w.1) (out_length c w.0 w.1) in
    (e, er ∙ sym (made c (sym e) ∙ into_fits (squeeze_of c) c.out room), em ∙ rw (room, eq-eqb (answer c) 0 (sym e)) refl)
