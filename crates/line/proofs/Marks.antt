-- The mark of a squeeze (specs/Marks.antt) by its slices: some residual, some sample of the output, or some sample that a pair reads of the outer lines
-- lies outside the plain range. So a squeeze without outer lines is unmarked exactly if every sample read or made lies in the domain of demand 2.
-- Assumes nothing.
use mathlib.Core.Path.{◌≡◌, refl, sym, ap, ◌∙◌}
use mathlib.Core.Bool.{Bool, true, false, ◌||◌, ◌&&◌}
use mathlib.Core.List.{List, [], ◌∷◌}
use mathlib.Core.Logic.{◌⊎◌, inl, inr}
use Prim.Native.Nat.{ℕ, suc, ◌+◌, ◌*◌, ◌<◌, ◌≤◌}
use native.Mathlib.Omega.{arith}
use borrow.Author.Tests.{lt-ltb, le-ltb, le-leb, lt-leb}
use lib.Dec.{ltb, leb}
use lib.IntN.{ℤ, pos}
use lib.ListN.{length, get_or, length-take, length-drop}
use Rattle.std.proofs.lemmas.Bool.{cases_lt}
use Rattle.arith32.specs.Arith.{Sample}
use Rattle.range.specs.Range.{outside, some_outside}
use Rattle.range.proofs.Some.{left_false, right_false, both_false, same, none, each}
use Rattle.range.proofs.Slices.{inside, none_outside}
use Rattle.standard.proofs.Range.{inside_domain, domain_inside}
use Rattle.line.specs.Uncut.{Squeeze, Fitting, place, line_at, position_at, size, outer, line_of, uncut}
use Rattle.line.specs.Forward.{Samples}
use Rattle.line.specs.Plain.{AllInDomain}
use Rattle.line.specs.Marks.{line_marked, squeeze_marked, outers_outside}
use Rattle.line.proofs.Places.{at_place, line_room, position_room, place_back}
use Rattle.line.proofs.Outputs.{outer_at, uncut_length, uncut_at, line_averages, line_residuals, line_avg, line_res, line_next, line_prev}
use Rattle.line.proofs.LineMarks.{LineInside, line_inside, line_unmarked, avg_inside}

-- ---- a slice by its places
module _ (h : Bool) (lines n : ℕ) (xs : List ℤ) (e : length xs ≡ lines * n) where
  pub each_place : some_outside xs ≡ false → (k i : ℕ) → k < lines → i < n → outside (get_or xs (place h lines n k i) (pos 0)) ≡ false
  each_place f = at_place h lines n (λ z. outside z ≡ false) xs e (inside xs f)

  pub all_places : ((k i : ℕ) → k < lines → i < n → outside (get_or xs (place h lines n k i) (pos 0)) ≡ false) → some_outside xs ≡ false
  all_places f =
      none_outside xs
      (λ j l.
      let m : j < lines * n = omega arith in
      rw (place_back h lines n j) at (f (line_at h lines n j) (position_at h lines n j) (line_room h lines n j m) (position_room h lines n j m)))

-- ---- an outer line by its samples
outer_inside : (xs : List ℤ) (k : ℕ) (x : ℤ) (ys : List ℤ) → some_outside xs ≡ false → outer xs k ≡ x ∷ ys → outside x ≡ false
outer_inside xs k x ys e q = by (cases_lt k (length xs))
  where
    by : (k < length xs) ⊎ (length xs ≤ k) → outside x ≡ false
    by (inl h) =
        let g : get_or xs k (pos 0) ≡ x = ap (λ (l : List ℤ). get_or l 0 (pos 0)) (sym (outer_at xs k h) ∙ q) in
        rw g at (inside xs e k h)
    by (inr h) =
        let z : length (outer xs k) ≡ 0 = simp (length-take, length-drop) (omega arith) in
        let n : length (outer xs k) ≡ suc (length ys) = ap length q in
        absurd (omega arith)

inside_outer : (xs : List ℤ) (lines : ℕ) → (length xs ≡ 0) ⊎ (length xs ≡ lines) → ((k : ℕ) (x : ℤ) → k < lines → outer xs k ≡ x ∷ [] → outside x ≡ false)
    → some_outside xs ≡ false
inside_outer xs lines (inl e) h = none_outside xs (λ k l. absurd (omega arith))
inside_outer xs lines (inr e) h = none_outside xs (λ k l. h k (get_or xs k (pos 0)) (omega arith) (outer_at xs k l))

-- where there are none, nothing of them is outside
pub no_outers : (s : Squeeze) → s.prev ≡ [] → s.next ≡ [] → outers_outside s ≡ false
unfolding outers_outside
no_outers s ep en = rw (ep, en) (by (ltb 0 s.residuals) (leb s.averages s.residuals))
  where
    by : (a b : Bool) → (a && (false || (b && false))) ≡ false
    by true true = refl
    by true false = refl
    by false b = refl

module _ (s : Squeeze) (f : Fitting s) where
  -- the lines of a squeeze, and what its mark is by them
  line_low : (k : ℕ) → (line_of s k).residuals ≤ (line_of s k).averages
  line_low k = omega (arith, f.low, line_averages s k, line_residuals s k)

  line_high : (k : ℕ) → (line_of s k).averages ≤ (line_of s k).residuals + 1
  line_high k = omega (arith, f.high, line_averages s k, line_residuals s k)

  -- what the mark looks at, all inside
  pub record AllIn : Type 0 where
    pub res : some_outside s.res ≡ false
    pub out : some_outside (uncut s) ≡ false
    pub outers : outers_outside s ≡ false

  -- ---- unmarked, so inside
  module _ (e : squeeze_marked s ≡ false) where
    in_line : (k : ℕ) → k < s.lines → LineInside (line_of s k)
    unfolding squeeze_marked
    in_line k h = line_inside (line_of s k) (line_low k) (line_high k) (each (λ k. line_marked (line_of s k)) s.lines e k h)

    res_in : some_outside s.res ≡ false
    res_in =
        all_places s.horizontal s.lines s.residuals s.res f.res_length
        (λ k i hk hi. rw (line_res s k i) at ((in_line k hk).res i (omega (arith, line_residuals s k))))

    out_in : some_outside (uncut s) ≡ false
    out_in =
        all_places s.horizontal s.lines (size s) (uncut s) (uncut_length s)
        (λ k j hk hj. rw (uncut_at s k j hk hj) ((in_line k hk).out j (omega (arith, line_averages s k, line_residuals s k))))

    prev_in : 0 < s.residuals → some_outside s.prev ≡ false
    prev_in p =
        inside_outer s.prev s.lines f.prev_length
        (λ k x hk q. (in_line k hk).prev x [] (omega (arith, line_residuals s k)) (line_prev s k ∙ q))

    next_in : 0 < s.residuals → s.averages ≤ s.residuals → some_outside s.next ≡ false
    next_in p m =
        inside_outer s.next s.lines f.next_length
        (λ k x hk q. (in_line k hk).next x [] (omega (arith, line_residuals s k)) (omega (arith, line_averages s k, line_residuals s k)) (line_next s k ∙ q))

    outers_in : outers_outside s ≡ false
    unfolding outers_outside
    outers_in = by (cases_lt 0 s.residuals) (cases_lt s.residuals s.averages)
      where
        by : (0 < s.residuals) ⊎ (s.residuals ≤ 0) → (s.residuals < s.averages) ⊎ (s.averages ≤ s.residuals)
            → (ltb 0 s.residuals && (some_outside s.prev || (leb s.averages s.residuals && some_outside s.next))) ≡ false
        by (inr p) m = rw (le-ltb 0 s.residuals p) refl
        by (inl p) (inl m) = rw (lt-ltb 0 s.residuals p, prev_in p, lt-leb s.averages s.residuals m) refl
        by (inl p) (inr m) = rw (lt-ltb 0 s.residuals p, prev_in p, le-leb s.averages s.residuals m, next_in p m) refl

    pub all_in : AllIn
    all_in = record { res = res_in; out = out_in; outers = outers_in }

  -- ---- inside, so unmarked
  module _ (fa : Samples s.avg) (a : AllIn) where
    prev_seen : 0 < s.residuals → some_outside s.prev ≡ false
    unfolding outers_outside
    prev_seen p =
        let o = rw (lt-ltb 0 s.residuals p) at a.outers in
        left_false (some_outside s.prev) (leb s.averages s.residuals && some_outside s.next) o

    next_seen : 0 < s.residuals → s.averages ≤ s.residuals → some_outside s.next ≡ false
    unfolding outers_outside
    next_seen p m =
        let o = rw (lt-ltb 0 s.residuals p) at a.outers in
        rw (le-leb s.averages s.residuals m) at (right_false (some_outside s.prev) (leb s.averages s.residuals && some_outside s.next) o)

    line_in_lem : (k : ℕ) → k < s.lines → LineInside (line_of s k)
    line_in_lem k hk =
        let na = line_averages s k in
        let nr = line_residuals s k in
        record {
          res = λ i hi. rw (line_res s k i) (each_place s.horizontal s.lines s.residuals s.res f.res_length a.res k i hk (omega arith));
          out = λ j hj.
              rw (uncut_at s k j hk (omega arith)) at
              (each_place s.horizontal s.lines (size s) (uncut s) (uncut_length s) a.out k j hk (omega arith));
          prev = λ x xs p q. outer_inside s.prev k x xs (prev_seen (omega arith)) (sym (line_prev s k) ∙ q);
          next = λ x xs p m q. outer_inside s.next k x xs (next_seen (omega arith) (omega arith)) (sym (line_next s k) ∙ q);
        }

    avg_samples : (k : ℕ) → k < s.lines → (i : ℕ) → i < (line_of s k).averages → Sample ((line_of s k).avg i)
    avg_samples k hk i hi =
        rw (line_avg s k i) (at_place s.horizontal s.lines s.averages Sample s.avg f.avg_length fa k i hk (omega (arith, line_averages s k)))

    pub unmarked : squeeze_marked s ≡ false
    unfolding squeeze_marked
    unmarked =
        none (λ k. line_marked (line_of s k)) s.lines
        (λ k hk. line_unmarked (line_of s k) (line_low k) (line_high k) (avg_samples k hk) (line_in_lem k hk))

    pub averages_in : some_outside s.avg ≡ false
    averages_in =
        all_places s.horizontal s.lines s.averages s.avg f.avg_length
        (λ k i hk hi.
        rw (line_avg s k i) at (avg_inside (line_of s k) (line_low k) (line_high k) (avg_samples k hk) (line_in_lem k hk) i (omega (arith, line_averages s k))))

  -- the mark by the slices
  pub marked_by_samples : Samples s.avg → squeeze_marked s ≡ (some_outside s.res || (some_outside (uncut s) || outers_outside s))
  marked_by_samples fa =
      same (squeeze_marked s) (some_outside s.res || (some_outside (uncut s) || outers_outside s))
      (λ e. let a = all_in e in both_false _ _ a.res (both_false _ _ a.out a.outers))
      (λ e.
      let r = right_false (some_outside s.res) (some_outside (uncut s) || outers_outside s) e in
      unmarked fa
      (record {
        res = left_false (some_outside s.res) (some_outside (uncut s) || outers_outside s) e;
        out = left_false (some_outside (uncut s)) (outers_outside s) r;
        outers = right_false (some_outside (uncut s)) (outers_outside s) r;
      }))

  -- "Inside" is the domain on which standard and Rust are equalled, of all that is read and made
  pub marked_domain : Samples s.avg → outers_outside s ≡ false
      → (squeeze_marked s ≡ false → AllInDomain s.avg × AllInDomain s.res × AllInDomain (uncut s))
      × (AllInDomain s.avg → AllInDomain s.res → AllInDomain (uncut s) → squeeze_marked s ≡ false)
  marked_domain fa o = (
    λ e.
        let a = all_in e in
        (in_domain s.avg (averages_in fa a), in_domain s.res a.res, in_domain (uncut s) a.out),
    λ da dr du. unmarked fa (record { res = not_outside s.res dr; out = not_outside (uncut s) du; outers = o }),
  )
    where
      in_domain : (xs : List ℤ) → some_outside xs ≡ false → AllInDomain xs
      in_domain xs e i h = inside_domain (get_or xs i (pos 0)) (inside xs e i h)

      not_outside : (xs : List ℤ) → AllInDomain xs → some_outside xs ≡ false
      not_outside xs d = none_outside xs (λ i h. domain_inside (get_or xs i (pos 0)) (d i h))
