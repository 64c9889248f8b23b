-- One line's mark (specs/Marks.antt) by its samples: a line is unmarked exactly if its residuals, its output and what its pairs read of the outer lines
-- lie inside the plain range. An average needs no look of its own: it lies between its two samples where these lie inside, and a copied one is in the
-- output. Assumes nothing.
use mathlib.Core.Path.{◌≡◌, refl}
use mathlib.Core.Bool.{false, ◌&&◌}
use mathlib.Core.List.{List, [], ◌∷◌}
use mathlib.Core.Logic.{◌⊎◌, inl, inr}
use Prim.Native.Nat.{ℕ, zero, suc, ◌+◌, ◌-◌, ◌<◌, ◌≤◌}
use native.Mathlib.Omega.{arith}
use borrow.Author.Tests.{lt-ltb, le-ltb}
use lib.Dec.{ltb}
use lib.IntN.{ℤ}
use Rattle.std.proofs.lemmas.Bool.{cases_lt}
use Rattle.arith32.specs.Arith.{Sample}
use Rattle.range.specs.Range.{outside, some}
use Rattle.range.proofs.Some.{left_false, right_false, both_false, none, each, some_cong}
use Rattle.pair.specs.Pair.{first, second, average, residual}
use Rattle.pair.specs.Marks.{pair_marked, written_marked}
use Rattle.pair.proofs.Inverse.{bijection}
use Rattle.pair.proofs.Six.{SixInside, six, none_of_six}
use Rattle.standard.proofs.Average.{average_domain}
use Rattle.standard.proofs.Range.{inside_domain, domain_inside}
use Rattle.line.specs.Line.{Line, or_else, next_average, before, first_at, second_at, sample}
use Rattle.line.specs.Marks.{pair_at_marked, copied_marked, line_marked, written_at_marked, written_line_marked}
use Rattle.line.specs.Forward.{residual_count, next_at, prev_at, residual_at}
use Rattle.line.proofs.Alone.{squeezed_line, average_pair, next_is, before_is, pair_first, pair_second}
use Rattle.line.proofs.Lines.{Half, even, odd, half, sample_first, sample_second, sample_tail, before_next, before_first, next_inside, next_last}

-- ---- averages
-- an average lies inside where its two samples do
pub average_inside : (a r n p : ℤ) → Sample a → outside (first a r n p) ≡ false → outside (second a r n p) ≡ false → outside a ≡ false
average_inside a r n p f ex ey =
    let x = first a r n p in
    let y = second a r n p in
    let d = domain_inside (average x y) (average_domain x y (inside_domain x ex) (inside_domain y ey)) in
    rw ((bijection n p).average_back a r f) at d

-- ---- a line: what its pairs read and make, and what is copied
pub record LineInside (l : Line) : Type 0 where
  pub res : (i : ℕ) → i < l.residuals → outside (l.res i) ≡ false
  pub out : (j : ℕ) → j < l.averages + l.residuals → outside (sample l j) ≡ false
  pub prev : (x : ℤ) (xs : List ℤ) → 0 < l.residuals → l.prev ≡ x ∷ xs → outside x ≡ false
  pub next : (x : ℤ) (xs : List ℤ) → 0 < l.residuals → l.averages ≤ l.residuals → l.next ≡ x ∷ xs → outside x ≡ false

-- the sample of an outer line, or what stands in for it
chosen_inside : (xs : List ℤ) (z : ℤ) → ((x : ℤ) (ys : List ℤ) → xs ≡ x ∷ ys → outside x ≡ false) → outside z ≡ false → outside (or_else xs z) ≡ false
chosen_inside [] z h e = e
chosen_inside (x ∷ ys) z h e = h x ys refl

module _ (l : Line) (low : l.residuals ≤ l.averages) (high : l.averages ≤ l.residuals + 1) where
  -- ---- unmarked, so inside
  module _ (e : line_marked l ≡ false) where
    pair_six : (i : ℕ) → i < l.residuals → SixInside (l.avg i) (l.res i) (next_average l i) (before l i) (first_at l i) (second_at l i)
    unfolding line_marked pair_at_marked pair_marked
    pair_six i h =
        six (l.avg i) (l.res i) (next_average l i) (before l i) (first_at l i) (second_at l i)
        (each (pair_at_marked l) l.residuals (left_false (some (pair_at_marked l) l.residuals) (copied_marked l) e) i h)

    copied : l.residuals < l.averages → outside (l.avg l.residuals) ≡ false
    unfolding line_marked copied_marked
    copied h =
        let c = right_false (some (pair_at_marked l) l.residuals) (copied_marked l) e in
        rw (lt-ltb l.residuals l.averages h) at c

    out_inside : (j : ℕ) → j < l.averages + l.residuals → Half j → outside (sample l j) ≡ false
    out_inside j h (even i q) = by (cases_lt i l.residuals)
      where
        by : (i < l.residuals) ⊎ (l.residuals ≤ i) → outside (sample l j) ≡ false
        by (inl p) = rw (q, sample_first l i p) (pair_six i p).first
        by (inr p) =
            let t : i ≡ l.residuals = omega arith in
            let c = copied (omega arith) in
            rw (q, sample_tail l i p, t) c
    out_inside j h (odd i q) = let p : i < l.residuals = omega arith in rw (q, sample_second l i p) (pair_six i p).second

    pub line_inside : LineInside l
    line_inside =
        record {
          res = λ i h. (pair_six i h).res;
          out = λ j h. out_inside j h (half j);
          prev = λ x xs h q. let s = (pair_six 0 h).prev in rw (before_first l, q) at s;
          next = λ x xs h m q.
              let i = l.residuals - 1 in
              let s = (pair_six i (omega arith)).next in
              rw (next_last l i (omega arith), q) at s;
        }

  -- ---- inside, so unmarked
  module _ (f : (i : ℕ) → i < l.averages → Sample (l.avg i)) (s : LineInside l) where
    pub avg_inside : (i : ℕ) → i < l.averages → outside (l.avg i) ≡ false
    avg_inside i h = by (cases_lt i l.residuals)
      where
        by : (i < l.residuals) ⊎ (l.residuals ≤ i) → outside (l.avg i) ≡ false
        by (inl p) =
            average_inside (l.avg i) (l.res i) (next_average l i) (before l i) (f i h)
            (rw (sample_first l i p) at (s.out (i + i) (omega arith)))
            (rw (sample_second l i p) at (s.out (i + i + 1) (omega arith)))
        by (inr p) = rw (sample_tail l i p) at (s.out (i + i) (omega arith))

    next_inside_lem : (i : ℕ) → i < l.residuals → outside (next_average l i) ≡ false
    next_inside_lem i h = by (cases_lt (i + 1) l.averages)
      where
        by : (i + 1 < l.averages) ⊎ (l.averages ≤ i + 1) → outside (next_average l i) ≡ false
        by (inl p) = rw (next_inside l i p) (avg_inside (i + 1) p)
        by (inr p) =
            rw (next_last l i p)
            (chosen_inside l.next (l.avg i) (λ x ys q. s.next x ys (omega arith) (omega arith) q) (avg_inside i (omega arith)))

    before_inside : (i : ℕ) → i < l.residuals → outside (before l i) ≡ false
    before_inside zero h = rw (before_first l) (chosen_inside l.prev (l.avg 0) (λ x ys q. s.prev x ys h q) (avg_inside 0 (omega arith)))
    before_inside (suc i) h =
        rw (before_next l i) (rw (sample_second l i (omega arith)) at (s.out (i + i + 1) (omega arith)))

    pair_unmarked : (i : ℕ) → i < l.residuals → pair_at_marked l i ≡ false
    unfolding pair_at_marked pair_marked
    pair_unmarked i h =
        none_of_six (l.avg i) (l.res i) (next_average l i) (before l i) (first_at l i) (second_at l i)
        (record {
          avg = avg_inside i (omega arith);
          res = s.res i h;
          next = next_inside_lem i h;
          prev = before_inside i h;
          first = rw (sample_first l i h) at (s.out (i + i) (omega arith));
          second = rw (sample_second l i h) at (s.out (i + i + 1) (omega arith));
        })

    copied_unmarked : copied_marked l ≡ false
    unfolding copied_marked
    copied_unmarked = by (cases_lt l.residuals l.averages)
      where
        by : (l.residuals < l.averages) ⊎ (l.averages ≤ l.residuals) → (ltb l.residuals l.averages && outside (l.avg l.residuals)) ≡ false
        by (inl p) = rw (lt-ltb l.residuals l.averages p) (avg_inside l.residuals p)
        by (inr p) = rw (le-ltb l.residuals l.averages p) refl

    pub line_unmarked : line_marked l ≡ false
    unfolding line_marked
    line_unmarked = both_false (some (pair_at_marked l) l.residuals) (copied_marked l) (none (pair_at_marked l) l.residuals pair_unmarked) copied_unmarked

-- ---- forward: the writer's mark of a line is that of the line of its averages and residuals
module _ (x : ℕ → ℤ) (size : ℕ) (f : (i : ℕ) → i < size → Sample (x i)) where
  residual_same : (i : ℕ) → residual (x (i + i)) (x (i + i + 1)) (next_at x size i) (prev_at x size i) ≡ residual_at x size i
  unfolding residual_at
  residual_same i = refl

  written_at : (i : ℕ) → i < residual_count size → written_at_marked x size i ≡ pair_at_marked (squeezed_line x size) i
  unfolding written_at_marked pair_at_marked written_marked pair_marked
  written_at i h =
      let p : i + i + 1 < size = omega arith in
      rw (next_is x size f i, before_is x size f i (omega arith), pair_first x size f i p, pair_second x size f i p, residual_same i, ← average_pair x size i p)
      refl

  pub line_written : written_line_marked x size ≡ line_marked (squeezed_line x size)
  unfolding written_line_marked line_marked copied_marked
  line_written = rw (some_cong (written_at_marked x size) (pair_at_marked (squeezed_line x size)) (residual_count size) written_at) refl
