-- Tiles together say of the plain range what the uncut squeeze says (specs/Claim.antt, `marked`). Line k of a tile is a stretch of line start + k of
-- the whole: pair i of tile t is pair `from t + i` of the whole, with the same six samples, and each pair of the whole lies in one tile; the average
-- that is copied is the last tile's. So the whole is unmarked exactly if each tile is. Assumes nothing.
use mathlib.Core.Path.{◌≡◌, refl, sym, ap, ◌∙◌}
use mathlib.Core.Bool.{Bool, false, ◌&&◌}
use mathlib.Core.List.{List}
use mathlib.Core.Logic.{◌⊎◌, inl, inr}
use Prim.Native.Nat.{ℕ, zero, suc, ◌+◌, ◌-◌, ◌<◌, ◌≤◌}
use native.Mathlib.Omega.{arith}
use borrow.Author.Tests.{lt-ltb, le-ltb}
use lib.Dec.{ltb}
use lib.IntN.{ℤ}
use Rattle.std.proofs.lemmas.Bool.{cases_lt}
use Rattle.range.specs.Range.{outside, some}
use Rattle.range.proofs.Some.{left_false, right_false, both_false, none, each}
use Rattle.line.specs.Line.{Line}
use Rattle.line.specs.Uncut.{Squeeze, Fitting, line_of}
use Rattle.line.specs.Marks.{pair_at_marked, copied_marked, line_marked, squeeze_marked}
use Rattle.line.proofs.Lines.{Fits, Stretch, stretch_before}
use Rattle.line.proofs.Outputs.{line_averages, line_residuals}
use Rattle.cuts.specs.Cut.{Strip, StripFits, Cut, tile_residuals, tile_out, tile_prev}
use Rattle.cuts.proofs.Stretches.{Which, ends, goes_on, which, shape, tile_squeeze, Left, inside, tile_stretch, tile_fits}
use Rattle.cuts.proofs.Consecutive.{Consecutive, At, exactly_one}
use Rattle.cuts.proofs.Tiled.{start_of, lines_of, strips_follow}

-- ---- a line without a mark
record Unmarked (l : Line) : Type 0 where
  pairs : (i : ℕ) → i < l.residuals → pair_at_marked l i ≡ false
  copied : l.residuals < l.averages → outside (l.avg l.residuals) ≡ false

unmarked : (l : Line) → line_marked l ≡ false → Unmarked l
unfolding line_marked copied_marked
unmarked l e =
    let c = right_false (some (pair_at_marked l) l.residuals) (ltb l.residuals l.averages && outside (l.avg l.residuals)) e in
    record {
      pairs = each (pair_at_marked l) l.residuals (left_false (some (pair_at_marked l) l.residuals) (ltb l.residuals l.averages && outside (l.avg l.residuals)) e);
      copied = λ h. rw (lt-ltb l.residuals l.averages h) at c;
    }

not_marked : (l : Line) → Unmarked l → line_marked l ≡ false
unfolding line_marked copied_marked
not_marked l u = both_false _ _ (none (pair_at_marked l) l.residuals u.pairs) (by (cases_lt l.residuals l.averages))
  where
    by : (l.residuals < l.averages) ⊎ (l.averages ≤ l.residuals) → (ltb l.residuals l.averages && outside (l.avg l.residuals)) ≡ false
    by (inl h) = rw (lt-ltb l.residuals l.averages h) (u.copied h)
    by (inr h) = rw (le-ltb l.residuals l.averages h) refl

-- a stretch has the whole line's pairs, and the average that it copies is the whole line's
module _ (l t : Line) (from : ℕ) (f : Fits t) (st : Stretch l t from) where
  same_pair : (i : ℕ) → i < t.residuals → pair_at_marked t i ≡ pair_at_marked l (from + i)
  unfolding pair_at_marked
  same_pair i h =
      let b : i < t.averages = omega (arith, f.low) in
      rw (st.avg_same i b, st.res_same i h, st.next_same i h, stretch_before l t from f st i (omega arith)) refl

  same_copied : t.residuals < t.averages → t.avg t.residuals ≡ l.avg l.residuals
  same_copied h = st.avg_same t.residuals h ∙ ap l.avg (st.tail_last h)

module _ (s : Squeeze) (fs : Fitting s) (p : Strip) (fp : StripFits s p) where
  -- the squeeze of a tile, where the tile before has left its part
  abbrev pub of_tile : ℕ → Squeeze
  of_tile t = tile_squeeze s fs p fp (tile_out s p) t

  pub same_squeeze : (slices : ℕ → List ℤ) (t : ℕ) → Left s fs p fp slices t → tile_squeeze s fs p fp slices t ≡ of_tile t
  unfolding tile_prev
  same_squeeze slices zero w = refl
  same_squeeze slices (suc t) w = rw w refl

  has_left : (t : ℕ) → Left s fs p fp (tile_out s p) t
  has_left zero = tt
  has_left (suc t) = refl

  -- each pair lies in one tile
  pairs_follow : Consecutive p.from (tile_residuals s p) p.tiles s.residuals
  pairs_follow =
      record {
        some = λ _. fp.some;
        first = λ _. fp.begins;
        follows = λ t h. next t h (which s fs p fp t (omega arith));
        last = λ t e. end t e (which s fs p fp t (omega arith));
      }
    where
      next : (t : ℕ) → t + 1 < p.tiles → Which s fs p fp t → p.from (t + 1) ≡ p.from t + tile_residuals s p t
      next t h (ends e f ea er) = absurd (omega arith)
      next t h (goes_on g f ea er) = sym er

      end : (t : ℕ) → t + 1 ≡ p.tiles → Which s fs p fp t → p.from t + tile_residuals s p t ≡ s.residuals
      end t e (ends e' f ea er) = er
      end t e (goes_on g f ea er) = absurd (omega arith)

  module _ (k : ℕ) (hk : k < p.lines) where
    abbrev whole : Line
    whole = line_of s (p.start + k)

    abbrev part : ℕ → Line
    part t = line_of (of_tile t) k

    stretch : (t : ℕ) → t < p.tiles → Stretch whole (part t) (p.from t)
    stretch t ht = tile_stretch s fs p fp k hk (tile_out s p) t ht (has_left t)

    pair_of : (t i : ℕ) → t < p.tiles → i < (part t).residuals → pair_at_marked (part t) i ≡ pair_at_marked whole (p.from t + i)
    pair_of t i ht hi =
        same_pair whole (part t) (p.from t) (tile_fits s fs p fp k hk (tile_out s p) t ht) (stretch t ht) i hi

    copied_of : (t : ℕ) → t < p.tiles → (part t).residuals < (part t).averages → (part t).avg (part t).residuals ≡ whole.avg whole.residuals
    copied_of t ht h =
        same_copied whole (part t) (p.from t) (tile_fits s fs p fp k hk (tile_out s p) t ht) (stretch t ht) h

    part_line : Unmarked whole → (t : ℕ) → t < p.tiles → Unmarked (part t)
    part_line u t ht =
        let na = line_averages (of_tile t) k in
        let la = line_averages s (p.start + k) in
        let sh = shape s fs p fp t ht in
        let st = stretch t ht in
        record {
          pairs = λ i h. pair_of t i ht h ∙ u.pairs (p.from t + i) (omega (arith, st.room));
          copied = λ h. rw (copied_of t ht h) (u.copied (omega (arith, st.tail_last h, sh.avgs)));
        }

    whole_line : ((t : ℕ) → t < p.tiles → Unmarked (part t)) → Unmarked whole
    whole_line u =
        let lr = line_residuals s (p.start + k) in
        let l = fp.some in
        record {
          pairs = λ i h.
              let a = exactly_one p.from (tile_residuals s p) p.tiles s.residuals pairs_follow i (omega arith) in
              at_pair i a.index a.at;
          copied = λ h. at_end (p.tiles - 1) (omega arith) h (which s fs p fp (p.tiles - 1) (omega arith));
        }
      where
        at_pair : (i t : ℕ) → At p.from (tile_residuals s p) p.tiles i t → pair_at_marked whole i ≡ false
        at_pair i t a =
            let nr = line_residuals (of_tile t) k in
            let j = i - p.from t in
            let e : p.from t + j ≡ i = omega (arith, a.from) in
            let h : j < (part t).residuals = omega (arith, a.from, a.below) in
            rw e at (sym (pair_of t j a.inside h) ∙ (u t a.inside).pairs j h)

        at_end : (t : ℕ) → t + 1 ≡ p.tiles → whole.residuals < whole.averages → Which s fs p fp t → outside (whole.avg whole.residuals) ≡ false
        at_end t e h (goes_on g f ea er) = absurd (omega arith)
        at_end t e h (ends e' f ea er) =
            let na = line_averages (of_tile t) k in
            let nr = line_residuals (of_tile t) k in
            let la = line_averages s (p.start + k) in
            let lr = line_residuals s (p.start + k) in
            let ht : t < p.tiles = omega arith in
            let m : (part t).residuals < (part t).averages = omega arith in
            rw (copied_of t ht m) at ((u t ht).copied m)

  part_unmarked : squeeze_marked s ≡ false → (t : ℕ) → t < p.tiles → squeeze_marked (of_tile t) ≡ false
  unfolding squeeze_marked
  part_unmarked e t ht =
      none (λ k. line_marked (line_of (of_tile t) k)) p.lines
      (λ k hk.
      not_marked (part k hk t)
      (part_line k hk (unmarked (whole k hk) (each (λ k. line_marked (line_of s k)) s.lines e (p.start + k) (inside s fs p fp k hk))) t ht))

  line_unmarked : ((t : ℕ) → t < p.tiles → squeeze_marked (of_tile t) ≡ false) → (k : ℕ) → k < p.lines → line_marked (line_of s (p.start + k)) ≡ false
  unfolding squeeze_marked
  line_unmarked h k hk =
      not_marked (whole k hk)
      (whole_line k hk (λ t ht. unmarked (part k hk t) (each (λ k. line_marked (line_of (of_tile t) k)) p.lines (h t ht) k hk)))

module _ (s : Squeeze) (fs : Fitting s) (cut : Cut s) where
  -- the mark of tile t of strip k
  abbrev pub tile_marked : (k : ℕ) → k < cut.strips → ℕ → Bool
  tile_marked k hk t = squeeze_marked (of_tile s fs (cut.strip k) (cut.fits k hk) t)

  abbrev pub NoneMarked : Type 0
  NoneMarked = (k : ℕ) (hk : k < cut.strips) (t : ℕ) → t < (cut.strip k).tiles → tile_marked k hk t ≡ false

  pub tiles_unmarked : squeeze_marked s ≡ false → NoneMarked
  tiles_unmarked e k hk = part_unmarked s fs (cut.strip k) (cut.fits k hk) e

  pub whole_unmarked : NoneMarked → squeeze_marked s ≡ false
  unfolding squeeze_marked
  whole_unmarked h =
      none (λ k. line_marked (line_of s k)) s.lines
      (λ x hx.
      let a = exactly_one (start_of s fs cut) (lines_of s fs cut) cut.strips s.lines (strips_follow s fs cut) x hx in
      at_line x a.index a.at)
    where
      at_line : (x n : ℕ) → At (start_of s fs cut) (lines_of s fs cut) cut.strips x n → line_marked (line_of s x) ≡ false
      at_line x n a =
          let p = cut.strip n in
          let e : p.start + (x - p.start) ≡ x = omega (arith, a.from) in
          rw e at (line_unmarked s fs p (cut.fits n a.inside) (h n a.inside) (x - p.start) (omega (arith, a.from, a.below)))
