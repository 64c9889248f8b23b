-- Line k of a tile is a stretch of line start + k of the uncut squeeze (crate line), if the tile before left its part of the output: the
-- averages and residuals are those from pair `from t` on, the next average at the tile's end is the next tile's first, and the output before
-- is the last that the tile before wrote. So the tile's call leaves its part of the uncut squeeze's output. Assumes nothing.
use mathlib.Core.Path.{◌≡◌, sym, ap, ◌∙◌}
use mathlib.Core.Bool.{true, false}
use mathlib.Core.List.{List, [], ◌∷◌}
use mathlib.Core.Logic.{◌⊎◌, inl, inr}
use Prim.Native.Nat.{ℕ, zero, suc, ◌+◌, ◌-◌, ◌*◌, ◌<◌, ◌≤◌}
use native.Mathlib.Omega.{arith}
use borrow.Author.Tests.{eq-eqb, ne_eqb}
use lib.IntN.{ℤ}
use lib.ListN.{length}
use Rattle.line.specs.Line.{Line, next_average, before, sample}
use Rattle.line.specs.Marks.{squeeze_marked}
use Rattle.line.specs.Uncut.{Squeeze, squeeze, Fitting, size, outer, line_of, output_at, uncut}
use Rattle.cuts.specs.Cut.{Strip, StripFits, is_last, tile_averages, tile_residuals, tile_size, part, line_across, tile_avg, tile_res, tile_out, tile_next, tile_prev, tile_call}
use Rattle.tile.specs.Call.{answer, after, call_mark}
use Rattle.line.proofs.Places.{entries_cong}
use Rattle.std.proofs.lemmas.Bool.{cases_lt}
use Rattle.line.proofs.Lines.{Fits, Stretch, stretch_sample, sample_second, before_next, before_first, next_inside, next_last}
use Rattle.line.proofs.Outputs.{outer_at, outer_part, outer_length, uncut_at, line_averages, line_residuals, line_avg, line_res, line_next, line_prev}
use Rattle.cuts.proofs.Parts.{part_length, part_at, across_length, across_at}
use Rattle.tile.proofs.Accepted.{Arguments, accepted, accepted_after, accepted_mark}

-- ---- the next average of two lines: inside both, at the end of both, or given by an outer line
next_both : (l u : Line) (i j : ℕ) → i + 1 < u.averages → j + 1 < l.averages → u.avg (i + 1) ≡ l.avg (j + 1) → next_average u i ≡ next_average l j
next_both l u i j hu hl e = next_inside u i hu ∙ e ∙ sym (next_inside l j hl)

next_neither : (l u : Line) (i j : ℕ) → u.averages ≤ i + 1 → l.averages ≤ j + 1 → u.next ≡ l.next → u.avg i ≡ l.avg j
    → next_average u i ≡ next_average l j
next_neither l u i j hu hl en ea = next_last u i hu ∙ rw (en, ea) (sym (next_last l j hl))

next_given : (l u : Line) (i j : ℕ) (x : ℤ) → u.averages ≤ i + 1 → j + 1 < l.averages → u.next ≡ x ∷ [] → x ≡ l.avg (j + 1)
    → next_average u i ≡ next_average l j
next_given l u i j x hu hl en ex = next_last u i hu ∙ rw en (ex ∙ sym (next_inside l j hl))

-- ---- the output before the first pair of two lines: the same, or given by an outer line
before_both : (l u : Line) (j : ℕ) → j ≡ 0 → u.prev ≡ l.prev → u.avg 0 ≡ l.avg 0 → before u 0 ≡ before l j
before_both l u j e ep ea = before_first u ∙ rw (ep, ea, e) (sym (before_first l))

before_given : (l u : Line) (j : ℕ) → u.prev ≡ before l j ∷ [] → before u 0 ≡ before l j
before_given l u j e = before_first u ∙ rw e

module _ (s : Squeeze) (fs : Fitting s) (p : Strip) (fp : StripFits s p) where
  -- ---- a tile's sizes
  pub record Shape (t : ℕ) (a r : ℕ) : Type 0 where
    pub some : 0 < a
    pub low : r ≤ a
    pub high : a ≤ r + 1
    pub avgs : p.from t + a ≤ s.averages
    pub ress : p.from t + r ≤ s.residuals

  -- the last tile, or one before it, with its sizes
  pub data Which (t : ℕ) : Type 0 where
    ends : t + 1 ≡ p.tiles → is_last p t ≡ true → p.from t + tile_averages s p t ≡ s.averages → p.from t + tile_residuals s p t ≡ s.residuals → Which t
    goes_on : t + 1 < p.tiles → is_last p t ≡ false → p.from t + tile_averages s p t ≡ p.from (t + 1) → p.from t + tile_residuals s p t ≡ p.from (t + 1) → Which t

  pub which : (t : ℕ) → t < p.tiles → Which t
  which t h = by_order (cases_lt (t + 1) p.tiles)
    where
      by_order : (t + 1 < p.tiles) ⊎ (p.tiles ≤ t + 1) → Which t
      by_order (inl l) =
          let f = ne_eqb (t + 1) p.tiles (λ e. omega arith) in
          let g = fp.rises t l in
          goes_on l f (rw f (omega arith)) (rw f (omega arith))
      by_order (inr l) =
          let e : t + 1 ≡ p.tiles = omega arith in
          let f = eq-eqb (t + 1) p.tiles e in
          let g = fp.ends t h in
          let k = fs.high in
          ends e f (rw f (omega arith)) (rw f (omega arith))

  pub shape : (t : ℕ) → t < p.tiles → Shape t (tile_averages s p t) (tile_residuals s p t)
  shape t h = by (which t h)
    where
      by : Which t → Shape t (tile_averages s p t) (tile_residuals s p t)
      by (ends e f ea er) =
          let g = fp.ends t h in
          let l = fs.low in
          let k = fs.high in
          record { some = omega arith; low = omega arith; high = omega arith; avgs = omega arith; ress = omega arith }
      by (goes_on l f ea er) =
          let g = fp.rises t l in
          let n = fp.ends (t + 1) l in
          let k = fs.high in
          record { some = omega arith; low = omega arith; high = omega arith; avgs = omega arith; ress = omega arith }

  -- ---- the squeeze of a tile, with the strip's slices as they then are
  abbrev pub tile_squeeze : (ℕ → List ℤ) → ℕ → Squeeze
  tile_squeeze slices t =
      squeeze s.horizontal p.lines (tile_averages s p t) (tile_residuals s p t) (tile_avg s p t) (tile_res s p t) (tile_next s p t) (tile_prev s p slices t)

  -- the tile before has left its part
  abbrev pub Left : (ℕ → List ℤ) → ℕ → Type 0
  Left slices zero = Unit {0}
  Left slices (suc t) = slices t ≡ tile_out s p t

  module _ (k : ℕ) (hk : k < p.lines) where
    pub inside : p.start + k < s.lines
    inside = omega (arith, fp.inside)

    tile_avg_lem : (slices : ℕ → List ℤ) (t i : ℕ) → i < tile_averages s p t
        → (line_of (tile_squeeze slices t) k).avg i ≡ (line_of s (p.start + k)).avg (p.from t + i)
    tile_avg_lem slices t i hi =
        line_avg (tile_squeeze slices t) k i
        ∙ part_at s.horizontal s.lines s.averages p.start p.lines (p.from t) (tile_averages s p t) s.avg k i hk hi
        ∙ sym (line_avg s (p.start + k) (p.from t + i))

    tile_res_lem : (slices : ℕ → List ℤ) (t i : ℕ) → i < tile_residuals s p t
        → (line_of (tile_squeeze slices t) k).res i ≡ (line_of s (p.start + k)).res (p.from t + i)
    tile_res_lem slices t i hi =
        line_res (tile_squeeze slices t) k i
        ∙ part_at s.horizontal s.lines s.residuals p.start p.lines (p.from t) (tile_residuals s p t) s.res k i hk hi
        ∙ sym (line_res s (p.start + k) (p.from t + i))

    -- the next tile's first average is the whole's at that place
    next_first_lem : (t : ℕ) → t + 1 < p.tiles → is_last p t ≡ false
        → outer (tile_next s p t) k ≡ (line_of s (p.start + k)).avg (p.from (t + 1)) ∷ []
    unfolding tile_next
    next_first_lem t l f =
        let a = tile_averages s p (t + 1) in
        let xs = tile_avg s p (t + 1) in
        let n = across_length s.horizontal p.lines a 0 p.lines 0 xs in
        let z : 0 + k ≡ k = omega arith in
        let y : p.from (t + 1) + 0 ≡ p.from (t + 1) = omega arith in
        rw f
        (outer_at (line_across s.horizontal p.lines a 0 p.lines 0 xs) k (omega arith)
        ∙ ap (λ (v : ℤ). v ∷ [])
        (across_at s.horizontal p.lines a 0 p.lines 0 xs k hk
        ∙ rw z
        (part_at s.horizontal s.lines s.averages p.start p.lines (p.from (t + 1)) a s.avg k 0 hk (shape (t + 1) l).some
        ∙ rw y (sym (line_avg s (p.start + k) (p.from (t + 1)))))))

    next_part : (t : ℕ) → is_last p t ≡ true → outer (tile_next s p t) k ≡ outer s.next (p.start + k)
    unfolding tile_next
    next_part t f = rw f (outer_part s.next p.start p.lines k hk)

    tile_next_lem : (slices : ℕ → List ℤ) (t i : ℕ) → t < p.tiles → i < tile_residuals s p t
        → next_average (line_of (tile_squeeze slices t) k) i ≡ next_average (line_of s (p.start + k)) (p.from t + i)
    tile_next_lem slices t i ht hi =
        by (cases_lt (i + 1) (tile_averages s p t)) (which t ht) (line_averages (tile_squeeze slices t) k) (line_averages s (p.start + k))
      where
        by : (i + 1 < tile_averages s p t) ⊎ (tile_averages s p t ≤ i + 1) → Which t
            → (line_of (tile_squeeze slices t) k).averages ≡ tile_averages s p t → (line_of s (p.start + k)).averages ≡ s.averages
            → next_average (line_of (tile_squeeze slices t) k) i ≡ next_average (line_of s (p.start + k)) (p.from t + i)
        by (inl h) w na nl =
            let g = (shape t ht).avgs in
            let e : p.from t + (i + 1) ≡ p.from t + i + 1 = omega arith in
            next_both (line_of s (p.start + k)) (line_of (tile_squeeze slices t) k) i (p.from t + i) (omega arith) (omega arith)
            (tile_avg_lem slices t (i + 1) h ∙ ap (line_of s (p.start + k)).avg e)
        by (inr h) (ends e f ea er) na nl =
            let m = (shape t ht).low in
            next_neither (line_of s (p.start + k)) (line_of (tile_squeeze slices t) k) i (p.from t + i) (omega arith) (omega arith)
            (line_next (tile_squeeze slices t) k ∙ next_part t f ∙ sym (line_next s (p.start + k)))
            (tile_avg_lem slices t i (omega arith))
        by (inr h) (goes_on g f ea er) na nl =
            let m = (shape t ht).low in
            let n = fp.ends (t + 1) g in
            let e : p.from (t + 1) ≡ p.from t + i + 1 = omega arith in
            next_given (line_of s (p.start + k)) (line_of (tile_squeeze slices t) k) i (p.from t + i) ((line_of s (p.start + k)).avg (p.from (t + 1)))
            (omega arith) (omega arith)
            (line_next (tile_squeeze slices t) k ∙ next_first_lem t g f)
            (ap (line_of s (p.start + k)).avg e)

    -- the last output of the tile before is the whole's before the pair where this tile begins
    prev_last : (slices : ℕ → List ℤ) (t : ℕ) → t + 1 < p.tiles → slices t ≡ tile_out s p t
        → outer (tile_prev s p slices (suc t)) k ≡ before (line_of s (p.start + k)) (p.from (t + 1)) ∷ []
    unfolding tile_prev
    prev_last slices t g e = by (which t (omega arith))
      where
        by : Which t
            → outer (line_across s.horizontal p.lines (tile_size s p t) 0 p.lines (tile_size s p t - 1) (slices t)) k
            ≡ before (line_of s (p.start + k)) (p.from (t + 1)) ∷ []
        by (ends e' f ea er) = absurd (omega arith)
        by (goes_on g' f ea er) =
            let n = tile_size s p t in
            let r = fp.rises t g in
            let m = fp.ends (t + 1) g in
            let h = fs.high in
            let len = across_length s.horizontal p.lines n 0 p.lines (n - 1) (slices t) in
            let z : 0 + k ≡ k = omega arith in
            let i = p.from (t + 1) - 1 in
            let j : p.from t + p.from t + (n - 1) ≡ i + i + 1 = omega arith in
            let q : suc i ≡ p.from (t + 1) = omega arith in
            let lr = line_residuals s (p.start + k) in
            outer_at (line_across s.horizontal p.lines n 0 p.lines (n - 1) (slices t)) k (omega arith)
            ∙ ap (λ (v : ℤ). v ∷ [])
            (across_at s.horizontal p.lines n 0 p.lines (n - 1) (slices t) k hk
            ∙ rw (z, e)
            (part_at s.horizontal s.lines (size s) p.start p.lines (p.from t + p.from t) n (uncut s) k (n - 1) hk (omega arith)
            ∙ uncut_at s (p.start + k) (p.from t + p.from t + (n - 1)) inside (omega arith)
            ∙ rw j
            (sample_second (line_of s (p.start + k)) i (omega arith)
            ∙ sym (before_next (line_of s (p.start + k)) i)
            ∙ ap (before (line_of s (p.start + k))) q)))

    prev_part : (slices : ℕ → List ℤ) → outer (tile_prev s p slices 0) k ≡ outer s.prev (p.start + k)
    unfolding tile_prev
    prev_part slices = outer_part s.prev p.start p.lines k hk

    tile_before : (slices : ℕ → List ℤ) (t : ℕ) → t < p.tiles → Left slices t
        → before (line_of (tile_squeeze slices t) k) 0 ≡ before (line_of s (p.start + k)) (p.from t)
    tile_before slices zero ht w =
        let z : p.from 0 + 0 ≡ 0 = omega (arith, fp.begins) in
        before_both (line_of s (p.start + k)) (line_of (tile_squeeze slices 0) k) (p.from 0) fp.begins
        (line_prev (tile_squeeze slices 0) k ∙ prev_part slices ∙ sym (line_prev s (p.start + k)))
        (tile_avg_lem slices 0 0 (shape 0 ht).some ∙ ap (line_of s (p.start + k)).avg z)
    tile_before slices (suc t) ht w =
        let e : t + 1 ≡ suc t = omega arith in
        before_given (line_of s (p.start + k)) (line_of (tile_squeeze slices (suc t)) k) (p.from (suc t))
        (line_prev (tile_squeeze slices (suc t)) k
        ∙ prev_last slices t (omega arith) w
        ∙ ap (λ (i : ℕ). before (line_of s (p.start + k)) (p.from i) ∷ []) e)

    pub tile_stretch : (slices : ℕ → List ℤ) (t : ℕ) → t < p.tiles → Left slices t
        → Stretch (line_of s (p.start + k)) (line_of (tile_squeeze slices t) k) (p.from t)
    tile_stretch slices t ht w =
        let na = line_averages (tile_squeeze slices t) k in
        let nr = line_residuals (tile_squeeze slices t) k in
        let lr = line_residuals s (p.start + k) in
        let sh = shape t ht in
        record {
          room = omega (arith, sh.ress);
          avg_same = λ i h. tile_avg_lem slices t i (omega arith);
          res_same = λ i h. tile_res_lem slices t i (omega arith);
          next_same = λ i h. tile_next_lem slices t i ht (omega arith);
          before_same = tile_before slices t ht w;
          tail_last = λ h. last_only_lem slices t ht (omega arith) nr lr;
        }
      where
        last_only_lem : (slices : ℕ → List ℤ) (t : ℕ) → t < p.tiles → tile_residuals s p t < tile_averages s p t
            → (line_of (tile_squeeze slices t) k).residuals ≡ tile_residuals s p t → (line_of s (p.start + k)).residuals ≡ s.residuals
            → p.from t + (line_of (tile_squeeze slices t) k).residuals ≡ (line_of s (p.start + k)).residuals
        last_only_lem slices t ht h nr lr = by (which t ht)
          where
            by : Which t → p.from t + (line_of (tile_squeeze slices t) k).residuals ≡ (line_of s (p.start + k)).residuals
            by (ends e f ea er) = omega arith
            by (goes_on g f ea er) = absurd (omega arith)

    pub tile_fits : (slices : ℕ → List ℤ) (t : ℕ) → t < p.tiles → Fits (line_of (tile_squeeze slices t) k)
    tile_fits slices t ht =
        let na = line_averages (tile_squeeze slices t) k in
        let nr = line_residuals (tile_squeeze slices t) k in
        let sh = shape t ht in
        record { some = omega (arith, sh.some); low = omega (arith, sh.low); high = omega (arith, sh.high) }

    pub tile_sample : (slices : ℕ → List ℤ) (t j : ℕ) → t < p.tiles → Left slices t → j < tile_size s p t
        → sample (line_of (tile_squeeze slices t) k) j ≡ sample (line_of s (p.start + k)) (p.from t + p.from t + j)
    tile_sample slices t j ht w hj =
        let na = line_averages (tile_squeeze slices t) k in
        let nr = line_residuals (tile_squeeze slices t) k in
        stretch_sample (line_of s (p.start + k)) (line_of (tile_squeeze slices t) k) (p.from t) (tile_fits slices t ht) (tile_stretch slices t ht w) j
        (omega arith)

  -- ---- the tile's call
  pub tile_uncut : (slices : ℕ → List ℤ) (t : ℕ) → t < p.tiles → Left slices t → uncut (tile_squeeze slices t) ≡ tile_out s p t
  unfolding uncut output_at part
  tile_uncut slices t ht w =
      let sh = shape t ht in
      entries_cong s.horizontal p.lines (tile_size s p t) _ _
      (λ k i hk hi.
      tile_sample k hk slices t i ht w hi
      ∙ sym (uncut_at s (p.start + k) (p.from t + p.from t + i) (omega (arith, fp.inside)) (omega (arith, sh.avgs, sh.ress))))

  next_length : (t : ℕ) → t < p.tiles → (length (tile_next s p t) ≡ 0) ⊎ (length (tile_next s p t) ≡ p.lines)
  unfolding tile_next
  next_length t ht = by (which t ht)
    where
      by : Which t → (length (tile_next s p t) ≡ 0) ⊎ (length (tile_next s p t) ≡ p.lines)
      by (ends e f ea er) = rw f (outer_length p.start p.lines s.lines s.next fp.inside fs.next_length)
      by (goes_on g f ea er) =
          rw f (inr (across_length s.horizontal p.lines (tile_averages s p (t + 1)) 0 p.lines 0 (tile_avg s p (t + 1))))

  prev_length : (slices : ℕ → List ℤ) (t : ℕ) → (length (tile_prev s p slices t) ≡ 0) ⊎ (length (tile_prev s p slices t) ≡ p.lines)
  unfolding tile_prev
  prev_length slices zero = outer_length p.start p.lines s.lines s.prev fp.inside fs.prev_length
  prev_length slices (suc t) =
      inr (across_length s.horizontal p.lines (tile_size s p t) 0 p.lines (tile_size s p t - 1) (slices t))

  -- the tile's call
  module _ (slices : ℕ → List ℤ) (t : ℕ) (ht : t < p.tiles) (n : length (slices t) ≡ p.lines * tile_size s p t) where
    arguments : Arguments p.lines (tile_averages s p t) (tile_residuals s p t)
        (tile_avg s p t) (tile_res s p t) (tile_next s p t) (tile_prev s p slices t) (slices t)
    arguments =
        let h = s.horizontal in
        let a = tile_averages s p t in
        let r = tile_residuals s p t in
        let sh = shape t ht in
        record {
          low = sh.low;
          high = sh.high;
          across = fp.side_across;
          along = fp.side_along t ht;
          room = fp.area t ht;
          avg_length = part_length h s.lines s.averages p.start p.lines (p.from t) a s.avg;
          res_length = part_length h s.lines s.residuals p.start p.lines (p.from t) r s.res;
          out_length = n;
          next_length = next_length t ht;
          prev_length = prev_length slices t;
        }

    -- is accepted, leaves its part of the uncut squeeze's output, and tells the mark of the tile's squeeze
    pub tile_accepted : answer (tile_call s p slices t) ≡ 0
    unfolding tile_call
    tile_accepted = accepted s.horizontal p.lines (tile_averages s p t) (tile_residuals s p t) _ _ _ _ _ arguments

    pub tile_after : Left slices t → after (tile_call s p slices t) ≡ tile_out s p t
    unfolding tile_call
    tile_after w =
        accepted_after s.horizontal p.lines (tile_averages s p t) (tile_residuals s p t) _ _ _ _ _ arguments ∙ tile_uncut slices t ht w

    pub tile_mark : call_mark (tile_call s p slices t) ≡ squeeze_marked (tile_squeeze slices t)
    unfolding tile_call
    tile_mark = accepted_mark s.horizontal p.lines (tile_averages s p t) (tile_residuals s p t) _ _ _ _ _ arguments
