-- Each sample of the output lies in exactly one tile of a cut (specs/Claim.antt): its line in one strip, its position in one of that strip's tiles.
-- Where each tile's slice holds its part of the output, each sample then stands in its place. Assumes nothing.
use mathlib.Core.Path.{◌≡◌, ◌∙◌}
use Prim.Native.Nat.{ℕ, ◌+◌, ◌-◌, ◌<◌, ◌≤◌}
use native.Mathlib.Omega.{arith}
use lib.IntN.{pos}
use lib.ListN.{get_or}
use Rattle.line.specs.Uncut.{Squeeze, Fitting, place, size, uncut}
use Rattle.cuts.specs.Cut.{Strip, StripFits, Cut, tile_size, tile_start, tile_out, State}
use Rattle.cuts.specs.Claim.{AllHold, LiesIn, place_in, InOneTile, EachInItsPlace}
use Rattle.cuts.proofs.Parts.{part_at}
use Rattle.cuts.proofs.Stretches.{Which, ends, goes_on, which}
use Rattle.cuts.proofs.Consecutive.{Consecutive, At, exactly_one}

module _ (s : Squeeze) (fs : Fitting s) where
  tiles_follow : (p : Strip) → StripFits s p → Consecutive (tile_start p) (tile_size s p) p.tiles (size s)
  tiles_follow p fp =
      record {
        some = λ _. fp.some;
        first = λ _. omega (arith, fp.begins);
        follows = λ t h. next t h (which s fs p fp t (omega arith));
        last = λ t e. end t e (which s fs p fp t (omega arith));
      }
    where
      next : (t : ℕ) → t + 1 < p.tiles → Which s fs p fp t → tile_start p (t + 1) ≡ tile_start p t + tile_size s p t
      next t h (ends e f ea er) = absurd (omega arith)
      next t h (goes_on g f ea er) = omega arith

      end : (t : ℕ) → t + 1 ≡ p.tiles → Which s fs p fp t → tile_start p t + tile_size s p t ≡ size s
      end t e (ends e' f ea er) = omega arith
      end t e (goes_on g f ea er) = absurd (omega arith)

  -- where line k and position i lie in a strip's tile
  lies_in : (p : Strip) (t k i : ℕ) → p.start ≤ k → k < p.start + p.lines → At (tile_start p) (tile_size s p) p.tiles i t → LiesIn s p t k i
  lies_in p t k i lo hi a = record { tile = a.inside; line_from = lo; line_below = hi; from = a.from; below = a.below }

  at_tile : (p : Strip) (t k i : ℕ) → LiesIn s p t k i → At (tile_start p) (tile_size s p) p.tiles i t
  at_tile p t k i l = record { inside = l.tile; from = l.from; below = l.below }

  -- a tile's slice that holds its part
  part_in_place : (p : Strip) (t k i : ℕ) → LiesIn s p t k i
      → get_or (tile_out s p t) (place_in s p t k i) (pos 0) ≡ get_or (uncut s) (place s.horizontal s.lines (size s) k i) (pos 0)
  part_in_place p t k i l =
      let a : p.start + (k - p.start) ≡ k = omega (arith, l.line_from) in
      let b : tile_start p t + (i - tile_start p t) ≡ i = omega (arith, l.from) in
      part_at s.horizontal s.lines (size s) p.start p.lines (tile_start p t) (tile_size s p t) (uncut s) (k - p.start) (i - tile_start p t)
      (omega (arith, l.line_from, l.line_below)) (omega (arith, l.from, l.below))
      ∙ rw (a, b)

  module _ (cut : Cut s) where
    abbrev pub start_of : ℕ → ℕ
    start_of n = (cut.strip n).start

    abbrev pub lines_of : ℕ → ℕ
    lines_of n = (cut.strip n).lines

    pub strips_follow : Consecutive start_of lines_of cut.strips s.lines
    strips_follow = record { some = cut.some; first = cut.first; follows = cut.follows; last = cut.last }

    at_strip : (n t k i : ℕ) → n < cut.strips → LiesIn s (cut.strip n) t k i → At start_of lines_of cut.strips k n
    at_strip n t k i h l = record { inside = h; from = l.line_from; below = l.line_below }

    pub in_one_tile : (k i : ℕ) → k < s.lines → i < size s → InOneTile s cut k i
    in_one_tile k i hk hi =
        let a = exactly_one start_of lines_of cut.strips s.lines strips_follow k hk in
        let p = cut.strip a.index in
        let b = exactly_one (tile_start p) (tile_size s p) p.tiles (size s) (tiles_follow p (cut.fits a.index a.at.inside)) i hi in
        record {
          strip = a.index;
          tile = b.index;
          inside = a.at.inside;
          lies = lies_in p b.index k i a.at.from a.at.below b.at;
          only = λ n t h l.
              let e = a.only n (at_strip n t k i h l) in
              (e, b.only t (at_tile p t k i (rw e at l)));
        }

    pub each_in_place : (state : State) → AllHold s cut state → EachInItsPlace s cut state
    each_in_place state h k i hk hi =
        let one = in_one_tile k i hk hi in
        let p = cut.strip one.strip in
        record {
          one = one;
          sample = rw (h one.strip one.tile one.inside one.lies.tile) (part_in_place p one.tile k i one.lies);
        }
