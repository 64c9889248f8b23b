-- Document 01's own case of a cut in two (specs/Witness.antt): what the claim asks, by computation; what the slices then hold, from the claim.
-- Assumes nothing.
use mathlib.Core.Path.{◌≡◌, refl, ◌∙◌}
use mathlib.Core.Bool.{true, false}
use mathlib.Core.Logic.{inl}
use mathlib.Core.List.{List, [], ◌∷◌}
use Prim.Native.Nat.{ℕ, zero, suc, ◌<◌}
use native.Mathlib.Omega.{arith}
use lib.IntN.{ℤ, pos}
use Rattle.arith32.specs.Arith as Arith
use Rattle.range.specs.Range as Range
use Rattle.tendency.specs.Tendency as Tend
use Rattle.pair.specs.Pair as Pair
use Rattle.pair.specs.Marks as PairMarks
use Rattle.line.specs.Line as Line
use Rattle.line.specs.Marks as Marks
use Rattle.line.specs.Marks.{squeeze_marked}
use Rattle.line.specs.Uncut as Uncut
use Rattle.line.specs.Uncut.{squeeze, Fitting, uncut}
use Rattle.tile.specs.Call as Call
use Rattle.tile.specs.Call.{answer}
use Rattle.cuts.specs.Cut as Cuts
use Rattle.cuts.specs.Cut.{StripFits, Cut, tile_size, tile_out, on, together, all_allowed, Begins, AllRan}
use Rattle.cuts.specs.Claim.{GiveUncut}
use Rattle.cuts.specs.Witness.{row_of, row, far, halves, unfit, calls, begun, Witness}
use Rattle.cuts.proofs.Together.{tiles_together}

fitting : (r : ℤ) → Fitting (row_of r)
fitting r =
    record { low = omega arith; high = omega arith; avg_length = refl; res_length = refl; next_length = inl refl; prev_length = inl refl }

-- each tile has one pair
two : (r : ℤ) (t : ℕ) → t < 2 → tile_size (row_of r) halves t ≡ 2
two r zero h = refl
two r (suc zero) h = refl
two r (suc (suc t)) h = absurd (omega arith)

fits : (r : ℤ) → StripFits (row_of r) halves
fits r =
    record {
      inside = omega arith;
      some = omega arith;
      begins = refl;
      rises = λ t h. omega arith;
      ends = λ t h. h;
      side_across = omega arith;
      side_along = λ t h. rw (two r t h) (omega arith);
      area = λ t h. rw (two r t h) (omega arith);
    }

abbrev cut : (r : ℤ) → Cut (row_of r)
cut r =
    record {
      strips = 1;
      strip = λ n. halves;
      some = λ h. h;
      fits = λ n h. fits r;
      first = λ h. refl;
      follows = λ n h. absurd (omega arith);
      last = λ n e. refl;
    }

begins : (r : ℤ) → Begins (row_of r) (cut r) begun
begins r = record { long = λ k t hk ht. rw (two r t ht) refl; none = λ k. refl }

unfit_refused : (out : List ℤ) → answer (on unfit out) ≡ 0 → ⊥
unfolding Call.area_allowed Call.areas_allowed Call.sides_small Call.sides_fit Call.sizes_fit Call.answer
unfit_refused out e = omega arith

allowed : (r : ℤ) → all_allowed (row_of r) (cut r) calls begun
unfolding Cuts.happens
allowed r = ((omega arith, omega arith), (unfit_refused _, (unfit_refused _, ((omega arith, omega arith), tt))))

ran : (r : ℤ) → AllRan (row_of r) (cut r) (together (row_of r) (cut r) calls begun)
unfolding Cuts.happens
ran r zero h = refl
ran r (suc k) h = absurd (omega arith)

-- the uncut row, its two parts, and the first average on its own
computed : (tile_out row halves 0 ≡ pos 11 ∷ pos 9 ∷ []) × (tile_out row halves 1 ≡ pos 4 ∷ pos 4 ∷ []) × (uncut row ≡ pos 11 ∷ pos 9 ∷ pos 4 ∷ pos 4 ∷ [])
    × (uncut (squeeze true 1 1 1 (pos 10 ∷ []) (pos 1 ∷ []) [] []) ≡ pos 10 ∷ pos 9 ∷ [])
unfolding
    Arith.residue Arith.wrap Arith.wrapped_abs Arith.lowest_bit
    Tend.opposite Tend.slope Tend.clamp_before Tend.clamp_after Tend.negated_if Tend.monotone Tend.tendency
    Pair.difference Pair.first_of Pair.second_of Pair.first Pair.second
    Line.next_average Line.before Line.sample Uncut.line_of Uncut.output_at Uncut.uncut Cuts.part
computed = (refl, refl, refl, refl)

-- the marks of the two uncut rows
told : (squeeze_marked row ≡ false) × (squeeze_marked far ≡ true)
unfolding
    Arith.residue Arith.wrap Arith.wrapped_abs Arith.lowest_bit
    Tend.opposite Tend.slope Tend.clamp_before Tend.clamp_after Tend.negated_if Tend.monotone Tend.tendency
    Pair.difference Pair.first_of Pair.second_of Pair.first Pair.second
    Range.outside PairMarks.any_outside PairMarks.pair_marked
    Line.next_average Line.before Uncut.line_of Marks.pair_at_marked Marks.copied_marked Marks.line_marked Marks.squeeze_marked
told = (refl, refl)

-- what the claim gives, of such a row
given : (r : ℤ) → GiveUncut (row_of r) (cut r) calls begun
given r = tiles_together (row_of r) (fitting r) (cut r) calls begun (begins r) (allowed r)

pub witness : Witness
witness =
    let made = (given (pos 0)).hold (ran (pos 0)) in
    record {
      fitting = fitting (pos 0);
      cut = cut (pos 0);
      one_strip = refl;
      two_tiles = refl;
      begins = begins (pos 0);
      allowed = allowed (pos 0);
      ran = ran (pos 0);
      first = made 0 0 (omega arith) (omega arith) ∙ computed.0;
      second = made 0 1 (omega arith) (omega arith) ∙ computed.1;
      whole = computed.2;
      on_its_own = computed.3;
      plain = (given (pos 0)).marked (ran (pos 0)) ∙ told.0;
      far_cut = cut (pos 268_435_456);
      far_marked = (given (pos 268_435_456)).marked (ran (pos 268_435_456)) ∙ told.1;
    }
