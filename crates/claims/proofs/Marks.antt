-- What the marks say (specs/Marks.antt): by the laws of whole runs (crate runs), whose slices an accepted call fills, and of tile calls. Assumes nothing.
use mathlib.Core.Path.{◌≡◌, refl, sym}
use mathlib.Core.Bool.{Bool, true, false, cond}
use mathlib.Core.List.{List}
use Prim.Native.Nat.{ℕ, ◌≤◌}
use native.Mathlib.Omega.{arith}
use lib.Dec.{eqb}
use lib.IntN.{ℤ}
use lib.ListN.{length, get_or}
use borrow.Author.Tests.{eqb-true, eqb-false, eq-eqb}
use Rattle.record.specs.Records.{channels_of, steps_of}
use Rattle.line.proofs.Marks.{no_outers, marked_domain}
use Rattle.tile.specs.Call as Tile
use Rattle.tile.specs.Call.{Call, call_mark, squeeze_of}
use Rattle.tile.proofs.Fitted as Fitted
use Rattle.runs.proofs.Marks.{inside_exactly, unmarked_standard, same_mark}
use Rattle.runs.proofs.Other.{only_range}
use Rattle.runs.proofs.Untouched.{never_marks}
use Rattle.runs.proofs.Witness.{witness}
use Rattle.squeeze.specs.Entry.{answer, picture_of, pyramid_of}
use Rattle.squeeze.specs.Marked.{with_mark, slice_after, mark_after, rebuild_mark}
use Rattle.squeeze.proofs.WithMark.{with_room, slice_kept, mark_kept}
use Rattle.claims.specs.Marks.{SameCall, Refused, InsideRun, UnmarkedIsStandard, WriterSame, OnlyTouched, InsideTile, Marks}
use Rattle.claims.proofs.Demands.{picture_fills, pyramid_fills}

-- ---- a call with a mark beside the one without
same_call : (unmarked : ℕ) (mark : List ℕ) → 1 ≤ length mark → SameCall unmarked mark
unfolding slice_after mark_after
same_call unmarked mark h =
    let w = sym (with_room unmarked mark (λ z. omega arith)) in
    record {
      answers = w;
      slices = λ before after k. by before after k (eqb unmarked 0) refl w;
      told = λ marked z. rw (w, eq-eqb unmarked 0 z) refl;
    }
  where
    by : (before after : List ℤ) → ((unmarked ≡ 0 → ⊥) → after ≡ before) → (b : Bool) → eqb unmarked 0 ≡ b → with_mark unmarked mark ≡ unmarked
        → slice_after unmarked mark after before ≡ after
    by before after k true e w = rw (w, e) refl
    by before after k false e w = rw (w, e) (sym (k (λ z. eqb-false unmarked 0 e z)))

refused : (unmarked : ℕ) (mark : List ℕ) → (with_mark unmarked mark ≡ 0 → ⊥) → Refused unmarked mark
refused unmarked mark h =
    let a = with_mark unmarked mark in
    record {
      slices = λ before after. sym (slice_kept unmarked a mark refl h before after);
      mark_stays = λ marked. sym (mark_kept unmarked a mark refl h marked);
    }

-- an accepted call with a mark is one without
accepted : (unmarked : ℕ) (mark : List ℕ) → with_mark unmarked mark ≡ 0 → unmarked ≡ 0
unfolding with_mark
accepted unmarked mark h = by (eqb unmarked 0) refl
  where
    by : (b : Bool) → eqb unmarked 0 ≡ b → unmarked ≡ 0
    by true e = eqb-true unmarked 0 e
    by false e = rw e at h

-- ---- whole runs
inside_run : InsideRun
inside_run bytes pyramid picture work s a =
    inside_exactly (steps_of bytes) (channels_of bytes) pyramid (pyramid_fills bytes pyramid picture work a s)

-- the mark's number is 0 only if nothing is marked
zero_unmarked : (unmarked : ℕ) (mark : List ℕ) (marked : Bool) → with_mark unmarked mark ≡ 0 → get_or (mark_after unmarked mark marked) 0 1 ≡ 0 → marked ≡ false
unfolding mark_after
zero_unmarked unmarked mark marked w e = by marked (rw (eq-eqb (with_mark unmarked mark) 0 w) at e)
  where
    by : (m : Bool) → ◌≡◌ {A = ℕ} (cond m 1 0) 0 → m ≡ false
    by true q = absurd (omega arith)
    by false q = refl

unmarked_is_standard : UnmarkedIsStandard
unfolding slice_after picture_of
unmarked_is_standard bytes pyramid picture work mark s w e =
    let u = answer bytes pyramid picture work in
    let a = accepted u mark w in
    rw (eq-eqb (with_mark u mark) 0 w, eq-eqb u 0 a)
    (unmarked_standard (steps_of bytes) (channels_of bytes) pyramid (pyramid_fills bytes pyramid picture work a s)
    (zero_unmarked u mark (rebuild_mark bytes pyramid) w e))

writer_same : WriterSame
unfolding pyramid_of
writer_same bytes picture pyramid work s a =
    rw (eq-eqb (answer bytes picture pyramid work) 0 a)
    (same_mark (steps_of bytes) (channels_of bytes) picture (picture_fills bytes picture pyramid work a s))

only_touched : OnlyTouched
only_touched =
    record {
      no_step = λ bytes xs e. (rw e refl, rw e refl);
      range = only_range;
      untouched = λ bytes k h u. never_marks (steps_of bytes) (channels_of bytes) k h u;
    }

-- ---- a tile
inside_tile : InsideTile
unfolding call_mark squeeze_of
inside_tile c s a no-next no-prev =
    let q = squeeze_of c in
    let f = Fitted.fits c a in
    let d = marked_domain q (Fitted.fitting c f.0 f.1) s (no_outers q no-prev no-next) in
    let m = Fitted.made c a in
    rw (eq-eqb (Tile.answer c) 0 a) (
      λ e. let r = d.0 e in record { avg = r.0; res = r.1; out = rw m r.2 },
      λ i. d.1 i.avg i.res (rw m at i.out),
    )

pub marks : Marks
marks =
    record {
      same_call = same_call;
      refused = refused;
      inside_run = inside_run;
      unmarked_is_standard = unmarked_is_standard;
      writer_same = writer_same;
      only_touched = only_touched;
      inside_tile = inside_tile;
      witness = witness;
    }
