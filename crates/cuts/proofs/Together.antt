-- The claim over a whole list of tile calls (demand 3; document 01, "Whole runs"). The invariant along the list: of every strip the tiles that
-- have run hold their parts of the uncut squeeze's output, and every slice keeps its length. The next tile of a strip finds the one before it
-- done, so its call is accepted and leaves its part; a refused call leaves the slice as it was. The marks that the calls tell, along the same list.
-- Assumes nothing.
use mathlib.Core.Path.{◌≡◌, refl, sym, ap, ◌∙◌}
use mathlib.Core.Bool.{Bool, true, false, cond}
use mathlib.Core.List.{List, [], ◌∷◌}
use mathlib.Core.Logic.{◌⊎◌, inl, inr}
use Prim.Native.Nat.{ℕ, zero, suc, ◌*◌, ◌<◌, ◌≤◌}
use native.Mathlib.Omega.{arith}
use borrow.Author.Tests.{eqb-true, eqb-false}
use lib.Dec.{eqb}
use lib.IntN.{ℤ}
use lib.ListN.{length}
use Rattle.range.proofs.Some.{left_false, right_false, both_false, same}
use Rattle.line.specs.Uncut.{Squeeze, Fitting}
use Rattle.line.specs.Marks.{squeeze_marked}
use Rattle.tile.specs.Call.{Call, answer, after, call_mark}
use Rattle.cuts.specs.Cut.{Cut, tile_size, tile_out, tile_call, State, Event, runs, other, on, stored, happens, together, mark_at, marks, allowed, all_allowed, Begins, AllRan}
use Rattle.cuts.specs.Claim as Claim
use Rattle.cuts.specs.Claim.{AllAccepted, AllHold, GiveUncut}
use Rattle.std.proofs.lemmas.Bool.{cases_lt}
use Rattle.tile.proofs.Fitted.{refused_after, refused_mark}
use Rattle.cuts.proofs.Parts.{part_length}
use Rattle.cuts.proofs.Stretches.{Left, tile_accepted, tile_after, tile_mark}
use Rattle.cuts.proofs.Tiled.{each_in_place}
use Rattle.cuts.proofs.Marks.{same_squeeze, tile_marked, NoneMarked, tiles_unmarked, whole_unmarked}

-- what holds of the slice that is replaced, and of each other one, holds of all
stored_elim : (Q : List ℤ → Type 0) (slices : ℕ → ℕ → List ℤ) (k t : ℕ) (xs : List ℤ) (i j : ℕ)
    → (i ≡ k → j ≡ t → Q xs) → ((i ≡ k → j ≡ t → ⊥) → Q (slices i j)) → Q (stored slices k t xs i j)
stored_elim Q slices k t xs i j new old = by (eqb i k) (eqb j t) refl refl
  where
    by : (b c : Bool) → eqb i k ≡ b → eqb j t ≡ c → Q (cond b (cond c xs (slices i j)) (slices i j))
    by true true e f = new (eqb-true i k e) (eqb-true j t f)
    by true false e f = old (λ p q. eqb-false j t f q)
    by false c e f = old (λ p q. eqb-false i k e p)

-- likewise of a count that is raised
raised_elim : (Q : ℕ → Type 0) (done : ℕ → ℕ) (k i : ℕ) → (i ≡ k → Q (suc (done i))) → ((i ≡ k → ⊥) → Q (done i))
    → Q (cond (eqb i k) (suc (done i)) (done i))
raised_elim Q done k i new old = by (eqb i k) refl
  where
    by : (b : Bool) → eqb i k ≡ b → Q (cond b (suc (done i)) (done i))
    by true e = new (eqb-true i k e)
    by false e = old (eqb-false i k e)

module _ (s : Squeeze) (fs : Fitting s) (cut : Cut s) where
  -- the part of tile t of strip k
  abbrev part_of : ℕ → ℕ → List ℤ
  part_of k t = tile_out s (cut.strip k) t

  pub record Holds (state : State) : Type 0 where
    pub long : (k t : ℕ) → k < cut.strips → t < (cut.strip k).tiles → length (state.slices k t) ≡ (cut.strip k).lines * tile_size s (cut.strip k) t
    pub within : (k : ℕ) → k < cut.strips → state.done k ≤ (cut.strip k).tiles
    pub right : (k t : ℕ) → k < cut.strips → t < state.done k → state.slices k t ≡ part_of k t

  part_long : (k t : ℕ) → length (part_of k t) ≡ (cut.strip k).lines * tile_size s (cut.strip k) t
  part_long k t = part_length _ _ _ _ _ _ _ _

  -- the tile before the next one of a strip is done
  left : (k : ℕ) (hk : k < cut.strips) (slices : ℕ → List ℤ) (done : ℕ) → ((t : ℕ) → t < done → slices t ≡ part_of k t)
      → Left s fs (cut.strip k) (cut.fits k hk) slices done
  left k hk slices zero r = tt
  left k hk slices (suc t) r = r t (omega arith)

  -- the next tile's call is accepted, leaves its part, and tells the tile's mark
  module _ (state : State) (h : Holds state) (k : ℕ) (hk : k < cut.strips) (ht : state.done k < (cut.strip k).tiles) where
    next_left : Left s fs (cut.strip k) (cut.fits k hk) (state.slices k) (state.done k)
    next_left = left k hk (state.slices k) (state.done k) (λ t l. h.right k t hk l)

    next_accepted : answer (tile_call s (cut.strip k) (state.slices k) (state.done k)) ≡ 0
    next_accepted =
        tile_accepted s fs (cut.strip k) (cut.fits k hk) (state.slices k) (state.done k) ht (h.long k (state.done k) hk ht)

    next_part : after (tile_call s (cut.strip k) (state.slices k) (state.done k)) ≡ part_of k (state.done k)
    next_part =
        tile_after s fs (cut.strip k) (cut.fits k hk) (state.slices k) (state.done k) ht (h.long k (state.done k) hk ht) next_left

    next_mark : call_mark (tile_call s (cut.strip k) (state.slices k) (state.done k)) ≡ tile_marked s fs cut k hk (state.done k)
    next_mark =
        tile_mark s fs (cut.strip k) (cut.fits k hk) (state.slices k) (state.done k) ht (h.long k (state.done k) hk ht)
        ∙ ap squeeze_marked (same_squeeze s fs (cut.strip k) (cut.fits k hk) (state.slices k) (state.done k) next_left)

  runs_holds : (k : ℕ) (state : State) → allowed s cut (runs k) state → Holds state → Holds (happens s cut (runs k) state)
  unfolding happens
  runs_holds k state a h =
      let d = state.done k in
      let xs = after (tile_call s (cut.strip k) (state.slices k) d) in
      let e = next_part state h k a.0 a.1 in
      record {
        long = λ i t hi ht.
            stored_elim (λ (ys : List ℤ). length ys ≡ (cut.strip i).lines * tile_size s (cut.strip i) t) state.slices k d xs i t
            (λ ei et. rw (e, ei, et) (part_long k d))
            (λ n. h.long i t hi ht);
        within = λ i hi.
            raised_elim (λ (n : ℕ). n ≤ (cut.strip i).tiles) state.done k i
            (λ ei. rw ei a.1)
            (λ n. h.within i hi);
        right = λ i t hi ht.
            stored_elim (λ (ys : List ℤ). ys ≡ part_of i t) state.slices k d xs i t
            (λ ei et. rw (e, ei, et) refl)
            (λ n. h.right i t hi (before i t n ht));
      }
    where
      -- a tile of which less than the raised count is asked, and which is not the one that ran, ran before
      before : (i t : ℕ) → (i ≡ k → t ≡ state.done k → ⊥) → t < cond (eqb i k) (suc (state.done i)) (state.done i) → t < state.done i
      before i t n = raised_elim (λ (m : ℕ). t < m → t < state.done i) state.done k i (λ ei l. less ei l (cases_lt t (state.done i))) (λ _ l. l)
        where
          less : i ≡ k → t < suc (state.done i) → (t < state.done i) ⊎ (state.done i ≤ t) → t < state.done i
          less ei l (inl m) = m
          less ei l (inr m) = let q : t ≡ state.done i = omega arith in absurd (n ei (q ∙ ap state.done ei))

  other_holds : (k t : ℕ) (c : Call) (state : State) → allowed s cut (other k t c) state → Holds state → Holds (happens s cut (other k t c) state)
  unfolding happens
  other_holds k t c state a h =
      let xs = after (on c (state.slices k t)) in
      let e = refused_after (on c (state.slices k t)) a in
      record {
        long = λ i j hi hj.
            stored_elim (λ (ys : List ℤ). length ys ≡ (cut.strip i).lines * tile_size s (cut.strip i) j) state.slices k t xs i j
            (λ ei ej. rw (e, ← ei, ← ej) (h.long i j hi hj))
            (λ n. h.long i j hi hj);
        within = h.within;
        right = λ i j hi hj.
            stored_elim (λ (ys : List ℤ). ys ≡ part_of i j) state.slices k t xs i j
            (λ ei ej. rw (e, ← ei, ← ej) (h.right i j hi hj))
            (λ n. h.right i j hi hj);
      }

  holds : (e : Event) (state : State) → allowed s cut e state → Holds state → Holds (happens s cut e state)
  holds (runs k) state a h = runs_holds k state a h
  holds (other k t c) state a h = other_holds k t c state a h

  all_hold : (es : List Event) (state : State) → all_allowed s cut es state → Holds state → Holds (together s cut es state)
  all_hold [] state a h = h
  all_hold (e ∷ es) state a h = all_hold es (happens s cut e state) a.1 (holds e state a.0 h)

  accepts : (e : Event) (state : State) → allowed s cut e state → Holds state → Claim.accepted s cut e state
  accepts (runs k) state a h = next_accepted state h k a.0 a.1
  accepts (other k t c) state a h = tt

  all_accepted : (es : List Event) (state : State) → all_allowed s cut es state → Holds state → AllAccepted s cut es state
  all_accepted [] state a h = tt
  all_accepted (e ∷ es) state a h = (accepts e state a.0 h, all_accepted es (happens s cut e state) a.1 (holds e state a.0 h))

  begun : (state : State) → Begins s cut state → Holds state
  begun state b =
      record {
        long = b.long;
        within = λ k h. omega (arith, b.none k);
        right = λ k t h l. absurd (omega (arith, b.none k));
      }

  parts_held : (es : List Event) (state : State) → Begins s cut state → all_allowed s cut es state → AllRan s cut (together s cut es state)
      → AllHold s cut (together s cut es state)
  parts_held es state b a r k t hk ht = (all_hold es state a (begun state b)).right k t hk (omega (arith, r k hk))

  -- ---- marks
  -- an event that tells no mark: a tile that it counts has none
  counted : (e : Event) (state : State) → allowed s cut e state → Holds state → mark_at s cut e state ≡ false
      → (k : ℕ) (hk : k < cut.strips) (t : ℕ) → state.done k ≤ t
      → (tile_marked s fs cut k hk t ≡ false) ⊎ ((happens s cut e state).done k ≤ t)
  unfolding happens
  counted (other j i c) state a h m k hk t lo = inr lo
  counted (runs j) state a h m k hk t lo =
      raised_elim (λ (n : ℕ). (tile_marked s fs cut k hk t ≡ false) ⊎ (n ≤ t)) state.done j k (λ e. by e (cases_lt (state.done k) t)) (λ _. inr lo)
    where
      by : k ≡ j → (state.done k < t) ⊎ (t ≤ state.done k) → (tile_marked s fs cut k hk t ≡ false) ⊎ (suc (state.done k) ≤ t)
      by e (inl l) = inr l
      by e (inr g) =
          let d : t ≡ state.done k = omega arith in
          inl (rw (d, e) (sym (next_mark state h j a.0 a.1) ∙ m))

  -- a list that tells no mark: the tiles that have run by it have none
  ran_unmarked : (es : List Event) (state : State) → all_allowed s cut es state → Holds state → marks s cut es state ≡ false
      → (k : ℕ) (hk : k < cut.strips) (t : ℕ) → state.done k ≤ t → t < (together s cut es state).done k → tile_marked s fs cut k hk t ≡ false
  ran_unmarked [] state a h m k hk t lo hi = absurd (omega arith)
  ran_unmarked (e ∷ es) state a h m k hk t lo hi =
      by (counted e state a.0 h (left_false (mark_at s cut e state) (marks s cut es (happens s cut e state)) m) k hk t lo)
      (λ l.
      ran_unmarked es (happens s cut e state) a.1 (holds e state a.0 h)
      (right_false (mark_at s cut e state) (marks s cut es (happens s cut e state)) m) k hk t l hi)
    where
      by : (tile_marked s fs cut k hk t ≡ false) ⊎ ((happens s cut e state).done k ≤ t)
          → ((happens s cut e state).done k ≤ t → tile_marked s fs cut k hk t ≡ false) → tile_marked s fs cut k hk t ≡ false
      by (inl n) later = n
      by (inr l) later = later l

  -- where no tile has a mark, no call tells one
  tells_none : (e : Event) (state : State) → allowed s cut e state → Holds state → NoneMarked s fs cut → mark_at s cut e state ≡ false
  tells_none (runs k) state a h n = next_mark state h k a.0 a.1 ∙ n k a.0 (state.done k) a.1
  tells_none (other k t c) state a h n = refused_mark (on c (state.slices k t)) a

  tell_none : (es : List Event) (state : State) → all_allowed s cut es state → Holds state → NoneMarked s fs cut → marks s cut es state ≡ false
  tell_none [] state a h n = refl
  tell_none (e ∷ es) state a h n =
      both_false (mark_at s cut e state) (marks s cut es (happens s cut e state)) (tells_none e state a.0 h n)
      (tell_none es (happens s cut e state) a.1 (holds e state a.0 h) n)

  marked_together : (es : List Event) (state : State) → Begins s cut state → all_allowed s cut es state → AllRan s cut (together s cut es state)
      → marks s cut es state ≡ squeeze_marked s
  marked_together es state b a r =
      same (marks s cut es state) (squeeze_marked s)
      (λ m.
      whole_unmarked s fs cut
      (λ k hk t ht. ran_unmarked es state a (begun state b) m k hk t (omega (arith, b.none k)) (omega (arith, r k hk))))
      (λ m. tell_none es state a (begun state b) (tiles_unmarked s fs cut m))

  -- Demand 3, over a whole list of tile calls, and what they tell together
  pub tiles_together : (es : List Event) (state : State) → Begins s cut state → all_allowed s cut es state → GiveUncut s cut es state
  tiles_together es state b a =
      record {
        accepted = all_accepted es state a (begun state b);
        hold = parts_held es state b a;
        placed = λ r. each_in_place s fs cut (together s cut es state) (parts_held es state b a r);
        marked = marked_together es state b a;
      }
