-- One channel under a step: its side and its shift in the step's direction. Assumes nothing.
use mathlib.Core.Path.{◌≡◌, refl, sym, ap, ◌∙◌}
use mathlib.Core.Bool.{Bool, true, false, cond, ◌&&◌, ◌||◌, and_comm, and-false, or-true, and-eq-true_iff}
use Prim.Native.Nat.{ℕ, ◌+◌, ◌<◌, ◌≤◌}
use native.Mathlib.Omega.{arith}
use lib.Dec.{leb, ltb}
use borrow.Author.Tests.{ltb-true, ltb-false, leb-true, le-leb, lt-leb, ne_eqb}
use Rattle.channel.specs.declared.Channel.{Channel}
use Rattle.channel.specs.Channel.{max_shift, meta_shift, is_meta, shifts_allowed}
use Rattle.channel.proofs.Shifts.{plain_shifts}
use Rattle.list.specs.Lists.{raised, sided}
use Rattle.list.specs.Questions.{shifts_kept}

-- the shift in the step's direction
abbrev pub shift_of : Bool → Channel → ℕ
shift_of horizontal c = cond horizontal c.hshift c.vshift

-- the channel with that shift one more
abbrev pub lifted : Bool → Channel → Channel
lifted h c =
    record {
      width = c.width;
      height = c.height;
      hshift = cond h (c.hshift + 1) c.hshift;
      vshift = cond h c.vshift (c.vshift + 1);
    }

pub raised_meta : (h : Bool) (c : Channel) → is_meta c ≡ true → raised h c ≡ c
unfolding raised
raised_meta h c e = rw e

pub raised_plain : (h : Bool) (c : Channel) → is_meta c ≡ false → raised h c ≡ lifted h c
unfolding raised
raised_plain h c e = rw e

-- its sides stay
pub raised_width : (h : Bool) (c : Channel) → (raised h c).width ≡ c.width
unfolding raised
raised_width h c = go (is_meta c)
  where
    go : (m : Bool) → (cond m c (lifted h c)).width ≡ c.width
    go true = refl
    go false = refl

pub raised_height : (h : Bool) (c : Channel) → (raised h c).height ≡ c.height
unfolding raised
raised_height h c = go (is_meta c)
  where
    go : (m : Bool) → (cond m c (lifted h c)).height ≡ c.height
    go true = refl
    go false = refl

lifted_plain : (h : Bool) (c : Channel) → (c.hshift ≤ max_shift) × (c.vshift ≤ max_shift) → is_meta (lifted h c) ≡ false
unfolding is_meta
lifted_plain true c b = let n = ne_eqb (c.hshift + 1) meta_shift (λ (e : c.hshift + 1 ≡ meta_shift). omega arith) in rw n
lifted_plain false c b = let n = ne_eqb c.hshift meta_shift (λ (e : c.hshift ≡ meta_shift). omega arith) in rw n

-- a shift x has room for one more, beside an answer y on the other shift
room_left : (x : ℕ) (y : Bool) → (leb (x + 1) max_shift && y) ≡ ((leb x max_shift && y) && ltb x max_shift)
room_left x y = go (ltb x max_shift) y refl
  where
    go : (r z : Bool) → ltb x max_shift ≡ r → (leb (x + 1) max_shift && z) ≡ ((leb x max_shift && z) && ltb x max_shift)
    go true true e = let b = ltb-true x max_shift e in rw (le-leb (x + 1) max_shift (omega arith), le-leb x max_shift (omega arith), e)
    go true false e = let b = ltb-true x max_shift e in rw (le-leb (x + 1) max_shift (omega arith), le-leb x max_shift (omega arith))
    go false z e = let b = ltb-false x max_shift e in rw (lt-leb (x + 1) max_shift (omega arith), e) (sym (and-false (leb x max_shift && z)))

-- question 11, as the code asks it
pub kept_found : (h : Bool) (c : Channel) → shifts_kept h c ≡ (is_meta c || (shifts_allowed c && ltb (shift_of h c) max_shift))
unfolding raised shifts_allowed shifts_kept
kept_found h c = go (is_meta c) h
  where
    go : (m h : Bool) → (m || (leb (cond m c (lifted h c)).hshift max_shift && leb (cond m c (lifted h c)).vshift max_shift))
        ≡ (m || ((m || (leb c.hshift max_shift && leb c.vshift max_shift)) && ltb (shift_of h c) max_shift))
    go true h = refl
    go false true = room_left c.hshift (leb c.vshift max_shift)
    go false false =
        and_comm (leb c.hshift max_shift) (leb (c.vshift + 1) max_shift)
        ∙ room_left c.vshift (leb c.hshift max_shift)
        ∙ ap (λ b. b && ltb c.vshift max_shift) (and_comm (leb c.vshift max_shift) (leb c.hshift max_shift))

-- where question 11 lets a channel that is not meta through, its shifts are at most 30 afterwards
kept_shifts : (h : Bool) (c : Channel) → shifts_kept h c ≡ true → is_meta c ≡ false → ((lifted h c).hshift ≤ max_shift) × ((lifted h c).vshift ≤ max_shift)
unfolding raised shifts_kept
kept_shifts h c k e =
    let b = (and-eq-true_iff (leb (lifted h c).hshift max_shift) (leb (lifted h c).vshift max_shift)).0 (rw e at k) in
    (leb-true _ _ b.0, leb-true _ _ b.1)

pub kept_below : (h : Bool) (c : Channel) → shifts_kept h c ≡ true → is_meta c ≡ false → shift_of h c < meta_shift
kept_below true c k e = let s = kept_shifts true c k e in omega arith
kept_below false c k e = let s = kept_shifts false c k e in omega arith

-- the channel d is c with another side: it has c's shifts
pub sided_below : (g : ℕ → ℕ) (h : Bool) (c d : Channel) → d ≡ sided g h c → shifts_kept h c ≡ true → is_meta d ≡ false → shift_of h d < meta_shift
unfolding is_meta
sided_below g h c d e k m = rw e (kept_below h c k (rw e at m))

-- the side, found first and put through g then
pub sided_found : (g : ℕ → ℕ) (h : Bool) (c : Channel) (s : ℕ) → s ≡ g (cond h c.width c.height) → sided (λ _. s) h c ≡ sided g h c
sided_found g true c s e = rw e
sided_found g false c s e = rw e

-- ---- the two parts that a step makes of a channel: g is `halved` or `rest`
meta_allowed : (c : Channel) → is_meta c ≡ true → shifts_allowed c ≡ true
unfolding shifts_allowed
meta_allowed c e = rw e

low_allowed : (c : Channel) → (c.hshift ≤ max_shift) × (c.vshift ≤ max_shift) → shifts_allowed c ≡ true
unfolding shifts_allowed
low_allowed c b = rw (le-leb c.hshift max_shift b.0, le-leb c.vshift max_shift b.1) (or-true (is_meta c))

module _ (g : ℕ → ℕ) (h : Bool) (c : Channel) where
  -- question 11 is question 4 of the part
  pub part_allowed : shifts_kept h c ≡ true → shifts_allowed (raised h (sided g h c)) ≡ true
  unfolding is_meta
  part_allowed k = go (is_meta c) refl
    where
      go : (m : Bool) → is_meta c ≡ m → shifts_allowed (raised h (sided g h c)) ≡ true
      go true e = ap shifts_allowed (raised_meta h (sided g h c) e) ∙ meta_allowed (sided g h c) e
      go false e = ap shifts_allowed (raised_plain h (sided g h c) e) ∙ low_allowed (lifted h (sided g h c)) (kept_shifts h c k e)

  -- "meta stays meta", and another channel does not become meta
  pub part_kind : shifts_allowed c ≡ true → is_meta (raised h (sided g h c)) ≡ is_meta c
  unfolding is_meta
  part_kind a = go (is_meta c) refl
    where
      go : (m : Bool) → is_meta c ≡ m → is_meta (raised h (sided g h c)) ≡ is_meta c
      go true e = ap is_meta (raised_meta h (sided g h c) e)
      go false e = ap is_meta (raised_plain h (sided g h c) e) ∙ lifted_plain h (sided g h c) (plain_shifts c a e) ∙ sym e
