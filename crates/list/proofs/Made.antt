-- The list that a step leaves, entry by entry, as the code makes it (specs/Entries.antt): the index of what an entry is made of lies in the list, and
-- what is made of it is the entry; of channels, where question 11 lets it through, and of origins. Assumes nothing.
use mathlib.Core.Path.{◌≡◌, refl, sym, ap, ◌∙◌}
use mathlib.Core.Bool.{Bool, true, false, cond, ◌||◌, false≢true}
use mathlib.Core.List.{List}
use Prim.Native.Nat.{ℕ, ◌+◌, ◌-◌, ◌<◌, ◌≤◌, min}
use native.Mathlib.Omega.{arith}
use lib.Dec.{ltb}
use lib.ListN.{length, get_or}
use borrow.Author.Tests.{lt-ltb, le-ltb, le-leb, lt-leb, ltb-true, ltb-false}
use Rattle.channel.specs.declared.Channel.{Channel}
use Rattle.list.specs.declared.ChannelList.{ChannelList}
use Rattle.list.specs.declared.Step.{Step}
use Rattle.list.specs.Lists.{max_channels, channel_at, channels, origins, average, residual, moved, stepped, stepped_origins}
use Rattle.list.specs.Questions.{no_channel, channel_of, shifts_kept}
use Rattle.list.specs.Entries.{is_inside, source, entry_by, entry, entry_allowed}
use Rattle.list.specs.Accepted.{StepAccepted}
use Rattle.list.proofs.Channels.{channels_length, found_at, origins_length, origins_at}
use Rattle.list.proofs.Entries.{residuals_at, range_each, moved_before, moved_average, moved_between, moved_residual, moved_after}

-- ---- an index inside or outside
pub inside_yes : (b n k : ℕ) → b ≤ k → k < b + n → is_inside b n k ≡ true
unfolding is_inside
inside_yes b n k l h = rw (le-leb b k l, lt-ltb (k - b) n (omega arith))

pub inside_low : (b n k : ℕ) → k < b → is_inside b n k ≡ false
unfolding is_inside
inside_low b n k h = rw (lt-leb b k h)

pub inside_high : (b n k : ℕ) → b + n ≤ k → is_inside b n k ≡ false
unfolding is_inside
inside_high b n k h = rw (le-leb b k (omega arith), le-ltb (k - b) n (omega arith))

-- ---- entry k of what the step leaves, where the residuals start at r
-- a part of what is squeezed
abbrev is_part : Step → ℕ → ℕ → Bool
is_part s r k = is_inside s.begin s.number k || is_inside r s.number k

module _ {ℓ} {A : Type ℓ} (f g : A → A) (s : Step) (xs : List A) (inside : s.begin + s.number ≤ length xs) (r : ℕ) (er : r ≡ residuals_at s xs) (k : ℕ) (d : A) where
  -- it is made of entry j, of the range where it is a part
  pub record From (j : ℕ) : Type ℓ where
    pub within : j < length xs
    pub is : entry_by f g s r k (get_or xs j d) ≡ get_or (moved f g s xs) k d
    pub squeezed : is_part s r k ≡ true → (s.begin ≤ j) × (j < s.begin + s.number)

  -- where the residuals start is not before the range's end, nor past the list
  residuals_from_lem : (i : Bool) → r ≡ cond i (s.begin + s.number) (length xs) → (s.begin + s.number ≤ r) × (r ≤ length xs)
  residuals_from_lem true e = (omega arith, omega arith)
  residuals_from_lem false e = (omega arith, omega arith)

  -- neither average nor residual
  from_itself : (j : ℕ) → j < length xs → is_inside s.begin s.number k ≡ false → is_inside r s.number k ≡ false → get_or (moved f g s xs) k d ≡ get_or xs j d → From j
  from_itself j h n m e = record { within = h; is = rw (n, m) (sym e); squeezed = λ p. absurd (false≢true (sym (rw (n, m) refl) ∙ p)) }

  from_before : k < s.begin → From k
  from_before h =
      let w = residuals_from_lem s.inplace er in
      from_itself k (omega arith) (inside_low s.begin s.number k h) (inside_low r s.number k (omega arith)) (moved_before s xs inside f g k d h)

  from_average : s.begin ≤ k → k < s.begin + s.number → From k
  from_average l h =
      let y = inside_yes s.begin s.number k l h in
      record { within = omega arith; is = rw y (sym (moved_average s xs inside f g k d l h)); squeezed = λ _. (l, h) }

  from_between : s.begin + s.number ≤ k → k < r → From k
  from_between l h =
      let e = moved_between s xs inside f g k d r er l h in
      from_itself k e.0 (inside_high s.begin s.number k l) (inside_low r s.number k h) e.1

  from_residual : r ≤ k → k < r + s.number → From (k - r + s.begin)
  from_residual l h =
      let w = residuals_from_lem s.inplace er in
      let n = inside_high s.begin s.number k (omega arith) in
      let y = inside_yes r s.number k l h in
      record {
        within = omega arith;
        is = rw (n, y) (sym (moved_residual s xs inside f g k d r er (omega arith) l h));
        squeezed = λ _. (omega arith, omega arith);
      }

  from_after : r + s.number ≤ k → k < length xs + s.number → From (k - s.number)
  from_after l h =
      let w = residuals_from_lem s.inplace er in
      from_itself (k - s.number) (omega arith) (inside_high s.begin s.number k (omega arith)) (inside_high r s.number k l)
      (moved_after s xs inside f g k d r er (omega arith) l h)

  pub from_source : k < length xs + s.number → From (source s r k)
  unfolding source
  from_source h = by (ltb k r) (ltb k s.begin) (ltb k (s.begin + s.number)) (ltb (k - r) s.number) refl refl refl refl
    where
      by : (p a b q : Bool) → ltb k r ≡ p → ltb k s.begin ≡ a → ltb k (s.begin + s.number) ≡ b → ltb (k - r) s.number ≡ q
          → From (cond p k (cond q (k - r + s.begin) (k - s.number)))
      by true true b q ep ea eb eq = from_before (ltb-true _ _ ea)
      by true false true q ep ea eb eq = from_average (ltb-false _ _ ea) (ltb-true _ _ eb)
      by true false false q ep ea eb eq = from_between (ltb-false _ _ eb) (ltb-true _ _ ep)
      by false a b true ep ea eb eq = let l = ltb-false k r ep in let t = ltb-true (k - r) s.number eq in from_residual l (omega arith)
      by false a b false ep ea eb eq = let l = ltb-false k r ep in let t = ltb-false (k - r) s.number eq in from_after (omega arith) h

-- ---- channels: c is one that entry k can be made of
pub record Made (s : Step) (cs : List Channel) (r k : ℕ) (c : Channel) : Type 0 where
  pub allowed : entry_allowed s r k c ≡ true
  pub is : entry s r k c ≡ channel_of (stepped s cs) k

module _ (s : Step) (cs : List Channel) (ok : StepAccepted s cs) (r : ℕ) (er : r ≡ residuals_at s cs) (k : ℕ) (h : k < length cs + s.number) where
  abbrev from : From (average s.horizontal) (residual s.horizontal) s cs ok.inside r er k no_channel (source s r k)
  from = from_source _ _ s cs ok.inside r er k no_channel h

  made_source : Made s cs r k (channel_of cs (source s r k))
  unfolding entry entry_allowed stepped
  made_source = record { allowed = by (is_part s r k) refl; is = from.is }
    where
      by : (p : Bool) → is_part s r k ≡ p → cond p (shifts_kept s.horizontal (channel_of cs (source s r k))) true ≡ true
      by true e = let w = from.squeezed e in range_each s cs ok.inside (shifts_kept s.horizontal) ok.kept (source s r k) _ w.0 w.1
      by false e = refl

-- ---- origins: each is that of what the entry is made of
pub origin_source : (s : Step) (os : List ℕ) (inside : s.begin + s.number ≤ length os) (r : ℕ) → r ≡ residuals_at s os → (k : ℕ) → k < length os + s.number
    → (source s r k < length os) × (get_or os (source s r k) 0 ≡ get_or (stepped_origins s os) k 0)
unfolding stepped_origins
origin_source s os inside r er k h =
    let e = from_source (λ o. o) (λ o. o) s os inside r er k 0 h in
    (e.within, by (is_inside s.begin s.number k) (is_inside r s.number k) (get_or os (source s r k) 0) ∙ e.is)
  where
    by : (p q : Bool) (o : ℕ) → o ≡ cond p o (cond q o o)
    by true q o = refl
    by false true o = refl
    by false false o = refl

-- the code's r, its index j and what it found there, in its loop over k up to n
module _ (s : Step) (l : ChannelList) (ok : StepAccepted s (channels l)) (r : ℕ) (er : r ≡ cond s.inplace (s.begin + s.number) (min l.count max_channels))
    (k n : ℕ) (h : k < n) (en : n ≡ min l.count max_channels + s.number) (j : ℕ) (ej : j ≡ source s r k) where
  pub made_of : (c : Channel) → c ≡ channel_at l j → Made s (channels l) r k c
  made_of c ec =
      let e = channels_length l in
      let er' = er ∙ ap (cond s.inplace (s.begin + s.number)) (sym e) in
      let w = (from s (channels l) ok r er' k (omega arith)).within in
      rw (found_at l (source s r k) c w (ec ∙ ap (channel_at l) ej)) (made_source s (channels l) ok r er' k (omega arith))

  pub origin_of : (o : ℕ) → o ≡ get_or l.origins j 0 → o ≡ get_or (stepped_origins s (origins l)) k 0
  origin_of o eo =
      let e = origins_length l in
      let c = channels_length l in
      let i = ok.inside in
      let f = origin_source s (origins l) (omega arith) r (er ∙ ap (cond s.inplace (s.begin + s.number)) (sym e)) k (omega arith) in
      eo ∙ ap (λ (i : ℕ). get_or l.origins i 0) ej ∙ origins_at l (source s r k) f.0 ∙ f.1
