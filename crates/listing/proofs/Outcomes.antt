-- What a listing comes to (specs/Listing.antt), by the answers that the code has found on the way. Assumes nothing.
use mathlib.Core.Path.{◌≡◌, refl, ◌∙◌}
use mathlib.Core.Bool.{true, false, ◌&&◌, and-eq-true_iff}
use mathlib.Core.List.{List, [], ◌∷◌}
use Prim.Native.Nat.{ℕ, ◌≤◌}
use native.Mathlib.Nat.{zero-add}
use native.Mathlib.Omega.{arith}
use lib.Dec.{leb}
use lib.ListN.{length, take, drop, set}
use borrow.Author.Tests.{ne_eqb, leb-true}
use Rattle.numbers.specs.Numbers.{refused_length}
use Rattle.list.specs.declared.ChannelList.{ChannelList}
use Rattle.list.specs.Lists.{max_channels, channels}
use Rattle.list.proofs.Channels.{channels_length}
use Rattle.plan.specs.Version.{rule_of}
use Rattle.plan.specs.Coarse.{coarse_count}
use Rattle.plan.proofs.Coarse.{count_laws}
use Rattle.record.specs.Bytes.{placed}
use Rattle.record.specs.Records.{read_answer, version_of, steps_of, reached_of}
use Rattle.listing.specs.Text.{numbered, refused_word}
use Rattle.listing.specs.Listing.{lines_text, plan_text, listing, list_answer, text_after, size_after, judged_bytes, printed, printed_over}

-- ---- both slices have room
pub room_left : (n text size : ℕ) → leb n text && leb 1 size ≡ true → (n ≤ text) × (1 ≤ size)
room_left n text size h =
    let b = (and-eq-true_iff (leb n text) (leb 1 size)).0 h in
    (leb-true _ _ b.0, leb-true _ _ b.1)

-- ---- the listing of a record that is accepted, by the steps that are meant and the list that they leave
pub listing_read : (bytes : List ℕ) → read_answer bytes ≡ 0
    → listing bytes ≡ lines_text (steps_of bytes) (reached_of bytes) (coarse_count (rule_of (version_of bytes)).stop (reached_of bytes))
unfolding listing plan_text
listing_read bytes z = rw z

-- coarse channels are channels of the list
pub coarse_within : (stop : ℕ) (l : ChannelList) → coarse_count stop (channels l) ≤ max_channels
coarse_within stop l = omega (arith, (count_laws stop (channels l)).counts.within, channels_length l)

pub listing_refused : (bytes : List ℕ) (a : ℕ) → a ≡ read_answer bytes → (a ≡ 0 → ⊥) → numbered refused_word a ≡ listing bytes
unfolding listing
listing_refused bytes a e h = rw (← e, ne_eqb a 0 h)

-- ---- the call, where the record has the answer a
module _ (bytes text size : List ℕ) where
  abbrev Ends : ℕ → List ℕ → List ℕ → Type 0
  Ends a t n = (a ≡ list_answer bytes text size) × (t ≡ text_after bytes text size) × (n ≡ size_after bytes text size)

  pub list_refused : (a : ℕ) → a ≡ read_answer bytes → (a ≡ 0 → ⊥) → Ends a text size
  unfolding list_answer text_after size_after
  list_refused a e h =
      let t = ne_eqb a 0 h in
      (rw (← e, t), rw (← e, t, t), rw (← e, t, t))

  -- the listing's length is n
  module _ (r : read_answer bytes ≡ 0) (n : ℕ) (en : n ≡ length (listing bytes)) where
    pub list_short : leb n (length text) && leb 1 (length size) ≡ false → Ends refused_length text size
    unfolding list_answer text_after size_after
    list_short h =
        let t = rw en at h in
        (rw (r, t), rw (r, t), rw (r, t))

    pub list_whole : leb n (length text) && leb 1 (length size) ≡ true → (after : List ℕ) → after ≡ placed text 0 (listing bytes)
        → Ends 0 after (set size 0 n)
    unfolding list_answer text_after size_after
    list_whole h after so =
        let t = rw en at h in
        (rw (r, t), rw (r, t) (so ∙ rw zero-add), rw (r, t) (first size (room_left n (length text) (length size) h).1 ∙ rw en))
      where
        first : (xs : List ℕ) → 1 ≤ length xs → set xs 0 n ≡ n ∷ drop 1 xs
        first [] l = absurd (omega arith)
        first (x ∷ xs) l = refl

-- ---- the program's text: `judged` is what was listed
module _ (input judged text after : List ℕ) (is : judged ≡ take judged_bytes input) (so : after ≡ placed text 0 (listing judged)) where
  pub printed_so : (length (listing judged) ≡ length (printed input)) × (after ≡ printed_over input text)
  unfolding printed printed_over
  printed_so = rw (← is) (refl, so ∙ rw zero-add)
