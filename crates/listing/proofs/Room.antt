-- How long a listing can be: a line takes at most its room (specs/Putting.antt), and there are at most 64 steps and 256 channels. So `listing_room`
-- holds the listing of every accepted record. Assumes nothing.
use mathlib.Core.Path.{◌≡◌, refl}
use mathlib.Core.Bool.{Bool, true, false, cond, and-eq-true_iff}
use mathlib.Core.List.{List, [], ◌∷◌, ◌++◌}
use Prim.Native.Nat.{ℕ, ◌+◌, ◌*◌, ◌≤◌}
use native.Mathlib.Nat.{mul-zero, mul-suc}
use native.Mathlib.Omega.{arith}
use lib.ListN.{length, length-append}
use Rattle.channel.specs.declared.Channel.{Channel}
use Rattle.channel.specs.Channel.{is_meta, shifts_allowed, sides_fit}
use Rattle.channel.proofs.Shifts.{plain_shifts}
use Rattle.list.specs.declared.Step.{Step}
use Rattle.list.specs.Tables.{all}
use Rattle.list.specs.Lists.{max_channels, max_steps}
use Rattle.list.specs.Accepted.{Accepted}
use Rattle.list.proofs.Acceptance.{allowed_both}
use Rattle.plan.specs.Version.{rule_of}
use Rattle.plan.specs.Coarse.{coarse_count}
use Rattle.plan.proofs.Runs.{plan_accepted}
use Rattle.record.specs.Bytes.{joined}
use Rattle.record.specs.Records.{read_answer, version_of, channels_of, steps_of, reached_of}
use Rattle.record.proofs.Readings.{channels_accepted, steps_judged, steps_few}
use Rattle.listing.specs.Text.{space, newline, steps_word, channels_word, coarse_word, step_line, channel_line, direction_word, place_word, shift_words, two, meta_word, numbered, decimal}
use Rattle.listing.specs.Listing as Listing
use Rattle.listing.specs.Listing.{plan_text, listing}
use Rattle.listing.specs.Putting.{number_room, step_room, channel_room, direction_room, place_room, shifts_room, listing_room}
use Rattle.listing.proofs.Digits.{decimal_length, two_room_lem, shifts_room_lem}

-- ---- one line
direction_room_lem : (h : Bool) → length (direction_word h) ≤ direction_room
direction_room_lem true = omega arith
direction_room_lem false = omega arith

place_room_lem : (i : Bool) → length (place_word i) ≤ place_room
place_room_lem true = omega arith
place_room_lem false = omega arith

step_room_lem : (s : Step) → length (step_line s) ≤ step_room
unfolding step_line
step_room_lem s =
    let d = direction_word s.horizontal in
    let p = place_word s.inplace in
    let t = two s.begin s.number in
    omega (
      arith,
      length-append d (p ++ (t ++ (newline ∷ []))),
      length-append p (t ++ (newline ∷ [])),
      length-append t (newline ∷ []),
      direction_room_lem s.horizontal,
      place_room_lem s.inplace,
      two_room_lem s.begin s.number,
    )

words_room : (c : Channel) → shifts_allowed c ≡ true → length (shift_words c) ≤ shifts_room
words_room c a = go (is_meta c) refl
  where
    go : (m : Bool) → is_meta c ≡ m → length (cond m meta_word (two c.hshift c.vshift)) ≤ shifts_room
    go true e = omega arith
    go false e = let s = plain_shifts c a e in shifts_room_lem c.hshift c.vshift (omega arith) (omega arith)

channel_room_lem : (c : Channel) → shifts_allowed c ≡ true → length (channel_line c) ≤ channel_room
unfolding channel_line
channel_room_lem c a =
    let t = two c.width c.height in
    let w = shift_words c in
    omega (arith, length-append t (space ∷ (w ++ (newline ∷ []))), length-append w (newline ∷ []), two_room_lem c.width c.height, words_room c a)

pub numbered_room : (word : List ℕ) (n : ℕ) → length (numbered word n) ≤ length word + number_room + 1
numbered_room word n = rw length-append (omega (arith, decimal_length n, length-append (decimal n) (newline ∷ [])))

-- ---- all lines
lines_room {ℓ} : {A : Type ℓ} (line : A → List ℕ) (p : A → Bool) (room : ℕ) → ((x : A) → p x ≡ true → length (line x) ≤ room) → (xs : List A) → all p xs ≡ true
    → length (joined line xs) ≤ room * length xs
lines_room line p room h [] a = omega (arith, mul-zero room)
lines_room line p room h (x ∷ xs) a =
    let b = (and-eq-true_iff (p x) (all p xs)).0 a in
    rw length-append (omega (arith, h x b.0, lines_room line p room h xs b.1, mul-suc room (length xs)))

every {ℓ} : {A : Type ℓ} (xs : List A) → all (λ _. true) xs ≡ true
every [] = refl
every (x ∷ xs) = every xs

pub plan_room : (version : ℕ) (ss : List Step) (cs : List Channel) → length ss ≤ max_steps → length cs ≤ max_channels → all shifts_allowed cs ≡ true
    → length (plan_text version ss cs) ≤ listing_room
unfolding plan_text
plan_room version ss cs few count allowed =
    let s = lines_room step_line (λ _. true) step_room (λ x _. step_room_lem x) ss (every ss) in
    let c = lines_room channel_line shifts_allowed channel_room channel_room_lem cs allowed in
    let sl = joined step_line ss in
    let cl = joined channel_line cs in
    let sn = numbered steps_word (length ss) in
    let cn = numbered channels_word (length cs) in
    let on = numbered coarse_word (coarse_count (rule_of version).stop cs) in
    omega (
      arith,
      length-append sn (sl ++ (cn ++ (cl ++ on))),
      length-append sl (cn ++ (cl ++ on)),
      length-append cn (cl ++ on),
      length-append cl on,
      numbered_room steps_word (length ss),
      numbered_room channels_word (length cs),
      numbered_room coarse_word (coarse_count (rule_of version).stop cs),
    )

reached_accepted : (bytes : List ℕ) → read_answer bytes ≡ 0 → Accepted (reached_of bytes)
reached_accepted bytes z = plan_accepted (steps_of bytes) (channels_of bytes) (channels_accepted bytes z) (steps_judged bytes z)

-- the sides of the list that an accepted record's steps leave
pub reached_sides : (bytes : List ℕ) → read_answer bytes ≡ 0 → all sides_fit (reached_of bytes) ≡ true
reached_sides bytes z = (allowed_both (reached_of bytes) (reached_accepted bytes z).allowed).1

pub listing_room_lem : (bytes : List ℕ) → read_answer bytes ≡ 0 → length (listing bytes) ≤ listing_room
unfolding Listing.listing
listing_room_lem bytes z =
    let a = reached_accepted bytes z in
    rw z (plan_room (version_of bytes) (steps_of bytes) (reached_of bytes) (steps_few bytes z) a.few (allowed_both (reached_of bytes) a.allowed).0)
