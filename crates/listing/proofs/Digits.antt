-- The decimal digits of a number (`digits_upto` of specs/Text.antt) are those that the library prints; which number they stand for, and how many
-- they are. Assumes nothing.
use mathlib.Core.Path.{◌≡◌, refl, ap, ◌∙◌}
use mathlib.Core.List.{List, [], ◌∷◌, ◌++◌}
use mathlib.Core.Bool.{Bool, true, false, cond, and-eq-true_iff}
use Prim.Native.Nat.{ℕ, zero, suc, ◌+◌, ◌-◌, ◌*◌, ◌/◌, ◌%◌, ◌^◌, ◌<◌, ◌≤◌}
use native.Mathlib.Nat.{pow-succ'}
use native.Mathlib.Omega.{arith}
use borrow.Author.Tests.{ltb-true, ltb-false, lt-ltb, leb-true}
use lib.Dec.{ltb, leb}
use lib.ListN.{length, length-append}
use Rattle.std.specs.Fmt.{decimal as printed}
use Rattle.std.proofs.lemmas.Fmt.{decimal_digit, decimal_step}
use Rattle.numbers.specs.declared.Refusal.{Refusal}
use Rattle.numbers.specs.declared.Refusal.TheVariants.{Outside, Field, Count, Form, Samples, Default, Range, Kinds, Place, Empty, Room, Sizes, Tile, Length}
use Rattle.numbers.specs.Numbers.{max_side, number_of}
use Rattle.channel.specs.declared.Channel.{Channel}
use Rattle.channel.specs.Channel.{sides_fit}
use Rattle.listing.specs.Text.{number_places, digit, digits_upto, decimal, value_from, two}
use Rattle.listing.specs.Putting.{number_room, number_limit, two_room, shifts_room}

-- ---- they are the digits that the library prints
printed_upto : (places n : ℕ) → n < 10 ^ suc places → n < 2 ^ 64 → printed n ≡ digits_upto (suc places) n
printed_upto zero n h small = let one : n < 10 = omega (arith, pow-succ' 10 0) in rw (lt-ltb n 10 one) (decimal_digit n one)
printed_upto (suc places) n h small =
    let tenth : n / 10 < 10 ^ suc places = omega (arith, pow-succ' 10 (suc places)) in
    go (ltb n 10) refl (printed_upto places (n / 10) tenth (omega arith))
  where
    go : (b : Bool) → ltb n 10 ≡ b → printed (n / 10) ≡ digits_upto (suc places) (n / 10)
        → printed n ≡ cond b (digit n ∷ []) (digits_upto (suc places) (n / 10) ++ (digit (n % 10) ∷ []))
    go true e v = decimal_digit n (ltb-true n 10 e)
    go false e v = decimal_step n (ltb-false n 10 e) small ∙ ap (λ (l : List ℕ). l ++ (digit (n % 10) ∷ [])) v

pub printed_is_decimal : (n : ℕ) → n < number_limit → printed n ≡ decimal n
unfolding decimal
printed_is_decimal n h = printed_upto 6 n h (omega arith)

-- ---- numbers below the limit
pub sides_small : (c : Channel) → sides_fit c ≡ true → (c.width < number_limit) × (c.height < number_limit)
unfolding sides_fit
sides_small c h =
    let b = (and-eq-true_iff (leb c.width max_side) (leb c.height max_side)).0 h in
    (omega (arith, leb-true _ _ b.0), omega (arith, leb-true _ _ b.1))

pub refusal_small : (r : Refusal) → number_of r < number_limit
refusal_small Outside = omega arith
refusal_small Field = omega arith
refusal_small Count = omega arith
refusal_small Form = omega arith
refusal_small Samples = omega arith
refusal_small Default = omega arith
refusal_small Range = omega arith
refusal_small Kinds = omega arith
refusal_small Place = omega arith
refusal_small Empty = omega arith
refusal_small Room = omega arith
refusal_small Sizes = omega arith
refusal_small Tile = omega arith
refusal_small Length = omega arith

-- ---- the number that they stand for: all of it, where the places are enough
value_last : (n : ℕ) (ds : List ℕ) (d : ℕ) → value_from n (ds ++ (d ∷ [])) ≡ 10 * value_from n ds + (d - digit 0)
value_last n [] d = refl
value_last n (c ∷ ds) d = value_last (10 * n + (c - digit 0)) ds d

digits_value : (places n : ℕ) → n < 10 ^ places → value_from 0 (digits_upto places n) ≡ n
digits_value zero n h = omega arith
digits_value (suc places) n h =
    let tenth : n / 10 < 10 ^ places = omega (arith, pow-succ' 10 places) in
    go (ltb n 10) (digits_value places (n / 10) tenth)
  where
    go : (b : Bool) → value_from 0 (digits_upto places (n / 10)) ≡ n / 10
        → value_from 0 (cond b (digit n ∷ []) (digits_upto places (n / 10) ++ (digit (n % 10) ∷ []))) ≡ n
    go true v = omega arith
    go false v = value_last 0 (digits_upto places (n / 10)) (digit (n % 10)) ∙ rw v (omega arith)

pub decimal_value : (n : ℕ) → n < 10 ^ number_places → value_from 0 (decimal n) ≡ n
unfolding decimal
decimal_value n h = digits_value number_places n h

-- ---- how many they are
upto_length : (places n : ℕ) → length (digits_upto places n) ≤ places
upto_length zero n = omega arith
upto_length (suc places) n = go (ltb n 10) (upto_length places (n / 10))
  where
    go : (b : Bool) → length (digits_upto places (n / 10)) ≤ places → length (cond b (digit n ∷ []) (digits_upto places (n / 10) ++ (digit (n % 10) ∷ []))) ≤ suc places
    go true h = omega arith
    go false h = rw length-append (omega arith)

-- at most one more than those of the tenth part
next_length : (places n k : ℕ) → 1 ≤ k → (10 ≤ n → length (digits_upto places (n / 10)) ≤ k) → length (digits_upto (suc places) n) ≤ suc k
next_length places n k some h = go (ltb n 10) refl
  where
    go : (b : Bool) → ltb n 10 ≡ b → length (cond b (digit n ∷ []) (digits_upto places (n / 10) ++ (digit (n % 10) ∷ []))) ≤ suc k
    go true e = omega arith
    go false e = rw length-append (omega (arith, h (ltb-false n 10 e)))

one_length : (places n : ℕ) → n < 10 → length (digits_upto (suc places) n) ≤ 1
one_length places n h = rw (lt-ltb n 10 h) (omega arith)

pub decimal_length : (n : ℕ) → length (decimal n) ≤ number_room
unfolding decimal
decimal_length n = upto_length number_places n

pub three_length : (n : ℕ) → n < 1000 → length (decimal n) ≤ 3
unfolding decimal
three_length n h =
    next_length 6 n 2 (omega arith) (λ l. next_length 5 (n / 10) 1 (omega arith) (λ m. one_length 4 (n / 10 / 10) (omega arith)))

-- two numbers with a space between them, and two shifts
pub two_length : (m n : ℕ) → length (two m n) ≡ length (decimal m) + 1 + length (decimal n)
two_length m n = rw length-append (omega arith)

pub two_room_lem : (m n : ℕ) → length (two m n) ≤ two_room
two_room_lem m n = omega (arith, two_length m n, decimal_length m, decimal_length n)

pub shifts_room_lem : (m n : ℕ) → m < 256 → n < 256 → length (two m n) ≤ shifts_room
shifts_room_lem m n a b = omega (arith, two_length m n, three_length m (omega arith), three_length n (omega arith))
