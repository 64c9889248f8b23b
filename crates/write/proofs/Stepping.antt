-- What the places hold after a step (`held` of specs/Standing.antt) is the step's parts (`forward_parts` of crate runs): an average lies at the front of
-- its channel's home, its residual behind it, and the other places hold what they held. Assumes nothing.
use mathlib.Core.Path.{◌≡◌, refl, sym, ap, ◌∙◌}
use mathlib.Core.Bool.{Bool, true, false, cond}
use mathlib.Core.List.{List, [], ◌∷◌, ◌++◌}
use Prim.Native.Nat.{ℕ, zero, suc, ◌+◌, ◌*◌, ◌<◌, ◌≤◌}
use native.Mathlib.Omega.{arith}
use native.Mathlib.Nat.{mul_comm}
use lib.IntN.{ℤ}
use lib.ListN.{length, get_or, take, drop, length-take, length-drop}
use lib.Seq.{get_or-take, get_or-drop, take_at, drop_at, drop-drop, take-take}
use Rattle.std.proofs.lemmas.List.{drop-take}
use Rattle.numbers.specs.Numbers.{max_samples}
use Rattle.channel.specs.declared.Channel.{Channel}
use Rattle.list.specs.declared.Step.{Step}
use Rattle.list.specs.Tables.{map}
use Rattle.list.specs.Lists.{range}
use Rattle.list.specs.Questions.{channel_of}
use Rattle.list.proofs.Entries.{length_range}
use Rattle.line.specs.Forward.{average_count}
use Rattle.places.specs.Places as Places
use Rattle.places.specs.declared.Place.{Place}
use Rattle.places.specs.Places.{area, average_place, residual_place, step_places, place_of, bare}
use Rattle.places.specs.Laid.{Laid, Sided, part}
use Rattle.places.proofs.Laid.{average_area, residual_home, laid_apart}
use Rattle.runs.specs.Runs as Runs
use Rattle.runs.specs.Runs.{channel_averages, channel_residuals, each, forward_parts}
use Rattle.runs.proofs.OneChannel.{averages_length, average_samples}
use Rattle.write.specs.Standing as Standing
use Rattle.write.specs.Standing.{lying, held, halves, other, Squeezed}

-- ---- front and back of a part
front_part : (at n m : ℕ) (xs : List ℤ) → part at n xs ≡ take n (part at (n + m) xs)
unfolding part
front_part at n m xs = sym (take-take n (n + m) (drop at xs) (omega arith))

back_part : (at n m : ℕ) (xs : List ℤ) → part (at + n) m xs ≡ drop n (part at (n + m) xs)
unfolding part
back_part at n m xs = rw (← drop-drop n at xs) (sym (drop-take n m (drop at xs)))

-- ---- lists under a function
module _ {ℓ κ} {A : Type ℓ} {B : Type κ} (f : A → B) where
  map_take : (n : ℕ) (xs : List A) → map f (take n xs) ≡ take n (map f xs)
  map_take zero xs = refl
  map_take (suc n) [] = refl
  map_take (suc n) (x ∷ xs) = ap (λ (l : List B). f x ∷ l) (map_take n xs)

  map_drop : (n : ℕ) (xs : List A) → map f (drop n xs) ≡ drop n (map f xs)
  map_drop zero xs = refl
  map_drop (suc n) [] = refl
  map_drop (suc n) (x ∷ xs) = map_drop n xs

  map_append : (xs ys : List A) → map f (xs ++ ys) ≡ map f xs ++ map f ys
  map_append [] ys = refl
  map_append (x ∷ xs) ys = ap (λ (l : List B). f x ∷ l) (map_append xs ys)

-- an entry of a part
pub part_at {ℓ} : {A : Type ℓ} (b n i : ℕ) (xs : List A) (d : A) → i < n → get_or (take n (drop b xs)) i d ≡ get_or xs (b + i) d
part_at b n i xs d h = get_or-take n (drop b xs) i d h ∙ get_or-drop b xs i d

map_same : (f g : Place → List ℤ) (ps : List Place) → ((k : ℕ) → k < length ps → f (place_of ps k) ≡ g (place_of ps k)) → map f ps ≡ map g ps
map_same f g [] e = refl
map_same f g (p ∷ ps) e = rw (e 0 (omega arith), map_same f g ps (λ k h. e (suc k) (omega arith)))

each_same : (f : Channel → List ℤ → List ℤ) (g : Place → Place) (new old : Place → List ℤ) (cs : List Channel) (ps : List Place) → length cs ≡ length ps
    → ((k : ℕ) → k < length ps → new (g (place_of ps k)) ≡ f (channel_of cs k) (old (place_of ps k))) → map new (map g ps) ≡ each f cs (map old ps)
each_same f g new old [] [] l e = refl
each_same f g new old [] (p ∷ ps) l e = absurd (omega arith)
each_same f g new old (c ∷ cs) [] l e = absurd (omega arith)
each_same f g new old (c ∷ cs) (p ∷ ps) l e = rw (e 0 (omega arith), each_same f g new old cs ps (omega arith) (λ k h. e (suc k) (omega arith)))

-- averages and residuals go by the sides alone
averages_sides : (h : Bool) (c d : Channel) (xs : List ℤ) → c.width ≡ d.width → c.height ≡ d.height → channel_averages h c xs ≡ channel_averages h d xs
unfolding Runs.channel_averages
averages_sides h c d xs a b = rw (a, b)

residuals_sides : (h : Bool) (c d : Channel) (xs : List ℤ) → c.width ≡ d.width → c.height ≡ d.height → channel_residuals h c xs ≡ channel_residuals h d xs
unfolding Runs.channel_residuals
residuals_sides h c d xs a b = rw (a, b)

-- ---- average and residual of a squeezed channel
module _ (h : Bool) (p : Place) (picture odds evens : List ℤ) (n : ℕ) (small : n ≤ max_samples) (inside : p.home + area p ≤ n)
    (avg res : List ℤ) (la : length avg ≡ area (average_place h p)) (e : lying picture odds evens (other p) ≡ avg ++ res) where
  average_lies : lying picture odds evens (average_place h p) ≡ avg
  unfolding Standing.lying
  average_lies =
      let a = average_area h p in
      let xs = Standing.slice_of picture odds evens (Places.turned p.slot) in
      front_part p.home (area (average_place h p)) (area (residual_place h p)) xs
      ∙ rw (a, e) (take_at avg res (area (average_place h p)) la)

  residual_lies : lying picture odds evens (residual_place h p) ≡ res
  unfolding Standing.lying
  residual_lies =
      let a = average_area h p in
      let r = residual_home n h p small inside in
      let xs = Standing.slice_of picture odds evens (Places.turned p.slot) in
      rw r (back_part p.home (area (average_place h p)) (area (residual_place h p)) xs
      ∙ rw (a, e) (drop_at avg res (area (average_place h p)) la))

-- ---- a step on all places
module _ (s : Step) (cs : List Channel) (ps : List Place) (inside : s.begin + s.number ≤ length ps) (sided : Sided cs ps)
    (picture odds evens odds' evens' : List ℤ) (small : length picture ≤ max_samples) (laid : Laid (length picture) ps)
    (w : Squeezed s.horizontal (place_of ps) s.begin (s.begin + s.number) picture odds evens odds' evens') where
  abbrev new : Place → List ℤ
  new = lying picture odds' evens'

  abbrev old : Place → List ℤ
  old = lying picture odds evens

  -- a place outside the range, whose home lies apart from the range's
  outside : (k : ℕ) → k < length ps → ((j : ℕ) → s.begin ≤ j → j < s.begin + s.number → k ≡ j → ⊥) → new (place_of ps k) ≡ old (place_of ps k)
  outside k l d = w.kept (place_of ps k) (laid.inside k l) (λ j a b. laid_apart (length picture) ps laid k j (d j a b) l (omega arith))

  before_same : map new (take s.begin ps) ≡ take s.begin (map old ps)
  before_same =
      map_same new old (take s.begin ps)
      (λ k h.
      let l = length-take s.begin ps in
      rw (get_or-take s.begin ps k _ (omega arith)) (outside k (omega arith) (λ j a b e. omega arith)))
      ∙ map_take old s.begin ps

  after_same : map new (drop (s.begin + s.number) ps) ≡ drop (s.begin + s.number) (map old ps)
  after_same =
      map_same new old (drop (s.begin + s.number) ps)
      (λ k h.
      let l = length-drop (s.begin + s.number) ps in
      rw (get_or-drop (s.begin + s.number) ps k _) (outside (s.begin + s.number + k) (omega arith) (λ j a b e. omega arith)))
      ∙ map_drop old (s.begin + s.number) ps

  -- the range: place and channel i of it
  abbrev ranged : List Place
  ranged = take s.number (drop s.begin ps)

  ranged_length : length ranged ≡ s.number
  ranged_length = length_range s ps inside

  range_length : length (range s cs) ≡ s.number
  range_length = let l = sided.long in length_range s cs (omega arith)

  module _ (i : ℕ) (h : i < s.number) where
    place_in : place_of ranged i ≡ place_of ps (s.begin + i)
    place_in = part_at s.begin s.number i ps _ h

    channel_in : channel_of (range s cs) i ≡ channel_of cs (s.begin + i)
    channel_in = part_at s.begin s.number i cs _ h

    abbrev p : Place
    p = place_of ps (s.begin + i)

    averages_fill : length (channel_averages s.horizontal (bare p) (old p)) ≡ area (average_place s.horizontal p)
    averages_fill = averages_length s.horizontal (bare p) (old p) ∙ average_samples s.horizontal (bare p) ∙ by s.horizontal
      where
        by : (b : Bool) → cond b p.height p.width * average_count (cond b p.width p.height) ≡ area (average_place b p)
        by true = mul_comm p.height (average_count p.width)
        by false = refl

    halves_lie : new (other p) ≡ channel_averages s.horizontal (bare p) (old p) ++ channel_residuals s.horizontal (bare p) (old p)
    unfolding Standing.halves
    halves_lie = w.own (s.begin + i) (omega arith) (omega arith)

    average_made : new (average_place s.horizontal p) ≡ channel_averages s.horizontal (channel_of cs (s.begin + i)) (old p)
    average_made =
        average_lies s.horizontal p picture odds' evens' (length picture) small (laid.inside (s.begin + i) (omega arith))
        (channel_averages s.horizontal (bare p) (old p)) (channel_residuals s.horizontal (bare p) (old p)) averages_fill halves_lie
        ∙ averages_sides s.horizontal (bare p) (channel_of cs (s.begin + i)) (old p) (sided.wide (s.begin + i) (omega arith)) (sided.high (s.begin + i) (omega arith))

    residual_made : new (residual_place s.horizontal p) ≡ channel_residuals s.horizontal (channel_of cs (s.begin + i)) (old p)
    residual_made =
        residual_lies s.horizontal p picture odds' evens' (length picture) small (laid.inside (s.begin + i) (omega arith))
        (channel_averages s.horizontal (bare p) (old p)) (channel_residuals s.horizontal (bare p) (old p)) averages_fill halves_lie
        ∙ residuals_sides s.horizontal (bare p) (channel_of cs (s.begin + i)) (old p) (sided.wide (s.begin + i) (omega arith)) (sided.high (s.begin + i) (omega arith))

  range_same : (f : Channel → List ℤ → List ℤ) (g : Place → Place)
      → ((i : ℕ) → i < s.number → new (g (place_of ps (s.begin + i))) ≡ f (channel_of cs (s.begin + i)) (old (place_of ps (s.begin + i))))
      → map new (map g ranged) ≡ each f (range s cs) (take s.number (drop s.begin (map old ps)))
  range_same f g e =
      let m = ranged_length in
      each_same f g new old (range s cs) ranged (range_length ∙ sym m)
      (λ i h. let l : i < s.number = omega arith in rw (place_in i l, channel_in i l) (e i l))
      ∙ rw (map_take old s.number (drop s.begin ps), map_drop old s.begin ps)

  pub held_step_lem : held picture odds' evens' (step_places s ps) ≡ forward_parts s cs (held picture odds evens ps)
  unfolding Places.step_places Runs.forward_parts
  held_step_lem =
      let h = s.horizontal in
      map_append new (take s.begin ps) _
      ∙ rw before_same
      (ap (λ (l : List (List ℤ)). take s.begin (map old ps) ++ l)
      (map_append new (map (average_place h) ranged) _
      ∙ rw (range_same (channel_averages h) (average_place h) average_made)
      (ap (λ (l : List (List ℤ)). each (channel_averages h) (range s cs) (take s.number (drop s.begin (map old ps))) ++ l) (order s.inplace))))
    where
      order : (b : Bool)
          → map new (cond b (map (residual_place s.horizontal) ranged ++ drop (s.begin + s.number) ps) (drop (s.begin + s.number) ps ++ map (residual_place s.horizontal) ranged))
          ≡ cond b
          (each (channel_residuals s.horizontal) (range s cs) (take s.number (drop s.begin (map old ps))) ++ drop (s.begin + s.number) (map old ps))
          (drop (s.begin + s.number) (map old ps) ++ each (channel_residuals s.horizontal) (range s cs) (take s.number (drop s.begin (map old ps))))
      order true = map_append new (map (residual_place s.horizontal) ranged) (drop (s.begin + s.number) ps) ∙ rw (range_same (channel_residuals s.horizontal) (residual_place s.horizontal) residual_made, after_same)
      order false = map_append new (drop (s.begin + s.number) ps) (map (residual_place s.horizontal) ranged) ∙ rw (range_same (channel_residuals s.horizontal) (residual_place s.horizontal) residual_made, after_same)
