-- Slices cut into one part a channel and put together again (specs/Parts.antt): parts of the right lengths (`Shaped`) and slices of a list's
-- total are the same thing, and 32-bit samples stay so. Assumes nothing.
use mathlib.Core.Path.{◌≡◌, refl, sym, ap}
use mathlib.Core.List.{List, [], ◌∷◌, ◌++◌, append_assoc}
use Prim.Native.Nat.{ℕ, suc, ◌<◌}
use native.Mathlib.Omega.{arith}
use lib.IntN.{ℤ, pos}
use lib.ListN.{length, get_or, take, drop, length-append, length-drop, take-append-drop}
use lib.Seq.{take_at, drop_at, length-take-le}
use Rattle.std.specs.List.{All, AllZip}
use Rattle.std.proofs.lemmas.List.Elements.{All-nil, All-cons, All-head, All-tail, All-from_get_or, All-append, All-take, All-drop}
use Rattle.arith32.specs.Arith.{Sample}
use Rattle.channel.specs.declared.Channel.{Channel}
use Rattle.channel.specs.Channel.{samples}
use Rattle.list.specs.Lists.{total}
use Rattle.list.specs.Questions.{channel_of}
use Rattle.line.specs.Forward.{Samples}
use Rattle.runs.specs.Parts.{parts, joined}

-- one part for each channel, as long as the channel has samples
abbrev pub Shaped : List Channel → List (List ℤ) → Type 0
Shaped cs ps = AllZip (λ c p. length p ≡ samples c) cs ps

-- all parts hold 32-bit samples
abbrev pub AllSamples : List (List ℤ) → Type 0
AllSamples ps = All Samples ps

pub shaped_length : (cs : List Channel) (ps : List (List ℤ)) → Shaped cs ps → length ps ≡ length cs
shaped_length [] [] h = refl
shaped_length [] (p ∷ ps) h = absurd h
shaped_length (c ∷ cs) [] h = absurd h
shaped_length (c ∷ cs) (p ∷ ps) h = ap suc (shaped_length cs ps h.1)

pub shaped_by : (cs : List Channel) (ps : List (List ℤ)) → length ps ≡ length cs → ((k : ℕ) → k < length cs → length (get_or ps k []) ≡ samples (channel_of cs k)) → Shaped cs ps
shaped_by [] [] e f = tt
shaped_by [] (p ∷ ps) e f = absurd (omega arith)
shaped_by (c ∷ cs) [] e f = absurd (omega arith)
shaped_by (c ∷ cs) (p ∷ ps) e f = (f 0 (omega arith), shaped_by cs ps (omega arith) (λ k h. f (suc k) (omega arith)))

pub joined_length : (cs : List Channel) (ps : List (List ℤ)) → Shaped cs ps → length (joined ps) ≡ total cs
joined_length [] [] h = refl
joined_length [] (p ∷ ps) h = absurd h
joined_length (c ∷ cs) [] h = absurd h
joined_length (c ∷ cs) (p ∷ ps) h =
    let l = length-append p (joined ps) in
    let r = joined_length cs ps h.1 in
    let e = h.0 in
    omega arith

pub parts_shaped : (cs : List Channel) (xs : List ℤ) → length xs ≡ total cs → Shaped cs (parts cs xs)
parts_shaped [] xs e = tt
parts_shaped (c ∷ cs) xs e =
    let d = length-drop (samples c) xs in
    (length-take-le (samples c) xs (omega arith), parts_shaped cs (drop (samples c) xs) (omega arith))

pub joined_parts : (cs : List Channel) (xs : List ℤ) → length xs ≡ total cs → joined (parts cs xs) ≡ xs
joined_parts [] [] e = refl
joined_parts [] (x ∷ xs) e = absurd (omega arith)
joined_parts (c ∷ cs) xs e =
    let d = length-drop (samples c) xs in
    let r : length (drop (samples c) xs) ≡ total cs = omega arith in
    rw (joined_parts cs (drop (samples c) xs) r) (take-append-drop (samples c) xs)

pub parts_joined : (cs : List Channel) (ps : List (List ℤ)) → Shaped cs ps → parts cs (joined ps) ≡ ps
parts_joined [] [] h = refl
parts_joined [] (p ∷ ps) h = absurd h
parts_joined (c ∷ cs) [] h = absurd h
parts_joined (c ∷ cs) (p ∷ ps) h =
    rw (take_at p (joined ps) (samples c) h.0, drop_at p (joined ps) (samples c) h.0, parts_joined cs ps h.1)

pub joined_append : (ps qs : List (List ℤ)) → joined (ps ++ qs) ≡ joined ps ++ joined qs
joined_append [] qs = refl
joined_append (p ∷ ps) qs = rw (joined_append ps qs) (sym (append_assoc p (joined ps) (joined qs)))

-- ---- parts of a list put together of two
pub shaped_append : (cs ds : List Channel) (ps qs : List (List ℤ)) → Shaped cs ps → Shaped ds qs → Shaped (cs ++ ds) (ps ++ qs)
shaped_append [] ds [] qs h k = k
shaped_append [] ds (p ∷ ps) qs h k = absurd h
shaped_append (c ∷ cs) ds [] qs h k = absurd h
shaped_append (c ∷ cs) ds (p ∷ ps) qs h k = (h.0, shaped_append cs ds ps qs h.1 k)

pub shaped_front : (cs ds : List Channel) (ps : List (List ℤ)) → Shaped (cs ++ ds) ps → Shaped cs (take (length cs) ps)
shaped_front [] ds ps h = tt
shaped_front (c ∷ cs) ds [] h = absurd h
shaped_front (c ∷ cs) ds (p ∷ ps) h = (h.0, shaped_front cs ds ps h.1)

pub shaped_back : (cs ds : List Channel) (ps : List (List ℤ)) → Shaped (cs ++ ds) ps → Shaped ds (drop (length cs) ps)
shaped_back [] ds ps h = h
shaped_back (c ∷ cs) ds [] h = absurd h
shaped_back (c ∷ cs) ds (p ∷ ps) h = shaped_back cs ds ps h.1

-- ---- samples
all_of : (xs : List ℤ) → Samples xs → All Sample xs
all_of xs f = All-from_get_or Sample xs (pos 0) f

pub samples_append : (xs ys : List ℤ) → Samples xs → Samples ys → Samples (xs ++ ys)
samples_append xs ys f g i h = All-append Sample xs ys (all_of xs f) (all_of ys g) i (pos 0) h

pub parts_samples : (cs : List Channel) (xs : List ℤ) → Samples xs → AllSamples (parts cs xs)
parts_samples [] xs f = All-nil Samples
parts_samples (c ∷ cs) xs f =
    All-cons Samples (take (samples c) xs) (parts cs (drop (samples c) xs))
    (λ i h. All-take Sample (samples c) xs (all_of xs f) i (pos 0) h)
    (parts_samples cs (drop (samples c) xs) (λ i h. All-drop Sample (samples c) xs (all_of xs f) i (pos 0) h))

pub joined_samples : (ps : List (List ℤ)) → AllSamples ps → Samples (joined ps)
joined_samples [] f = λ i h. absurd (omega arith)
joined_samples (p ∷ ps) f = samples_append p (joined ps) (All-head Samples p ps f) (joined_samples ps (All-tail Samples p ps f))
