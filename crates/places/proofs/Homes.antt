-- What is laid one after the other from the front of an array: what is laid so far and what is left make all of it. Assumes nothing.
use mathlib.Core.Path.{◌≡◌, refl, sym, ap, ◌∙◌}
use mathlib.Core.Bool.{Bool, true, false}
use mathlib.Core.List.{List, [], ◌∷◌, ◌++◌, append_assoc, append-nil}
use Prim.Native.Nat.{ℕ, zero, suc, ◌+◌, ◌-◌, ◌*◌, ◌<◌, ◌≤◌, min}
use native.Mathlib.Omega.{arith}
use native.Mathlib.Numerals.{add-one}
use lib.Dec.{ltb}
use lib.ListN.{length, get_or, take, drop, set, replicate, length-set, length-replicate, length-drop, length-append, take-append-drop, get_or-append, get_or-eq_default}
use lib.Seq.{take-suc-set, drop-set-lt, drop-drop, ext_get_or, get_or-drop, get_or-take, length-take-le, take_at}
use borrow.Author.Tests.{ltb-true, ltb-false}
use Rattle.std.proofs.lemmas.List.{get_or-append_right, get_or-replicate}
use Rattle.channel.specs.Channel.{samples}
use Rattle.list.specs.declared.ChannelList.{ChannelList}
use Rattle.list.specs.Tables.{table, padded}
use Rattle.list.specs.Lists.{max_channels, channel_at, channels}
use Rattle.list.proofs.Tables.{table_length, table_at}
use Rattle.places.specs.declared.Place.{Place}
use Rattle.places.specs.Places.{unmade, behind, starts_from, places_from, none, place_of}
use Rattle.places.proofs.Arrays.{starts_length}
use Rattle.places.proofs.First.{from_length}

module _ {A : Type 0} (g : ℕ → ℕ → A) (f : ℕ → ℕ) where
  -- n entries from entry k on, where k lies at `at`: entry k is made by g of its start, and has f k samples
  abbrev pub laid : ℕ → ℕ → ℕ → List A
  laid at k zero = []
  laid at k (suc n) = g k at ∷ laid (behind at (f k)) (suc k) n

  -- the first k entries of n laid in an array, the next at `at`; what the array held before
  pub record Laying (n : ℕ) (held xs : List A) (at k : ℕ) : Type 0 where
    pub long : length xs ≡ length held
    pub done : take k xs ++ laid at k (n - k) ≡ laid 0 0 n
    pub left : drop k xs ≡ drop k held

  module _ (n : ℕ) (held xs : List A) (at k : ℕ) (w : Laying n held xs at k) where
    pub laying_more : (x : A) (next : ℕ) → k < n → n ≤ length held → x ≡ g k at → next ≡ behind at (f k) → Laying n held (set xs k x) next (k + 1)
    laying_more x next h l ex e =
        let b : k < length xs = (let i = w.long in omega arith) in
        let t : take (k + 1) (set xs k x) ≡ take k xs ++ (x ∷ []) = rw (add-one k) (take-suc-set xs k x b) in
        let rest = laid next (k + 1) (n - (k + 1)) in
        let o : k < k + 1 = omega arith in
        let c : n - k ≡ suc (n - (k + 1)) = omega arith in
        let s : laid at k (n - k) ≡ x ∷ rest = rw (c, e, ex, add-one k) in
        record {
          long = length-set xs k x ∙ w.long;
          done = ap (λ (l : List A). l ++ rest) t ∙ append_assoc (take k xs) (x ∷ []) rest ∙ ap (λ (l : List A). take k xs ++ l) (sym s) ∙ w.done;
          left = drop-set-lt (k + 1) xs k x o ∙ sym (drop-drop 1 k xs) ∙ ap (drop 1) w.left ∙ drop-drop 1 k held;
        }

    pub laying_all : n ≤ k → k ≤ n → xs ≡ laid 0 0 n ++ drop n held
    laying_all h l =
        let z : k ≡ n = omega arith in
        let y : n - k ≡ 0 = omega arith in
        let d = rw (y, append-nil (take k xs)) at w.done in
        sym (take-append-drop k xs) ∙ ap (λ (l : List A). l ++ drop k xs) d ∙ ap (λ (l : List A). laid 0 0 n ++ l) (w.left ∙ ap (λ (m : ℕ). drop m held) z)

-- ---- starts, and zeros after them
abbrev pub start_at : ℕ → ℕ → ℕ
start_at k at = at

laid_starts : (f : ℕ → ℕ) (at k n : ℕ) → laid start_at f at k n ≡ starts_from at (table f k n)
laid_starts f at k zero = refl
laid_starts f at k (suc n) = ap (λ (ns : List ℕ). at ∷ ns) (laid_starts f (behind at (f k)) (suc k) n)

padded_entry : (ns : List ℕ) (n k : ℕ) → length ns ≡ n → k < max_channels
    → get_or (ns ++ drop n (replicate max_channels 0)) k 0 ≡ get_or (padded max_channels ns) k 0
padded_entry ns n k e h =
    let z : 0 + k ≡ k = omega arith in
    go (ltb k n) refl ∙ sym (table_at (λ j. get_or ns j 0) 0 max_channels k 0 h ∙ ap (λ (j : ℕ). get_or ns j 0) z)
  where
    go : (t : Bool) → ltb k n ≡ t → get_or (ns ++ drop n (replicate max_channels 0)) k 0 ≡ get_or ns k 0
    go true w = let l = ltb-true k n w in get_or-append ns _ 0 k (omega arith)
    go false w =
        let l = ltb-false k n w in
        let z : n + (k - n) ≡ k = omega arith in
        get_or-append_right ns _ n k 0 e l ∙ get_or-drop n (replicate max_channels 0) (k - n) 0 ∙ rw z (get_or-replicate max_channels k 0 0 h)
        ∙ sym (get_or-eq_default ns 0 (omega arith))

pub starts_padded : (f : ℕ → ℕ) (n : ℕ) → n ≤ max_channels
    → laid start_at f 0 0 n ++ drop n (replicate max_channels 0) ≡ padded max_channels (starts_from 0 (table f 0 n))
starts_padded f n h =
    let s = starts_length 0 (table f 0 n) ∙ table_length f 0 n in
    let zeros : List ℕ = replicate max_channels 0 in
    let r : length zeros ≡ max_channels = length-replicate {A = ℕ} max_channels 0 in
    let d = length-drop n zeros in
    let a = length-append (starts_from 0 (table f 0 n)) (drop n zeros) in
    let t = table_length (λ k. get_or (starts_from 0 (table f 0 n)) k 0) 0 max_channels in
    rw (laid_starts f 0 0 n)
    (ext_get_or 0 _ _ (omega arith) (λ k b. padded_entry (starts_from 0 (table f 0 n)) n k s (omega arith)))

-- ---- the places of a list
abbrev pub new_place : ChannelList → ℕ → ℕ → Place
new_place l k at = record { width = get_or l.widths k 0; height = get_or l.heights k 0; home = at; slot = unmade }

abbrev pub new_area : ChannelList → ℕ → ℕ
new_area l k = get_or l.widths k 0 * get_or l.heights k 0

laid_places : (l : ChannelList) (at k n : ℕ) → laid (new_place l) (new_area l) at k n ≡ places_from at (table (channel_at l) k n)
unfolding samples
laid_places l at k zero = refl
laid_places l at k (suc n) = ap (λ (ps : List Place). new_place l k at ∷ ps) (laid_places l (behind at (new_area l k)) (suc k) n)

-- the first n entries of an array
first_entries : (ps : List Place) (n : ℕ) → n ≤ length ps → table (place_of ps) 0 n ≡ take n ps
first_entries ps n h =
    let t = table_length (place_of ps) 0 n in
    let l = length-take-le n ps h in
    ext_get_or none _ _ (omega arith)
    (λ k b.
    let z : 0 + k ≡ k = omega arith in
    table_at (place_of ps) 0 n k none (omega arith) ∙ ap (place_of ps) z ∙ sym (get_or-take n ps k none (omega arith)))

pub places_laid : (l : ChannelList) (n : ℕ) (held ps : List Place) → n ≡ min l.count max_channels → n ≤ length ps
    → ps ≡ laid (new_place l) (new_area l) 0 0 n ++ drop n held
    → table (place_of ps) 0 n ≡ places_from 0 (channels l)
unfolding channels
places_laid l n held ps e h w =
    let p = laid_places l 0 0 n in
    let k = table_length (channel_at l) 0 n in
    first_entries ps n h ∙ rw w (take_at (laid (new_place l) (new_area l) 0 0 n) (drop n held) n (ap length p ∙ from_length 0 (table (channel_at l) 0 n) ∙ k))
    ∙ p ∙ ap (λ (m : ℕ). places_from 0 (table (channel_at l) 0 m)) e
