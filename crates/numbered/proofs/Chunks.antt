-- Groups of numbers as the library's `as_chunks` gives them, beside the numbers' channels, flags and steps. Assumes nothing.
use mathlib.Core.Path.{◌≡◌, refl, sym, ap, ◌∙◌}
use mathlib.Core.Bool.{Bool, true, ◌&&◌, and-true}
use mathlib.Core.List.{List, [], ◌∷◌, ◌++◌}
use Prim.Native.Nat.{ℕ, zero, suc, ◌+◌, ◌*◌, ◌<◌, ◌≤◌}
use native.Mathlib.Nat.{mul-suc}
use native.Mathlib.Omega.{arith}
use lib.ListN.{length, get_or, take, drop}
use lib.Seq.{take_all, length-take-le, get_or-take, get_or-drop, drop-drop}
use lib.Dec.{leb}
use Rattle.std.specs.Simd.{first_chunks}
use Rattle.std.specs.List.{list_all}
use Rattle.std.proofs.lemmas.List.{take_more}
use borrow.Author.Tests.{lt-ltb}
use Rattle.channel.specs.declared.Channel.{Channel}
use Rattle.list.specs.declared.ChannelList.{ChannelList}
use Rattle.list.specs.declared.Step.{Step}
use Rattle.list.specs.Lists as Lists
use Rattle.list.specs.Lists.{max_channels, max_steps}
use Rattle.list.proofs.Maps.{map_length, map_at, all_at}
use Rattle.list.specs.Tables.{table, map, all}
use Rattle.plan.specs.declared.Steps.{Steps}
use Rattle.plan.specs.Steps as S
use Rattle.plan.specs.Steps.{flags_allowed}
use Rattle.plan.specs.Adding.{added}
use Rattle.plan.proofs.Flags.{three_ranged}
use Rattle.plan.proofs.Packed.{packed_count, pushed_packed}
use Rattle.record.proofs.Pushed.{map_snoc, list_pushed, list_count}
use Rattle.numbered.specs.Numbered as N
use Rattle.numbered.specs.Numbered.{channel_numbers, step_numbers, groups, channel_at, channels_of, flags_at, flags_of}
use Rattle.numbered.specs.Arrays.{shifts_fit, channels_in, flags_in, steps_in, step_by, held}

-- the library's test of every group
pub all_listed : {A : Type 0} {B : Type 0} (p : B → Bool) (f : A → B) (xs : List A) → list_all (λ x. p (f x)) xs ≡ all p (map f xs)
all_listed p f [] = refl
all_listed p f (x ∷ xs) = ap (λ (b : Bool). p (f x) && b) (all_listed p f xs)

pub flags_listed : (gs : List (List ℕ)) → list_all (λ g. leb (flags_at g 0) 3) gs ≡ all flags_allowed (flags_in gs)
flags_listed [] = refl
flags_listed (g ∷ gs) =
    let n = flags_at g 0 in
    let e : leb n 3 ≡ flags_allowed n = sym (and-true (leb n 3)) ∙ three_ranged (λ k. n) 0 1 ∙ and-true (flags_allowed n) in
    rw e (ap (λ (b : Bool). flags_allowed n && b) (flags_listed gs))

-- ---- one group more of those that were put into the arrays
module _ (gs : List (List ℕ)) (i : ℕ) (h : i < length gs) where
  one_more : {A : Type 0} (f : List ℕ → A) → map f (take (i + 1) gs) ≡ map f (take i gs) ++ f (get_or gs i []) ∷ []
  one_more f = rw (take_more gs i [] h) (map_snoc f (take i gs) (get_or gs i []))

  so_many : {A : Type 0} (f : List ℕ → A) → length (map f (take i gs)) ≡ i
  so_many f = map_length f (take i gs) ∙ length-take-le i gs (omega arith)

  pub channel_fits_in : all shifts_fit (channels_in gs) ≡ true → shifts_fit (channel_at (get_or gs i []) 0) ≡ true
  channel_fits_in a =
      rw (map_at (λ g. channel_at g 0) gs i [] (channel_at [] 0) h) at
      (all_at shifts_fit (channels_in gs) i (channel_at [] 0) a (omega (arith, map_length (λ g. channel_at g 0) gs)))

  module _ (l : ChannelList) (el : l ≡ Lists.packed (channels_in (take i gs))) where
    pub list_so_far : l.count ≡ i
    list_so_far = ap (λ (x : ChannelList). x.count) el ∙ list_count (channels_in (take i gs)) ∙ so_many (λ g. channel_at g 0)

    pub channel_more : length gs ≤ max_channels → (c : Channel) → c ≡ channel_at (get_or gs i []) 0 → Lists.pushed l c l.count ≡ Lists.packed (channels_in (take (i + 1) gs))
    channel_more few c ec =
        let cs = channels_in (take i gs) in
        let d = channel_at (get_or gs i []) 0 in
        let k : l.count ≡ length cs = ap (λ (x : ChannelList). x.count) el ∙ list_count cs in
        ap (λ (n : ℕ). Lists.pushed l c n) k
        ∙ ap (λ (x : ChannelList). Lists.pushed x c (length cs)) el
        ∙ ap (λ (x : Channel). Lists.pushed (Lists.packed cs) x (length cs)) ec
        ∙ list_pushed cs d (omega (arith, so_many (λ g. channel_at g 0)))
        ∙ ap Lists.packed (sym (one_more (λ g. channel_at g 0)))

  pub step_more : (s : Steps) → s ≡ S.packed (steps_in (take i gs)) → length gs ≤ max_steps → (x : Step) → x ≡ step_by held (get_or gs i []) 0
      → added s x ≡ S.packed (steps_in (take (i + 1) gs))
  unfolding added
  step_more s es few x ex =
      let n = so_many (λ g. step_by held g 0) in
      let c = packed_count s (steps_in (take i gs)) es in
      rw (lt-ltb s.count max_steps (omega arith), es, ex, one_more (λ g. step_by held g 0))
      (pushed_packed (steps_in (take i gs)) (step_by held (get_or gs i []) 0) (omega arith))

-- ---- the groups beside the list of numbers: number j of group k
group_at : (n k j : ℕ) (xs : List ℕ) (i : ℕ) → j < n → i ≡ n * k + j → get_or (take n (drop (n * k) xs)) j 0 ≡ get_or xs i 0
group_at n k j xs i h e = get_or-take n (drop (n * k) xs) j 0 h ∙ get_or-drop (n * k) xs j 0 ∙ rw e

-- what g makes of each group is a table of f
module _ {ℓ} {A : Type ℓ} (n : ℕ) (g : List ℕ → A) (f : ℕ → A) (xs : List ℕ) (h : (k : ℕ) → g (take n (drop (n * k) xs)) ≡ f k) where
  grouped : (k m : ℕ) → map g (first_chunks n m (drop (n * k) xs)) ≡ table f k m
  grouped k zero = refl
  grouped k (suc m) =
      let e : n * k + n ≡ n * suc k = omega (arith, mul-suc n k) in
      rw (h k, drop-drop n (n * k) xs, e, grouped (suc k) m)

-- the whole groups of a list of numbers
module _ (ns : List ℕ) where
  channel_in : (k : ℕ) → channel_at (take channel_numbers (drop (channel_numbers * k) ns)) 0 ≡ channel_at ns k
  unfolding channel_at
  channel_in k =
      rw (
        group_at channel_numbers k 0 ns (channel_numbers * k) (omega arith) (omega arith),
        group_at channel_numbers k 1 ns (channel_numbers * k + 1) (omega arith) refl,
        group_at channel_numbers k 2 ns (channel_numbers * k + 2) (omega arith) refl,
        group_at channel_numbers k 3 ns (channel_numbers * k + 3) (omega arith) refl,
      )

  channels_grouped : channels_in (first_chunks channel_numbers (groups channel_numbers ns) ns) ≡ channels_of ns
  unfolding N.channels_of
  channels_grouped = grouped channel_numbers (λ g. channel_at g 0) (channel_at ns) ns channel_in 0 (groups channel_numbers ns)

  flags_grouped : flags_in (first_chunks step_numbers (groups step_numbers ns) ns) ≡ flags_of ns
  unfolding N.flags_of
  flags_grouped =
      grouped step_numbers (λ g. flags_at g 0) (flags_at ns) ns (λ k. group_at step_numbers k 0 ns (step_numbers * k) (omega arith) (omega arith)) 0 (groups step_numbers ns)

  steps_grouped : steps_in (first_chunks step_numbers (groups step_numbers ns) ns) ≡ table (step_by held ns) 0 (groups step_numbers ns)
  steps_grouped = grouped step_numbers (λ g. step_by held g 0) (step_by held ns) ns step_in 0 (groups step_numbers ns)
    where
      step_in : (k : ℕ) → step_by held (take step_numbers (drop (step_numbers * k) ns)) 0 ≡ step_by held ns k
      step_in k =
          rw (
            group_at step_numbers k 0 ns (step_numbers * k) (omega arith) (omega arith),
            group_at step_numbers k 1 ns (step_numbers * k + 1) (omega arith) refl,
            group_at step_numbers k 2 ns (step_numbers * k + 2) (omega arith) refl,
          )

-- cs and ss are the whole groups of the channels' numbers and of the steps'
pub record Grouped (ns ms : List ℕ) (cs ss : List (List ℕ)) : Type 0 where
  pub channels_number : length cs ≡ groups channel_numbers ns
  pub steps_number : length ss ≡ groups step_numbers ms
  pub channels_are : channels_in cs ≡ channels_of ns
  pub flags_are : flags_in ss ≡ flags_of ms
  pub steps_are : steps_in ss ≡ table (step_by held ms) 0 (groups step_numbers ms)

pub grouped_lem : (ns ms : List ℕ) (cs ss : List (List ℕ)) → cs ≡ first_chunks channel_numbers (groups channel_numbers ns) ns → length cs ≡ groups channel_numbers ns
    → ss ≡ first_chunks step_numbers (groups step_numbers ms) ms → length ss ≡ groups step_numbers ms → Grouped ns ms cs ss
grouped_lem ns ms cs ss ec nc es n =
    record {
      channels_number = nc;
      steps_number = n;
      channels_are = ap channels_in ec ∙ channels_grouped ns;
      flags_are = ap flags_in es ∙ flags_grouped ms;
      steps_are = ap steps_in es ∙ steps_grouped ms;
    }

-- what the loops that fill the arrays need
pub ruleset fillings = (channel_fits_in, list_so_far, channel_more, step_more, take_all)
