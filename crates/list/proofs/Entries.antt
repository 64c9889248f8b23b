-- The list that a step leaves, entry by entry: what stands before the range, the averages, and on from there the residuals at their place among the
-- other entries. Of channels and of what is told of each, by whatever f makes averages and g residuals. Assumes nothing.
use mathlib.Core.Path.{◌≡◌, sym, ap, ◌∙◌}
use mathlib.Core.Bool.{Bool, true, false, cond}
use mathlib.Core.List.{List, ◌++◌}
use Prim.Native.Nat.{ℕ, ◌+◌, ◌-◌, ◌<◌, ◌≤◌}
use native.Mathlib.Omega.{arith}
use lib.ListN.{length, get_or, drop, length-append, length-take, length-drop}
use lib.Seq.{length-take-le, get_or-take, get_or-drop}
use Rattle.channel.specs.declared.Channel.{Channel}
use Rattle.list.specs.declared.Step.{Step}
use Rattle.list.specs.Tables.{map, all}
use Rattle.list.specs.Lists.{average, residual, before, range, after, moved, stepped, stepped_origins}
use Rattle.list.specs.Questions.{channel_of}
use Rattle.list.proofs.Parts.{joined}
use Rattle.list.proofs.Maps.{map_length, map_at, all_at, left_at, right_at}

-- m residuals and n other entries
module _ {ℓ} {A : Type ℓ} (rs xs : List A) (m n : ℕ) (er : length rs ≡ m) (ex : length xs ≡ n) where
  joined_length : (i : Bool) → length (joined i rs xs) ≡ n + m
  joined_length true = omega (arith, length-append rs xs)
  joined_length false = omega (arith, length-append xs rs)

  module _ (j : ℕ) (d : A) where
    joined_before : (i : Bool) → j < cond i 0 n → get_or (joined i rs xs) j d ≡ get_or xs j d
    joined_before true h = absurd (omega arith)
    joined_before false h = left_at xs rs n j d ex h

    joined_residual : (i : Bool) → cond i 0 n ≤ j → j < cond i 0 n + m → get_or (joined i rs xs) j d ≡ get_or rs (j - cond i 0 n) d
    joined_residual true h l = let z : j - 0 ≡ j = omega arith in rw z (left_at rs xs m j d er (omega arith))
    joined_residual false h l = right_at xs rs n j d ex h

    joined_after : (i : Bool) → cond i 0 n + m ≤ j → j < n + m → get_or (joined i rs xs) j d ≡ get_or xs (j - m) d
    joined_after true h l = right_at rs xs m j d er (omega arith)
    joined_after false h l = absurd (omega arith)

-- where the residuals start
abbrev pub residuals_at {ℓ} : {A : Type ℓ} → Step → List A → ℕ
residuals_at s xs = cond s.inplace (s.begin + s.number) (length xs)

module _ {ℓ} {A : Type ℓ} (s : Step) (xs : List A) (inside : s.begin + s.number ≤ length xs) where
  pub length_before : length (before s xs) ≡ s.begin
  length_before = length-take-le s.begin xs (omega arith)

  pub length_range : length (range s xs) ≡ s.number
  length_range = simp (length-take, length-drop) (omega arith)

  pub length_after_lem : length (after s xs) ≡ length xs - (s.begin + s.number)
  length_after_lem = length-drop (s.begin + s.number) xs

  range_at : (i : ℕ) (d : A) → i < s.number → get_or (range s xs) i d ≡ get_or xs (i + s.begin) d
  range_at i d h =
      let z : s.begin + i ≡ i + s.begin = omega arith in
      get_or-take s.number (drop s.begin xs) i d h ∙ get_or-drop s.begin xs i d ∙ ap (λ (j : ℕ). get_or xs j d) z

  -- what is true of the whole range is true of each of its entries
  pub range_each : (p : A → Bool) → all p (range s xs) ≡ true → (j : ℕ) (d : A) → s.begin ≤ j → j < s.begin + s.number → p (get_or xs j d) ≡ true
  range_each p a j d l h =
      let n = length_range in
      let z : j - s.begin + s.begin ≡ j = omega arith in
      sym (ap p (range_at (j - s.begin) d (omega arith) ∙ ap (λ (i : ℕ). get_or xs i d) z)) ∙ all_at p (range s xs) (j - s.begin) d a (omega arith)

  -- where the residuals start, counted from the range's end
  abbrev place : Bool → ℕ
  place i = cond i 0 (length xs - (s.begin + s.number))

  place_from : (i : Bool) → place i + (s.begin + s.number) ≡ cond i (s.begin + s.number) (length xs)
  place_from true = omega arith
  place_from false = omega arith

  place_within : (i : Bool) → place i + (s.begin + s.number) ≤ length xs
  place_within true = omega arith
  place_within false = omega arith

  module _ (f g : A → A) where
    abbrev made : List A
    made = map f (range s xs)

    abbrev left : List A
    left = map g (range s xs)

    abbrev following : List A
    following = joined s.inplace left (after s xs)

    length_made : length made ≡ s.number
    length_made = map_length f (range s xs) ∙ length_range

    length_left : length left ≡ s.number
    length_left = map_length g (range s xs) ∙ length_range

    pub moved_length : length (moved f g s xs) ≡ length xs + s.number
    moved_length =
        let b = length_before in
        let a = length_made in
        let r = joined_length left (after s xs) s.number _ length_left length_after_lem s.inplace in
        omega (arith, length-append (before s xs) (made ++ following), length-append made following)

    module _ (k : ℕ) (d : A) where
      pub moved_before : k < s.begin → get_or (moved f g s xs) k d ≡ get_or xs k d
      moved_before h = left_at (before s xs) _ s.begin k d length_before h ∙ get_or-take s.begin xs k d h

      pub moved_average : s.begin ≤ k → k < s.begin + s.number → get_or (moved f g s xs) k d ≡ f (get_or xs k d)
      moved_average l h =
          let n : k - s.begin < s.number = omega arith in
          let r = length_range in
          let z : k - s.begin + s.begin ≡ k = omega arith in
          right_at (before s xs) _ s.begin k d length_before l
          ∙ left_at made _ s.number (k - s.begin) d length_made n
          ∙ map_at f (range s xs) (k - s.begin) d d (omega arith)
          ∙ ap f (range_at (k - s.begin) d n ∙ ap (λ (i : ℕ). get_or xs i d) z)

      moved_rest : s.begin + s.number ≤ k → get_or (moved f g s xs) k d ≡ get_or following (k - (s.begin + s.number)) d
      moved_rest l =
          let z : k - s.begin - s.number ≡ k - (s.begin + s.number) = omega arith in
          right_at (before s xs) _ s.begin k d length_before (omega arith)
          ∙ right_at made _ s.number (k - s.begin) d length_made (omega arith)
          ∙ ap (λ (i : ℕ). get_or following i d) z

      module _ (r : ℕ) (er : r ≡ residuals_at s xs) where
        pub moved_between : s.begin + s.number ≤ k → k < r → (k < length xs) × (get_or (moved f g s xs) k d ≡ get_or xs k d)
        moved_between l h =
            let p = place_from s.inplace in
            let w = place_within s.inplace in
            let z : s.begin + s.number + (k - (s.begin + s.number)) ≡ k = omega arith in (
              omega arith,
              moved_rest l
                  ∙ joined_before left (after s xs) s.number _ length_left length_after_lem (k - (s.begin + s.number)) d s.inplace (omega arith)
                  ∙ get_or-drop (s.begin + s.number) xs _ d
                  ∙ ap (λ (i : ℕ). get_or xs i d) z,
            )

        pub moved_residual : s.begin + s.number ≤ k → r ≤ k → k < r + s.number → get_or (moved f g s xs) k d ≡ g (get_or xs (k - r + s.begin) d)
        moved_residual l h t =
            let p = place_from s.inplace in
            let n = length_range in
            let z : k - (s.begin + s.number) - place s.inplace ≡ k - r = omega arith in
            moved_rest l
            ∙ joined_residual left (after s xs) s.number _ length_left length_after_lem (k - (s.begin + s.number)) d s.inplace (omega arith) (omega arith)
            ∙ ap (λ (i : ℕ). get_or left i d) z
            ∙ map_at g (range s xs) (k - r) d d (omega arith)
            ∙ ap g (range_at (k - r) d (omega arith))

        pub moved_after : s.begin + s.number ≤ k → r + s.number ≤ k → k < length xs + s.number → get_or (moved f g s xs) k d ≡ get_or xs (k - s.number) d
        moved_after l h t =
            let p = place_from s.inplace in
            let z : s.begin + s.number + (k - (s.begin + s.number) - s.number) ≡ k - s.number = omega arith in
            moved_rest l
            ∙ joined_after left (after s xs) s.number _ length_left length_after_lem (k - (s.begin + s.number)) d s.inplace (omega arith) (omega arith)
            ∙ get_or-drop (s.begin + s.number) xs _ d
            ∙ ap (λ (i : ℕ). get_or xs i d) z

-- ---- channels
module _ (s : Step) (cs : List Channel) (inside : s.begin + s.number ≤ length cs) where
  pub stepped_length : length (stepped s cs) ≡ length cs + s.number
  unfolding stepped
  stepped_length = moved_length s cs inside _ _

  module _ (k : ℕ) where
    pub entry_before : k < s.begin → channel_of (stepped s cs) k ≡ channel_of cs k
    unfolding stepped
    entry_before = moved_before s cs inside _ _ k _

    pub entry_average : s.begin ≤ k → k < s.begin + s.number → channel_of (stepped s cs) k ≡ average s.horizontal (channel_of cs k)
    unfolding stepped
    entry_average = moved_average s cs inside _ _ k _

    module _ (r : ℕ) (er : r ≡ residuals_at s cs) where
      pub entry_between : s.begin + s.number ≤ k → k < r → (k < length cs) × (channel_of (stepped s cs) k ≡ channel_of cs k)
      unfolding stepped
      entry_between = moved_between s cs inside _ _ k _ r er

      pub entry_residual : s.begin + s.number ≤ k → r ≤ k → k < r + s.number
          → channel_of (stepped s cs) k ≡ residual s.horizontal (channel_of cs (k - r + s.begin))
      unfolding stepped
      entry_residual = moved_residual s cs inside _ _ k _ r er

      pub entry_after : s.begin + s.number ≤ k → r + s.number ≤ k → k < length cs + s.number → channel_of (stepped s cs) k ≡ channel_of cs (k - s.number)
      unfolding stepped
      entry_after = moved_after s cs inside _ _ k _ r er

-- ---- origins: as many as there are channels
pub origins_stepped : (s : Step) (os : List ℕ) → s.begin + s.number ≤ length os → length (stepped_origins s os) ≡ length os + s.number
unfolding stepped_origins
origins_stepped s os inside = moved_length s os inside _ _
