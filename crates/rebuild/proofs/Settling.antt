-- The end of a run (`Settled` of specs/Run.antt): channel by channel what no step has made comes to its home in the picture, which lies apart from
-- every other. Assumes nothing.
use mathlib.Core.Path.{◌≡◌, refl, sym, subst, ◌∙◌}
use mathlib.Core.Bool.{Bool, true, false, cond}
use mathlib.Core.List.{List}
use mathlib.Core.Logic.{◌⊎◌, inl, inr, ⊎_swap}
use Prim.Native.Nat.{ℕ, ◌+◌, ◌<◌, ◌≤◌}
use native.Mathlib.Omega.{arith}
use lib.IntN.{ℤ}
use lib.ListN.{length}
use Rattle.std.proofs.lemmas.Bool.{cases_lt}
use Rattle.places.specs.declared.Place.{Place}
use Rattle.places.specs.Places.{area, place_of}
use Rattle.places.specs.Laid.{Apart, part, written}
use Rattle.places.proofs.Parts.{part_length, part_own, part_other, written_length}
use Rattle.rebuild.specs.declared.Sources.{Sources}
use Rattle.rebuild.specs.Run.{start_at, made_at, given_at, SettleFits, Settled}

module _ (ps : List Place) (sources : Sources) (pyramid picture₀ : List ℤ) where
  pub record Settling (k : ℕ) (picture : List ℤ) : Type 0 where
    pub done : (j : ℕ) → j < k → part (place_of ps j).home (area (place_of ps j)) picture ≡ given_at ps sources pyramid picture₀ j
    pub left : (j : ℕ) → k ≤ j → j < length ps → given_at ps sources pyramid picture j ≡ given_at ps sources pyramid picture₀ j
    pub long : length picture ≡ length pyramid

module _ (ps : List Place) (sources : Sources) (pyramid picture₀ : List ℤ) (f : SettleFits ps sources pyramid picture₀) where
  pub settling_none : Settling ps sources pyramid picture₀ 0 picture₀
  settling_none = record { done = λ j h. absurd (omega arith); left = λ j b h. refl; long = f.picture_long }

  pub settling_all : (k n : ℕ) (picture : List ℤ) → n ≤ k → Settling ps sources pyramid picture₀ k picture → Settled n ps sources pyramid picture₀ picture
  settling_all k n picture h t j b = t.done j (omega arith)

  module _ (k : ℕ) (h : k < length ps) (picture : List ℤ) (t : Settling ps sources pyramid picture₀ k picture) where
    abbrev at : ℕ
    at = (place_of ps k).home

    abbrev n : ℕ
    n = area (place_of ps k)

    abbrev ys : List ℤ
    ys = part (start_at sources k) n pyramid

    ys_long : length ys ≡ n
    ys_long = part_length (start_at sources k) n pyramid (f.starts_in k h)

    -- what lies apart from it stays
    apart : (j : ℕ) → j < length ps → Apart (place_of ps j).home (area (place_of ps j)) at n
        → part (place_of ps j).home (area (place_of ps j)) (written at ys picture) ≡ part (place_of ps j).home (area (place_of ps j)) picture
    apart j b a =
        let i = f.laid.inside j b in
        let r = f.laid.inside k h in
        let m = t.long in
        let y = ys_long in
        part_other (place_of ps j).home (area (place_of ps j)) at ys picture (omega arith) (omega arith) (rw y a)

    more : (picture2 : List ℤ) → picture2 ≡ cond (made_at sources k) picture (written at ys picture) → Settling ps sources pyramid picture₀ (k + 1) picture2
    more picture2 e = by (made_at sources k) refl
      where
        by : (b : Bool) → made_at sources k ≡ b → Settling ps sources pyramid picture₀ (k + 1) picture2
        by true eb =
            let z : picture2 ≡ picture = e ∙ rw eb in
            rw z
            (record {
              done = λ j b. last j b (cases_lt j k);
              left = λ j b c. t.left j (omega arith) c;
              long = t.long;
            })
          where
            last : (j : ℕ) → j < k + 1 → (j < k) ⊎ (k ≤ j) → part (place_of ps j).home (area (place_of ps j)) picture ≡ given_at ps sources pyramid picture₀ j
            last j b (inl c) = t.done j c
            last j b (inr c) = let y : j ≡ k = omega arith in rw y ((rw (f.at_home_lem k h eb, eb) at (t.left k (omega arith) h)) ∙ rw (f.at_home_lem k h eb, eb))
        by false eb =
            let z : picture2 ≡ written at ys picture = e ∙ rw eb in
            let r = f.laid.inside k h in
            let m = t.long in
            let y = ys_long in
            rw z
            (record {
              done = λ j b. last j b (cases_lt j k);
              left = λ j b c. still j b c (made_at sources j) refl;
              long = written_length at ys picture (omega arith) ∙ m;
            })
          where
            last : (j : ℕ) → j < k + 1 → (j < k) ⊎ (k ≤ j) → part (place_of ps j).home (area (place_of ps j)) (written at ys picture) ≡ given_at ps sources pyramid picture₀ j
            last j b (inl c) = apart j (omega arith) (f.laid.apart j k c h) ∙ t.done j c
            last j b (inr c) =
                let r = f.laid.inside k h in
                let m = t.long in
                let y = ys_long in
                let i : j ≡ k = omega arith in
                rw i ((rw y at (part_own at ys picture (omega arith))) ∙ rw eb)

            still : (j : ℕ) → k + 1 ≤ j → j < length ps → (b : Bool) → made_at sources j ≡ b
                → given_at ps sources pyramid (written at ys picture) j ≡ given_at ps sources pyramid picture₀ j
            still j b c false ej = rw ej
            still j b c true ej =
                rw (ej, f.at_home_lem j c ej) (apart j c (⊎_swap (f.laid.apart k j (omega arith) c)) ∙ (rw (ej, f.at_home_lem j c ej) at (t.left j (omega arith) c)))

    -- q is the place
    pub settling_more : (q : Place) → place_of ps k ≡ q → (picture2 : List ℤ)
        → picture2 ≡ cond (made_at sources k) picture (written q.home (part (start_at sources k) (area q) pyramid) picture) → Settling ps sources pyramid picture₀ (k + 1) picture2
    settling_more q eq picture2 e =
        more picture2
        (subst (λ (p : Place). picture2 ≡ cond (made_at sources k) picture (written p.home (part (start_at sources k) (area p) pyramid) picture)) (sym eq) e)
