-- One channel there and back (specs/Runs.antt), and the channels of a range: the laws of lines (crate line) at a channel's sizes, which are those
-- that a step gives its average and its residual. Assumes nothing.
use mathlib.Core.Path.{◌≡◌, refl, sym, ◌∙◌}
use mathlib.Core.Bool.{Bool, true, false}
use mathlib.Core.List.{List, [], ◌∷◌}
use mathlib.Core.Logic.{inl}
use Prim.Native.Nat.{ℕ, ◌*◌}
use native.Mathlib.Nat.{mul_comm}
use native.Mathlib.Omega.{arith}
use lib.IntN.{ℤ}
use lib.ListN.{length}
use Rattle.std.proofs.lemmas.List.Elements.{All-nil, All-cons, All-head, All-tail}
use Rattle.channel.specs.declared.Channel.{Channel}
use Rattle.channel.specs.Channel as Channel
use Rattle.channel.specs.Channel.{samples}
use Rattle.list.specs.Lists as Lists
use Rattle.list.specs.Lists.{halved, rest, sided, average, residual}
use Rattle.list.specs.Tables.{map}
use Rattle.list.proofs.Totals.{raised_samples}
use Rattle.line.specs.Uncut.{squeeze, Fitting}
use Rattle.line.specs.Forward.{average_count, residual_count}
use Rattle.line.proofs.Outputs.{uncut_length}
use Rattle.line.proofs.Sampled as Sampled
use Rattle.line.proofs.Sampled.{uncut_samples}
use Rattle.line.proofs.ThereAndBack as Lines
use Rattle.line.specs.Forward.{Samples}
use Rattle.line.proofs.ThereAndBack.{all_samples}
use Rattle.runs.specs.Runs.{lines_of, size_of, channel_back, channel_averages, channel_residuals, all_back, each}
use Rattle.runs.proofs.Shapes.{Shaped, AllSamples}

-- ---- sizes: a channel has its lines times its samples along them, and so do its average and its residual
pub samples_by : (h : Bool) (c : Channel) → samples c ≡ lines_of h c * size_of h c
unfolding Channel.samples
samples_by true c = mul_comm c.width c.height
samples_by false c = refl

sided_samples : (f : ℕ → ℕ) (h : Bool) (c : Channel) → samples (sided f h c) ≡ lines_of h c * f (size_of h c)
unfolding Channel.samples
sided_samples f true c = mul_comm (f c.width) c.height
sided_samples f false c = refl

pub average_samples : (h : Bool) (c : Channel) → samples (average h c) ≡ lines_of h c * average_count (size_of h c)
unfolding Lists.average
average_samples h c = raised_samples h (sided halved h c) ∙ sided_samples halved h c

pub residual_samples : (h : Bool) (c : Channel) → samples (residual h c) ≡ lines_of h c * residual_count (size_of h c)
unfolding Lists.residual
residual_samples h c = raised_samples h (sided rest h c) ∙ sided_samples rest h c

-- ---- one channel
-- an average and a residual of the step's sizes fit
pub channel_fits : (h : Bool) (c : Channel) (avg res : List ℤ) → length avg ≡ samples (average h c) → length res ≡ samples (residual h c)
    → Fitting (squeeze h (lines_of h c) (average_count (size_of h c)) (residual_count (size_of h c)) avg res [] [])
channel_fits h c avg res la lr =
    record {
      low = omega arith;
      high = omega arith;
      avg_length = la ∙ average_samples h c;
      res_length = lr ∙ residual_samples h c;
      next_length = inl refl;
      prev_length = inl refl;
    }

pub back_length : (h : Bool) (c : Channel) (avg res : List ℤ) → length (channel_back h c avg res) ≡ samples c
unfolding channel_back
back_length h c avg res =
    uncut_length (squeeze h (lines_of h c) (average_count (size_of h c)) (residual_count (size_of h c)) avg res [] [])
    ∙ rw (all_samples (size_of h c)) (sym (samples_by h c))

pub averages_length : (h : Bool) (c : Channel) (xs : List ℤ) → length (channel_averages h c xs) ≡ samples (average h c)
unfolding channel_averages
averages_length h c xs = Lines.averages_length h (lines_of h c) (size_of h c) xs ∙ sym (average_samples h c)

pub residuals_length : (h : Bool) (c : Channel) (xs : List ℤ) → length (channel_residuals h c xs) ≡ samples (residual h c)
unfolding channel_residuals
residuals_length h c xs = Lines.residuals_length h (lines_of h c) (size_of h c) xs ∙ sym (residual_samples h c)

pub channel_again : (h : Bool) (c : Channel) (xs : List ℤ) → length xs ≡ samples c → Samples xs
    → channel_back h c (channel_averages h c xs) (channel_residuals h c xs) ≡ xs
unfolding channel_back channel_averages channel_residuals
channel_again h c xs l f = Lines.rebuilt h (lines_of h c) (size_of h c) xs (l ∙ samples_by h c) f

module _ (h : Bool) (c : Channel) (avg res : List ℤ) (la : length avg ≡ samples (average h c)) (lr : length res ≡ samples (residual h c))
    (fa : Samples avg) (fr : Samples res) where
  pub averages_again : channel_averages h c (channel_back h c avg res) ≡ avg
  unfolding channel_back channel_averages
  averages_again =
      Lines.averages_back h (lines_of h c) (size_of h c) avg res (la ∙ average_samples h c) (lr ∙ residual_samples h c) fa fr

  pub residuals_again : channel_residuals h c (channel_back h c avg res) ≡ res
  unfolding channel_back channel_residuals
  residuals_again =
      Lines.residuals_back h (lines_of h c) (size_of h c) avg res (la ∙ average_samples h c) (lr ∙ residual_samples h c) fa fr

pub back_samples : (h : Bool) (c : Channel) (avg res : List ℤ) → Samples avg → Samples (channel_back h c avg res)
unfolding channel_back
back_samples h c avg res f =
    uncut_samples (squeeze h (lines_of h c) (average_count (size_of h c)) (residual_count (size_of h c)) avg res [] []) f

pub averages_samples : (h : Bool) (c : Channel) (xs : List ℤ) → Samples xs → Samples (channel_averages h c xs)
unfolding channel_averages
averages_samples h c xs f = Sampled.averages_samples h (lines_of h c) (size_of h c) xs f

pub residuals_samples : (h : Bool) (c : Channel) (xs : List ℤ) → Samples (channel_residuals h c xs)
unfolding channel_residuals
residuals_samples h c xs = Sampled.residuals_samples h (lines_of h c) (size_of h c) xs

-- ---- the channels of a range
each_shaped : (g : Channel → Channel) (f : Channel → List ℤ → List ℤ) → ((c : Channel) (p : List ℤ) → length (f c p) ≡ samples (g c))
    → (cs : List Channel) (ps : List (List ℤ)) → Shaped cs ps → Shaped (map g cs) (each f cs ps)
each_shaped g f e [] [] s = tt
each_shaped g f e [] (p ∷ ps) s = absurd s
each_shaped g f e (c ∷ cs) [] s = absurd s
each_shaped g f e (c ∷ cs) (p ∷ ps) s = (e c p, each_shaped g f e cs ps s.1)

each_samples : (f : Channel → List ℤ → List ℤ) → ((c : Channel) (p : List ℤ) → Samples p → Samples (f c p))
    → (cs : List Channel) (ps : List (List ℤ)) → AllSamples ps → AllSamples (each f cs ps)
each_samples f e [] ps a = All-nil Samples
each_samples f e (c ∷ cs) [] a = All-nil Samples
each_samples f e (c ∷ cs) (p ∷ ps) a =
    All-cons Samples (f c p) (each f cs ps) (e c p (All-head Samples p ps a)) (each_samples f e cs ps (All-tail Samples p ps a))

module _ (h : Bool) where
  -- lengths and samples
  pub averages_shaped : (cs : List Channel) (ps : List (List ℤ)) → Shaped cs ps → Shaped (map (average h) cs) (each (channel_averages h) cs ps)
  averages_shaped = each_shaped (average h) (channel_averages h) (averages_length h)

  pub residuals_shaped : (cs : List Channel) (ps : List (List ℤ)) → Shaped cs ps → Shaped (map (residual h) cs) (each (channel_residuals h) cs ps)
  residuals_shaped = each_shaped (residual h) (channel_residuals h) (residuals_length h)

  pub back_shaped : (cs : List Channel) (avgs ress : List (List ℤ)) → Shaped (map (average h) cs) avgs → Shaped (map (residual h) cs) ress
      → Shaped cs (all_back h cs avgs ress)
  back_shaped [] avgs ress s t = tt
  back_shaped (c ∷ cs) [] ress s t = absurd s
  back_shaped (c ∷ cs) (a ∷ avgs) [] s t = absurd t
  back_shaped (c ∷ cs) (a ∷ avgs) (r ∷ ress) s t = (back_length h c a r, back_shaped cs avgs ress s.1 t.1)

  pub all_averages : (cs : List Channel) (ps : List (List ℤ)) → AllSamples ps → AllSamples (each (channel_averages h) cs ps)
  all_averages = each_samples (channel_averages h) (averages_samples h)

  -- not by `each_samples`: the parts may hold any numbers
  pub all_residuals : (cs : List Channel) (ps : List (List ℤ)) → AllSamples (each (channel_residuals h) cs ps)
  all_residuals [] ps = All-nil Samples
  all_residuals (c ∷ cs) [] = All-nil Samples
  all_residuals (c ∷ cs) (p ∷ ps) =
      All-cons Samples (channel_residuals h c p) (each (channel_residuals h) cs ps) (residuals_samples h c p) (all_residuals cs ps)

  pub all_back_lem : (cs : List Channel) (avgs ress : List (List ℤ)) → AllSamples avgs → AllSamples (all_back h cs avgs ress)
  all_back_lem [] avgs ress f = All-nil Samples
  all_back_lem (c ∷ cs) [] ress f = All-nil Samples
  all_back_lem (c ∷ cs) (a ∷ avgs) [] f = All-nil Samples
  all_back_lem (c ∷ cs) (a ∷ avgs) (r ∷ ress) f =
      All-cons Samples (channel_back h c a r) (all_back h cs avgs ress)
      (back_samples h c a r (All-head Samples a avgs f)) (all_back_lem cs avgs ress (All-tail Samples a avgs f))

  -- there and back, back and there
  pub range_again : (cs : List Channel) (ps : List (List ℤ)) → Shaped cs ps → AllSamples ps
      → all_back h cs (each (channel_averages h) cs ps) (each (channel_residuals h) cs ps) ≡ ps
  range_again [] [] s f = refl
  range_again [] (p ∷ ps) s f = absurd s
  range_again (c ∷ cs) [] s f = absurd s
  range_again (c ∷ cs) (p ∷ ps) s f =
      rw (channel_again h c p s.0 (All-head Samples p ps f), range_again cs ps s.1 (All-tail Samples p ps f))

  pub range_back : (cs : List Channel) (avgs ress : List (List ℤ)) → Shaped (map (average h) cs) avgs → Shaped (map (residual h) cs) ress
      → AllSamples avgs → AllSamples ress
      → (each (channel_averages h) cs (all_back h cs avgs ress) ≡ avgs) × (each (channel_residuals h) cs (all_back h cs avgs ress) ≡ ress)
  range_back [] [] [] s t f g = (refl, refl)
  range_back [] (a ∷ avgs) ress s t f g = absurd s
  range_back [] [] (r ∷ ress) s t f g = absurd t
  range_back (c ∷ cs) [] ress s t f g = absurd s
  range_back (c ∷ cs) (a ∷ avgs) [] s t f g = absurd t
  range_back (c ∷ cs) (a ∷ avgs) (r ∷ ress) s t f g =
      let rest = range_back cs avgs ress s.1 t.1 (All-tail Samples a avgs f) (All-tail Samples r ress g) in
      let fa = All-head Samples a avgs f in
      let fr = All-head Samples r ress g in
      (rw (averages_again h c a r s.0 t.0 fa fr, rest.0), rw (residuals_again h c a r s.0 t.0 fa fr, rest.1))
