-- "all samples of the list": the sum that a loop makes, and the sum that a step keeps, since an average and its residual have together the samples of
-- their channel. Assumes nothing.
use mathlib.Core.Path.{◌≡◌, refl, sym, ap, ◌∙◌}
use mathlib.Core.Bool.{Bool, true, false, cond}
use mathlib.Core.List.{List, [], ◌∷◌, ◌++◌}
use Prim.Native.Nat.{ℕ, ◌+◌, ◌*◌, ◌-◌, ◌<◌}
use native.Mathlib.Omega.{arith}
use lib.Dec.{leb}
use native.Mathlib.Nat.{add-mul, mul-add}
use borrow.Author.Tests.{leb-true, leb-false, le-leb, lt-leb}
use Rattle.numbers.specs.Numbers.{max_samples}
use Rattle.channel.specs.declared.Channel.{Channel}
use Rattle.channel.specs.Channel.{is_meta, samples}
use Rattle.list.specs.declared.Step.{Step}
use Rattle.list.specs.Tables.{table, map}
use Rattle.list.specs.Lists as Lists
use Rattle.list.specs.Lists.{halved, raised, sided, average, residual, before, range, after, stepped, total}
use Rattle.list.specs.Questions.{total_allowed, counted_total}
use Rattle.list.proofs.Tables.{table_rest}
use Rattle.list.proofs.Shifts.{lifted}
use Rattle.list.proofs.Parts.{averages, residuals, joined, following, parts_whole}

-- the sum t so far, once v was found at k with s samples
pub total_next : (f : ℕ → Channel) (k n t s : ℕ) (v : Channel) → k < n → v ≡ f k → s ≡ samples v
    → t + s + total (table f (k + 1) (n - (k + 1))) ≡ t + total (table f k (n - k))
total_next f k n t s v h ev es = rw (table_rest f k n h, ← ev, ← es) (omega arith)

-- ---- the samples counted up to one past the limit, against question 5
module _ (cs : List Channel) where
  pub counted_leb : (n : ℕ) → n ≡ counted_total cs → leb n max_samples ≡ total_allowed cs
  unfolding counted_total total_allowed
  counted_leb n e = go (leb n max_samples) refl
    where
      go : (b : Bool) → leb n max_samples ≡ b → b ≡ leb (total cs) max_samples
      go true h = sym (le-leb (total cs) max_samples (omega (arith, leb-true n max_samples h)))
      go false h = sym (lt-leb (total cs) max_samples (omega (arith, leb-false n max_samples h)))

  pub counted_exact : total_allowed cs ≡ true → counted_total cs ≡ total cs
  unfolding counted_total total_allowed
  counted_exact a = omega (arith, leb-true (total cs) max_samples a)

-- ---- a step
halves_whole : (side : ℕ) → halved side + Lists.rest side ≡ side
halves_whole side = omega arith

pub raised_samples : (h : Bool) (c : Channel) → samples (raised h c) ≡ samples c
unfolding raised samples
raised_samples h c = go (is_meta c)
  where
    go : (m : Bool) → samples (cond m c (lifted h c)) ≡ samples c
    go true = refl
    go false = refl

sided_samples : (d : Bool) (c : Channel) → samples (sided halved d c) + samples (sided Lists.rest d c) ≡ samples c
unfolding samples
sided_samples true c = sym (add-mul (halved c.width) (Lists.rest c.width) c.height) ∙ ap (λ (n : ℕ). n * c.height) (halves_whole c.width)
sided_samples false c = sym (mul-add c.width (halved c.height) (Lists.rest c.height)) ∙ ap (λ (n : ℕ). c.width * n) (halves_whole c.height)

pub parts_samples : (h : Bool) (c : Channel) → samples (average h c) + samples (residual h c) ≡ samples c
unfolding average residual
parts_samples h c = rw (raised_samples h (sided halved h c), raised_samples h (sided Lists.rest h c)) (sided_samples h c)

pub parts_total : (h : Bool) (cs : List Channel) → total (map (average h) cs) + total (map (residual h) cs) ≡ total cs
parts_total h [] = refl
parts_total h (c ∷ cs) = omega (arith, parts_samples h c, parts_total h cs)

pub total_append : (cs ds : List Channel) → total (cs ++ ds) ≡ total cs + total ds
total_append [] ds = omega arith
total_append (c ∷ cs) ds = omega (arith, total_append cs ds)

pub joined_total : (i : Bool) (cs ds : List Channel) → total (joined i cs ds) ≡ total cs + total ds
joined_total true cs ds = total_append cs ds
joined_total false cs ds = omega (arith, total_append ds cs)

-- "The sample total stays"
pub stepped_total : (s : Step) (cs : List Channel) → total (stepped s cs) ≡ total cs
unfolding stepped
stepped_total s cs =
    omega (
      arith,
      total_append (before s cs) (averages s cs ++ following s cs),
      total_append (averages s cs) (following s cs),
      joined_total s.inplace (residuals s cs) (after s cs),
      parts_total s.horizontal (range s cs),
      total_append (before s cs) (range s cs ++ after s cs),
      total_append (range s cs) (after s cs),
      ap total (parts_whole s cs),
    )
