-- A slice of which a part was lent (`written` of crate places): a channel squeezed into the part and its mark, or samples copied into it. Assumes nothing.
use mathlib.Core.Path.{◌≡◌, refl, sym, ap, ◌∙◌}
use mathlib.Core.Bool.{Bool, true, false, cond, not, ◌&&◌}
use mathlib.Core.List.{List, ◌++◌}
use Prim.Native.Nat.{ℕ, ◌+◌, ◌-◌, ◌≤◌}
use native.Mathlib.Omega.{arith}
use lib.IntN.{ℤ}
use lib.ListN.{length, take, drop, length-append}
use lib.Seq.{drop-drop}
use Rattle.numbers.specs.Numbers.{max_side}
use Rattle.channel.specs.declared.Channel.{Channel}
use Rattle.channel.specs.Channel as Channel
use Rattle.channel.specs.Channel.{sides_fit}
use Rattle.channel.proofs.Sides.{fit_sides}
use Rattle.list.proofs.Totals.{parts_samples}
use Rattle.buffer.specs.Buffer.{copied}
use Rattle.buffer.proofs.Overwritten.{copied_all}
use Rattle.forward.specs.Into.{slices_fit, squeezed_into, marked_into}
use Rattle.forward.proofs.Fitted.{into_fit, told_fit, fitting}
use Rattle.places.specs.declared.Place.{Place}
use Rattle.places.specs.Places.{area, bare}
use Rattle.places.specs.Laid as Laid
use Rattle.places.specs.Laid.{part, written}
use Rattle.places.proofs.Parts.{part_length}
use Rattle.runs.specs.Runs as Runs
use Rattle.runs.specs.Runs.{lines_of, size_of}
use Rattle.runs.specs.Marks.{channel_written_marked}
use Rattle.runs.proofs.OneChannel.{samples_by, averages_length, residuals_length}
use Rattle.write.specs.Standing as Standing
use Rattle.write.specs.Standing.{halves}

-- averages and residuals fill their channel's home
pub halves_length : (h : Bool) (p : Place) (xs : List ℤ) → length (halves h (bare p) xs) ≡ area p
unfolding Standing.halves Channel.samples
halves_length h p xs =
    let a = averages_length h (bare p) xs in
    let r = residuals_length h (bare p) xs in
    let e = parts_samples h (bare p) in
    simp length-append (omega arith)

-- a part that was lent, n samples from `at` on, and came back as ys
put_back : (at n : ℕ) (ys xs : List ℤ) → length ys ≡ n → take at xs ++ (ys ++ drop n (drop at xs)) ≡ written at ys xs
unfolding Laid.written
put_back at n ys xs e = rw (drop-drop n at xs, e)

-- the side that is not halved, and the limit of both
across : (h : Bool) (c : Channel) → cond (not h) c.width c.height ≡ lines_of h c
across true c = refl
across false c = refl

fit_lines : (h : Bool) (c : Channel) → sides_fit c ≡ true → (lines_of h c ≤ max_side) × (size_of h c ≤ max_side)
fit_lines h c e = go h (fit_sides c e)
  where
    go : (b : Bool) → (c.width ≤ max_side) × (c.height ≤ max_side) → (lines_of b c ≤ max_side) × (size_of b c ≤ max_side)
    go true f = (f.1, f.0)
    go false f = f

-- the part at a place is lent, `n` its area
module _ (p : Place) (n : ℕ) (e : n ≡ area p) where
  count_so : (at : ℕ) → at + n - at ≡ area p
  count_so at = omega arith

  pub copy_put : (from to out : List ℤ) (start : ℕ) → p.home + area p ≤ length from → start + area p ≤ length to
      → out ≡ copied (take (p.home + n - p.home) (drop p.home from)) (take (start + n - start) (drop start to))
      → take start to ++ (out ++ drop (start + n - start) (drop start to)) ≡ written start (part p.home (area p) from) to
  unfolding Laid.part
  copy_put from to out start i j eo =
      let c = count_so p.home in
      let d = count_so start in
      let l = part_length p.home (area p) from i in
      let m = part_length start (area p) to j in
      let o : out ≡ part p.home (area p) from = (rw (c, d) at eo) ∙ copied_all (part p.home (area p) from) (part start (area p) to) (l ∙ sym m) in
      rw d (put_back start (area p) out to (ap length o ∙ l) ∙ ap (λ (ys : List ℤ). written start ys to) o)

  -- the sides, and the parts of both slices
  module _ (h : Bool) (from to : List ℤ) (c : Channel) (lines size : ℕ) (ec : c ≡ bare p) (el : lines ≡ cond (not h) c.width c.height) (es : size ≡ cond h c.width c.height)
      (fit : sides_fit (bare p) ≡ true) (i : p.home + area p ≤ length from) (j : p.home + area p ≤ length to) where
    lines_so : lines ≡ lines_of h (bare p)
    lines_so = rw ec at el ∙ across h (bare p)

    size_so : size ≡ size_of h (bare p)
    size_so = rw ec at es

    fitting_so : slices_fit (lines_of h (bare p)) (size_of h (bare p)) (part p.home (area p) from) (part p.home (area p) to) ≡ true
    unfolding Channel.samples
    fitting_so =
        let by = samples_by h (bare p) in
        let f = fit_lines h (bare p) fit in
        fitting (lines_of h (bare p)) (size_of h (bare p)) (part p.home (area p) from) (part p.home (area p) to) f.0 f.1
        (part_length p.home (area p) from i ∙ by)
        (part_length p.home (area p) to j ∙ by)

    pub channel_put : (out : List ℤ) → out ≡ squeezed_into h lines size (take (p.home + n - p.home) (drop p.home from)) (take (p.home + n - p.home) (drop p.home to))
        → take p.home to ++ (out ++ drop (p.home + n - p.home) (drop p.home to)) ≡ written p.home (halves h (bare p) (part p.home (area p) from)) to
    unfolding Laid.part Standing.halves Runs.channel_averages Runs.channel_residuals
    channel_put out eo =
        let d = count_so p.home in
        let o : out ≡ halves h (bare p) (part p.home (area p) from) =
        rw (d, lines_so, size_so) at eo
        ∙ into_fit h (lines_of h (bare p)) (size_of h (bare p)) (part p.home (area p) from) (part p.home (area p) to) fitting_so in
        rw d (put_back p.home (area p) out to (ap length o ∙ halves_length h p (part p.home (area p) from)) ∙ ap (λ (ys : List ℤ). written p.home ys to) o)

    pub channel_told : (marks told : Bool)
        → told ≡ (marks && marked_into h lines size (take (p.home + n - p.home) (drop p.home from)) (take (p.home + n - p.home) (drop p.home to)))
        → told ≡ (marks && channel_written_marked h (bare p) (part p.home (area p) from))
    unfolding Laid.part channel_written_marked
    channel_told marks told e =
        let d = count_so p.home in
        rw (d, lines_so, size_so) at e
        ∙ ap (λ (t : Bool). marks && t)
        (told_fit h (lines_of h (bare p)) (size_of h (bare p)) (part p.home (area p) from) (part p.home (area p) to) fitting_so)
