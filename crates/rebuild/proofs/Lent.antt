-- Parts of slices as the checker lends and takes them back (`part` and `written` of crate places). Assumes nothing.
use mathlib.Core.Path.{◌≡◌, ◌∙◌}
use mathlib.Core.Bool.{Bool, true, false, cond}
use mathlib.Core.List.{List}
use Prim.Native.Nat.{ℕ, ◌+◌, ◌-◌, ◌≤◌}
use native.Mathlib.Omega.{arith}
use lib.IntN.{ℤ}
use lib.ListN.{length, take, drop}
use lib.Seq.{drop-drop}
use borrow.Rule.Slice.PartMut.{put_mid}
use Rattle.channel.specs.declared.Channel.{Channel}
use Rattle.places.specs.Laid.{part, written}
use Rattle.places.proofs.Parts.{part_length}
use Rattle.runs.specs.Runs.{channel_back}
use Rattle.rebuild.specs.declared.Source.{Source}
use Rattle.rebuild.specs.Run.{slice_of, start_of, made_of, lying_in}

pub lent : (at n : ℕ) (xs : List ℤ) → take (at + n - at) (drop at xs) ≡ part at n xs
unfolding part
lent at n xs = let z : at + n - at ≡ n = omega arith in rw z

pub back : (at n : ℕ) (ys zs xs : List ℤ) → ys ≡ zs → length zs ≡ n → put_mid at (at + n - at) xs ys ≡ written at zs xs
unfolding written
back at n ys zs xs e l =
    let z : at + n - at ≡ n = omega arith in
    rw (z, e, l, drop-drop n at xs)

-- an average or a residual has its samples in either slice
pub source_length : (s : Source) (n : ℕ) (pyramid beside : List ℤ) → start_of s + n ≤ length pyramid → length beside ≡ length pyramid
    → length (lying_in s n pyramid beside) ≡ n
source_length s n pyramid beside h e = by (made_of s)
  where
    by : (b : Bool) → length (part (start_of s) n (cond b beside pyramid)) ≡ n
    by true = part_length (start_of s) n beside (omega (arith, h, e))
    by false = part_length (start_of s) n pyramid h

pub made_from : (h : Bool) (c : Channel) (zs xs ys xs2 ys2 : List ℤ) → zs ≡ channel_back h c xs ys → xs ≡ xs2 → ys ≡ ys2 → zs ≡ channel_back h c xs2 ys2
made_from h c zs xs ys xs2 ys2 e ex ey = e ∙ rw (ex, ey)

pub slice_length : (b : Bool) (picture work : List ℤ) (n : ℕ) → length picture ≡ n → length work ≡ n → length (slice_of b picture work) ≡ n
slice_length true picture work n ep ew = ew
slice_length false picture work n ep ew = ep
