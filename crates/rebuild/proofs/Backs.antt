-- A step back on one part a channel (`back_parts` of crate runs), part by part: before the range, in it, and behind it; and its mark by the channels of
-- the range. Assumes nothing.
use mathlib.Core.Path.{◌≡◌, refl, sym, ap, ◌∙◌}
use mathlib.Core.Bool.{Bool, true, false, cond}
use mathlib.Core.List.{List, [], ◌∷◌, ◌++◌}
use Prim.Native.Nat.{ℕ, zero, suc, ◌+◌, ◌-◌, ◌<◌, ◌≤◌}
use native.Mathlib.Omega.{arith}
use lib.IntN.{ℤ}
use lib.ListN.{length, get_or, take, drop, length-append, length-drop}
use lib.Seq.{length-take-le, get_or-take, get_or-drop}
use Rattle.range.specs.Range.{some}
use Rattle.range.proofs.Some.{some_cong}
use Rattle.channel.specs.declared.Channel.{Channel}
use Rattle.channel.specs.Channel.{samples}
use Rattle.list.specs.declared.Step.{Step}
use Rattle.list.specs.Lists.{range}
use Rattle.list.specs.Questions.{channel_of}
use Rattle.list.proofs.Entries.{length_range}
use Rattle.list.proofs.Maps.{left_at, right_at}
use Rattle.places.specs.Places.{residuals_at}
use Rattle.runs.specs.Runs.{channel_back, all_back_by, behind, residual_parts, other_parts, back_parts}
use Rattle.runs.specs.Marks.{channel_marked, step_marked}
use Rattle.runs.proofs.Each.{range_some}
use Rattle.runs.proofs.Shapes.{Shaped}

-- ---- parts with the lengths of a list's channels
pub shaped_at : (cs : List Channel) (ps : List (List ℤ)) → Shaped cs ps → (k : ℕ) → k < length cs → length (get_or ps k []) ≡ samples (channel_of cs k)
shaped_at [] ps h k l = absurd (omega arith)
shaped_at (c ∷ cs) [] h k l = absurd h
shaped_at (c ∷ cs) (p ∷ ps) h zero l = h.0
shaped_at (c ∷ cs) (p ∷ ps) h (suc k) l = shaped_at cs ps h.1 k (omega arith)

-- ---- the range
module _ (f : Channel → List ℤ → List ℤ → List ℤ) where
  all_length : (cs : List Channel) (vs rs : List (List ℤ)) → length vs ≡ length cs → length rs ≡ length cs → length (all_back_by f cs vs rs) ≡ length cs
  all_length [] vs rs ea er = refl
  all_length (c ∷ cs) [] rs ea er = absurd (omega arith)
  all_length (c ∷ cs) (a ∷ vs) [] ea er = absurd (omega arith)
  all_length (c ∷ cs) (a ∷ vs) (r ∷ rs) ea er = ap suc (all_length cs vs rs (omega arith) (omega arith))

  all_at : (cs : List Channel) (vs rs : List (List ℤ)) → length vs ≡ length cs → length rs ≡ length cs → (i : ℕ) → i < length cs
      → get_or (all_back_by f cs vs rs) i [] ≡ f (channel_of cs i) (get_or vs i []) (get_or rs i [])
  all_at [] vs rs ea er i h = absurd (omega arith)
  all_at (c ∷ cs) [] rs ea er i h = absurd (omega arith)
  all_at (c ∷ cs) (a ∷ vs) [] ea er i h = absurd (omega arith)
  all_at (c ∷ cs) (a ∷ vs) (r ∷ rs) ea er zero h = refl
  all_at (c ∷ cs) (a ∷ vs) (r ∷ rs) ea er (suc i) h = all_at cs vs rs (omega arith) (omega arith) i (omega arith)

module _ (s : Step) (cs : List Channel) (ps : List (List ℤ)) (inside : s.begin + s.number ≤ length cs) (long : length ps ≡ length cs + s.number) where
  abbrev vs : List (List ℤ)
  vs = take s.number (drop s.begin ps)

  abbrev rest : List (List ℤ)
  rest = drop (s.begin + s.number) ps

  abbrev made : List (List ℤ)
  made = all_back_by (channel_back s.horizontal) (range s cs) vs (residual_parts s cs rest)

  front_long : length (take s.begin ps) ≡ s.begin
  front_long = length-take-le s.begin ps (omega arith)

  range_long : length (range s cs) ≡ s.number
  range_long = length_range s cs inside

  vs_long : length vs ≡ length (range s cs)
  vs_long = length_range s ps (omega arith) ∙ sym range_long

  rest_long : length rest ≡ length cs - s.begin
  rest_long = let d = length-drop (s.begin + s.number) ps in omega arith

  rs_long : (b : Bool) → length (cond b (take s.number rest) (drop (behind s cs) rest)) ≡ length (range s cs)
  rs_long true = let l = rest_long in let n = range_long in length-take-le s.number rest (omega arith) ∙ omega arith
  rs_long false = let l = rest_long in let n = range_long in let d = length-drop (behind s cs) rest in omega arith

  others_long : (b : Bool) → length (cond b (drop s.number rest) (take (behind s cs) rest)) ≡ length cs - (s.begin + s.number)
  others_long true = let l = rest_long in let d = length-drop s.number rest in omega arith
  others_long false = let l = rest_long in length-take-le (behind s cs) rest (omega arith)

  made_long : length made ≡ s.number
  made_long = all_length (channel_back s.horizontal) (range s cs) vs (residual_parts s cs rest) vs_long (rs_long s.inplace) ∙ range_long

  pub back_count : length (back_parts s cs ps) ≡ length cs
  unfolding back_parts
  back_count =
      let a = length-append (take s.begin ps) (made ++ other_parts s cs rest) in
      let b = length-append made (other_parts s cs rest) in
      let l = front_long in
      let m = made_long in
      let o = others_long s.inplace in
      omega arith

  pub back_before : (k : ℕ) → k < s.begin → get_or (back_parts s cs ps) k [] ≡ get_or ps k []
  unfolding back_parts
  back_before k h = left_at (take s.begin ps) _ s.begin k [] front_long h ∙ get_or-take s.begin ps k [] h

  rs_at : (b : Bool) → s.inplace ≡ b → (i : ℕ) → i < s.number → get_or (cond b (take s.number rest) (drop (behind s cs) rest)) i [] ≡ get_or ps (cond b (s.begin + s.number) (length cs) + i) []
  rs_at true e i h = get_or-take s.number rest i [] h ∙ get_or-drop (s.begin + s.number) ps i []
  rs_at false e i h =
      let z : s.begin + s.number + (behind s cs + i) ≡ length cs + i = omega arith in
      get_or-drop (behind s cs) rest i [] ∙ get_or-drop (s.begin + s.number) ps (behind s cs + i) [] ∙ rw z

  -- what channel i of the range is made of
  channel_at : (i : ℕ) → i < s.number → channel_of (range s cs) i ≡ channel_of cs (s.begin + i)
  channel_at i h = get_or-take s.number (drop s.begin cs) i _ h ∙ get_or-drop s.begin cs i _

  average_at : (i : ℕ) → i < s.number → get_or vs i [] ≡ get_or ps (s.begin + i) []
  average_at i h = get_or-take s.number (drop s.begin ps) i [] h ∙ get_or-drop s.begin ps i []

  pub back_range : (i : ℕ) → i < s.number
      → get_or (back_parts s cs ps) (s.begin + i) [] ≡ channel_back s.horizontal (channel_of cs (s.begin + i)) (get_or ps (s.begin + i) []) (get_or ps (residuals_at (length cs) s + i) [])
  unfolding back_parts
  back_range i h =
      let z : s.begin + i - s.begin ≡ i = omega arith in
      let n = range_long in
      right_at (take s.begin ps) _ s.begin (s.begin + i) [] front_long (omega arith)
      ∙ rw z (left_at made (other_parts s cs rest) s.number i [] made_long h
      ∙ all_at (channel_back s.horizontal) (range s cs) vs (residual_parts s cs rest) vs_long (rs_long s.inplace) i (omega arith)
      ∙ rw (channel_at i h, average_at i h, rs_at s.inplace refl i h))

  -- the mark of it
  abbrev pub channel_at_marked : ℕ → Bool
  channel_at_marked i =
      channel_marked s.horizontal (channel_of cs (s.begin + i)) (get_or ps (s.begin + i) []) (get_or ps (residuals_at (length cs) s + i) [])

  pub step_by_channels : step_marked s cs ps ≡ some channel_at_marked s.number
  unfolding step_marked
  step_by_channels =
      range_some s.horizontal (range s cs) vs (residual_parts s cs rest) vs_long (rs_long s.inplace)
      ∙ rw range_long (some_cong _ channel_at_marked s.number (λ i h. rw (channel_at i h, average_at i h, rs_at s.inplace refl i h)))

  others_at : (b : Bool) (i : ℕ) → i < length cs - (s.begin + s.number) → get_or (cond b (drop s.number rest) (take (behind s cs) rest)) i [] ≡ get_or ps (s.begin + s.number + i + cond b s.number 0) []
  others_at true i h =
      let z : s.begin + s.number + (s.number + i) ≡ s.begin + s.number + i + s.number = omega arith in
      get_or-drop s.number rest i [] ∙ get_or-drop (s.begin + s.number) ps (s.number + i) [] ∙ rw z
  others_at false i h =
      let z : s.begin + s.number + i + 0 ≡ s.begin + s.number + i = omega arith in
      get_or-take (behind s cs) rest i [] h ∙ get_or-drop (s.begin + s.number) ps i [] ∙ rw z

  pub back_behind : (k : ℕ) → s.begin + s.number ≤ k → k < length cs → get_or (back_parts s cs ps) k [] ≡ get_or ps (k + cond s.inplace s.number 0) []
  unfolding back_parts
  back_behind k h l =
      let z : k - s.begin - s.number ≡ k - (s.begin + s.number) = omega arith in
      let y : s.begin + s.number + (k - (s.begin + s.number)) ≡ k = omega arith in
      right_at (take s.begin ps) _ s.begin k [] front_long (omega arith)
      ∙ right_at made (other_parts s cs rest) s.number (k - s.begin) [] made_long (omega arith)
      ∙ rw z (others_at s.inplace (k - (s.begin + s.number)) (omega arith) ∙ rw y)
