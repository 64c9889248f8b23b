-- The parts of the default plan (specs/Default.antt) as code makes them: the vertical step that goes first with the turns of the halved side, and
-- the chroma's steps each under its own test. Assumes nothing.
use mathlib.Core.Bool.{Bool, true, false, cond, ◌&&◌, and-false}
use mathlib.Core.Path.{◌≡◌, refl, sym, ap, ◌∙◌}
use mathlib.Core.List.{List, [], ◌∷◌, ◌++◌}
use Prim.Native.Nat.{ℕ, ◌+◌, ◌-◌, ◌<◌, ◌≤◌, min}
use native.Mathlib.Omega.{arith}
use lib.Dec.{eqb, leb, ltb}
use lib.ListN.{length}
use borrow.Author.Tests.{ltb-true}
use Rattle.channel.specs.declared.Channel.{Channel}
use Rattle.channel.specs.Channel.{sides_fit}
use Rattle.list.specs.declared.ChannelList.{ChannelList}
use Rattle.list.specs.declared.Step.{Step}
use Rattle.list.specs.Lists.{max_channels, max_steps, channel_at, channels, halved}
use Rattle.list.specs.Tables.{all}
use Rattle.list.specs.Questions.{channel_of}
use Rattle.list.proofs.Channels.{channels_length, channels_at}
use Rattle.list.proofs.Maps.{all_at}
use Rattle.plan.specs.declared.DefaultRule.{DefaultRule}
use Rattle.plan.specs.Default.{meta_count, when, step, chroma, rounds, all_channels, default_steps}
use Rattle.plan.proofs.Turns.{rounds_enough}
use Rattle.plan.proofs.Length.{when_length, default_fits}

module _ (stop m n w h : ℕ) where
  pub vertical_first : (h' : ℕ) → 1 ≤ stop → (leb w h && ltb stop h) ≡ true → h' ≡ halved h
      → all_channels stop m n w h ≡ step false true m n ∷ rounds (w + h') stop m n w h'
  unfolding all_channels
  vertical_first h' one e eh =
      rw (e, eh)
      (ap (λ (ss : List Step). step false true m n ∷ ss) (rounds_enough stop m n (w + h) (w + halved h) w (halved h) one (omega arith) (omega arith)))

  pub turns_alone : (leb w h && ltb stop h) ≡ false → all_channels stop m n w h ≡ rounds (w + h) stop m n w h
  unfolding all_channels
  turns_alone e = rw e

-- the chroma's two steps
abbrev pub alike : Bool → ℕ → ℕ → ℕ → Channel → Bool
alike wanted n w h second = wanted && ltb 2 n && eqb second.width w && eqb second.height h

abbrev pub chroma_across : Bool → ℕ → ℕ → ℕ → ℕ → Channel → List Step
chroma_across wanted m n w h second = when (alike wanted n w h second && ltb 1 w) (step true false (m + 1) 2)

abbrev pub chroma_down : Bool → ℕ → ℕ → ℕ → ℕ → Channel → List Step
chroma_down wanted m n w h second = when (alike wanted n w h second && ltb 1 h) (step false false (m + 1) 2)

module _ (wanted : Bool) (m n w h : ℕ) (second : Channel) where
  pub across_length : length (chroma_across wanted m n w h second) ≤ 1
  across_length = when_length (alike wanted n w h second && ltb 1 w) (step true false (m + 1) 2)

  pub down_length : length (chroma_down wanted m n w h second) ≤ 1
  down_length = when_length (alike wanted n w h second && ltb 1 h) (step false false (m + 1) 2)

  pub chroma_steps : chroma wanted m n w h second ≡ chroma_across wanted m n w h second ++ chroma_down wanted m n w h second
  unfolding chroma
  chroma_steps = go wanted (ltb 2 n) (eqb second.width w) (eqb second.height h)
    where
      across : Step
      across = step true false (m + 1) 2

      down : Step
      down = step false false (m + 1) 2

      go : (t a b d : Bool)
          → cond (t && (a && (b && d))) (when (ltb 1 w) across ++ when (ltb 1 h) down) []
          ≡ when (t && a && b && d && ltb 1 w) across ++ when (t && a && b && d && ltb 1 h) down
      go true true true true = refl
      go true true true false = refl
      go true true false d = refl
      go true false b d = refl
      go false a b d = refl

-- a second channel that is not looked at may be any
pub chroma_second : (wanted : Bool) (m n w h : ℕ) (x y : Channel) → (2 < n → x ≡ y) → chroma wanted m n w h x ≡ chroma wanted m n w h y
unfolding chroma
chroma_second wanted m n w h x y same = go (ltb 2 n) refl
  where
    shown : Channel → Bool → List Step
    shown second t =
        cond (wanted && (t && (eqb second.width w && eqb second.height h)))
        (when (ltb 1 w) (step true false (m + 1) 2) ++ when (ltb 1 h) (step false false (m + 1) 2))
        []

    go : (t : Bool) → ltb 2 n ≡ t → shown x t ≡ shown y t
    go true e = ap (λ (second : Channel). shown second true) (same (ltb-true 2 n e))
    go false e = rw (and-false wanted)

-- ---- the default plan of flat arrays with `count` channels, from the entries at m and m + 1
abbrev pub first_part : Bool → ℕ → ℕ → Channel → Channel → List Step
first_part wanted count m first second = chroma wanted m (count - m) first.width first.height second

abbrev pub second_part : ℕ → ℕ → ℕ → Channel → List Step
second_part stop count m first = all_channels stop m (count - m) first.width first.height

pub record Parted (rule : DefaultRule) (l : ChannelList) (count m : ℕ) (first second : Channel) : Type 0 where
  pub so : first_part rule.chroma count m first second ++ second_part rule.stop count m first ≡ default_steps rule (channels l)
  pub room : length (first_part rule.chroma count m first second ++ second_part rule.stop count m first) ≤ max_steps

module _ (l : ChannelList) (sides : all sides_fit (channels l) ≡ true) (count m : ℕ) (first second : Channel) (en : count ≡ min l.count max_channels) (em : m ≡ meta_count (channels l)) (some : m < count) (e₁ : first ≡ channel_at l m) (e₂ : second ≡ channel_at l (m + 1)) where
  long : length (channels l) ≡ count
  long = channels_length l ∙ sym en

  parts_so : (rule : DefaultRule) → first_part rule.chroma count m first second ++ second_part rule.stop count m first ≡ default_steps rule (channels l)
  unfolding default_steps
  parts_so rule =
      let l' = long in
      let n = count - m in
      let w = (channel_at l m).width in
      let h = (channel_at l m).height in
      rw (← em, l', ← (channels_at l m (omega arith)), e₁)
      (ap (λ (ss : List Step). ss ++ all_channels rule.stop m n w h)
      (chroma_second rule.chroma m n w h second (channel_of (channels l) (m + 1)) (λ many. e₂ ∙ channels_at l (m + 1) (omega arith))))

  -- no side is above the limit, so the plan has room
  pub parted : (rule : DefaultRule) → 1 ≤ rule.stop → Parted rule l count m first second
  parted rule one =
      let l' = long in
      let fit = all_at sides_fit (channels l) (meta_count (channels l)) _ sides (omega arith) in
      record { so = parts_so rule; room = rw (parts_so rule) (default_fits rule (channels l) one fit) }
