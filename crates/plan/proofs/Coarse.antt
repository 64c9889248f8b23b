-- The laws of the coarse count (specs/Coarse.antt). Rests on laws of `leading`, whatever the test is. Assumes nothing.
use mathlib.Core.Path.{◌≡◌, refl, sym, ap, ◌∙◌}
use mathlib.Core.Bool.{Bool, true, false, not, cond, true≢false, and-eq-true_iff, or-true}
use mathlib.Core.List.{List, [], ◌∷◌}
use Prim.Native.Nat.{ℕ, zero, suc, ◌+◌, ◌<◌, ◌≤◌}
use native.Mathlib.Omega.{arith}
use lib.Dec.{leb, ltb}
use lib.ListN.{length, drop}
use borrow.Author.Tests.{not-true, leb-true, le-leb, ltb-true, ltb-false}
use Rattle.channel.specs.declared.Channel.{Channel}
use Rattle.channel.specs.Channel.{is_meta}
use Rattle.list.specs.Tables.{all}
use Rattle.list.specs.Questions.{no_meta, meta_first, channel_of}
use Rattle.list.specs.declared.ChannelList.{ChannelList}
use Rattle.list.specs.Lists.{channels}
use Rattle.plan.specs.Coarse.{CoarseCount}
use Rattle.plan.specs.Version.{is_version, rule_of}
use Rattle.plan.specs.Default as Default
use Rattle.plan.specs.Default.{leading, meta_count}
use Rattle.plan.specs.Coarse.{is_small, is_coarse, coarse_count, coarse_of, OthersSmall, IsCount, CountLaws}

-- ---- the leading channels that pass a test
module _ (p : Channel → Bool) where
  pub leading_within : (cs : List Channel) → leading p cs ≤ length cs
  leading_within [] = omega arith
  leading_within (c ∷ cs) = go (p c) (leading_within cs)
    where
      go : (b : Bool) → leading p cs ≤ length cs → cond b (suc (leading p cs)) 0 ≤ suc (length cs)
      go true h = omega arith
      go false h = omega arith

  pub leading_counted : (cs : List Channel) (k : ℕ) → k < leading p cs → p (channel_of cs k) ≡ true
  leading_counted [] k h = absurd (omega arith)
  leading_counted (c ∷ cs) k h = go (p c) refl k (leading_counted cs) h
    where
      go : (b : Bool) → p c ≡ b → (k : ℕ) → ((j : ℕ) → j < leading p cs → p (channel_of cs j) ≡ true) → k < cond b (suc (leading p cs)) 0
          → p (channel_of (c ∷ cs) k) ≡ true
      go false e k ih h = absurd (omega arith)
      go true e zero ih h = e
      go true e (suc k) ih h = ih k (omega arith)

  leading_ended : (cs : List Channel) → leading p cs < length cs → p (channel_of cs (leading p cs)) ≡ false
  leading_ended [] h = absurd (omega arith)
  leading_ended (c ∷ cs) h = go (p c) refl (leading_ended cs) h
    where
      go : (b : Bool) → p c ≡ b → (leading p cs < length cs → p (channel_of cs (leading p cs)) ≡ false) → cond b (suc (leading p cs)) 0 < suc (length cs)
          → p (channel_of (c ∷ cs) (cond b (suc (leading p cs)) 0)) ≡ false
      go true e ih h = ih (omega arith)
      go false e ih h = e

  leading_all : (cs : List Channel) → ((k : ℕ) → k < length cs → p (channel_of cs k) ≡ true) → leading p cs ≡ length cs
  leading_all cs h = go (ltb (leading p cs) (length cs)) refl
    where
      go : (b : Bool) → ltb (leading p cs) (length cs) ≡ b → leading p cs ≡ length cs
      go true e = let n = ltb-true (leading p cs) (length cs) e in absurd (true≢false (sym (h (leading p cs) n) ∙ leading_ended cs n))
      go false e = omega (arith, ltb-false (leading p cs) (length cs) e, leading_within cs)

module _ (p q : Channel → Bool) where
  -- a test that is passed more often counts as many or more
  leading_more : ((c : Channel) → p c ≡ true → q c ≡ true) → (cs : List Channel) → leading p cs ≤ leading q cs
  leading_more h [] = omega arith
  leading_more h (c ∷ cs) = go (p c) refl (leading_more h cs)
    where
      go : (b : Bool) → p c ≡ b → leading p cs ≤ leading q cs → cond b (suc (leading p cs)) 0 ≤ cond (q c) (suc (leading q cs)) 0
      go true e ih = rw (h c e) (omega arith)
      go false e ih = omega arith

  -- two tests that agree on every channel that passes r
  leading_same : (r : Channel → Bool) → ((c : Channel) → r c ≡ true → p c ≡ q c) → (cs : List Channel) → all r cs ≡ true → leading p cs ≡ leading q cs
  leading_same r h [] a = refl
  leading_same r h (c ∷ cs) a =
      let b = (and-eq-true_iff (r c) (all r cs)).0 a in
      rw (h c b.0) (ap (λ (n : ℕ). cond (q c) (suc n) 0) (leading_same r h cs b.1))

-- ---- the coarse count
module _ (stop : ℕ) where
  pub meta_coarse : (c : Channel) → is_meta c ≡ true → is_coarse stop c ≡ true
  unfolding is_coarse
  meta_coarse c e = rw e

  plain_coarse : (c : Channel) → is_meta c ≡ false → is_coarse stop c ≡ is_small stop c
  unfolding is_coarse
  plain_coarse c e = rw e

  -- "what it was"
  pub no_meta_count : (cs : List Channel) → no_meta cs ≡ true → coarse_count stop cs ≡ leading (is_small stop) cs
  unfolding coarse_count
  no_meta_count = leading_same (is_coarse stop) (is_small stop) (λ c. not (is_meta c)) (λ c e. plain_coarse c (not-true (is_meta c) e))

  small_sides : (c : Channel) → is_small stop c ≡ true → (c.width ≤ stop) × (c.height ≤ stop)
  small_sides c e =
      let b = (and-eq-true_iff (leb c.width stop) (leb c.height stop)).0 e in
      (leb-true c.width stop b.0, leb-true c.height stop b.1)

  sides_small_lem : (c : Channel) → (c.width ≤ stop) × (c.height ≤ stop) → is_small stop c ≡ true
  sides_small_lem c s = (and-eq-true_iff (leb c.width stop) (leb c.height stop)).1 (le-leb c.width stop s.0, le-leb c.height stop s.1)

  pub small_coarse : (c : Channel) → (c.width ≤ stop) × (c.height ≤ stop) → is_coarse stop c ≡ true
  unfolding is_coarse
  small_coarse c s = rw (sides_small_lem c s) (or-true (is_meta c))

  all_small : (cs : List Channel) → coarse_count stop cs ≡ length cs → OthersSmall stop cs
  unfolding coarse_count
  all_small cs e k h m =
      small_sides (channel_of cs k) (sym (plain_coarse (channel_of cs k) m) ∙ leading_counted (is_coarse stop) cs k (omega arith))

  small_all : (cs : List Channel) → OthersSmall stop cs → coarse_count stop cs ≡ length cs
  unfolding coarse_count
  small_all cs s = leading_all (is_coarse stop) cs (λ k h. go k h (is_meta (channel_of cs k)) refl)
    where
      go : (k : ℕ) → k < length cs → (m : Bool) → is_meta (channel_of cs k) ≡ m → is_coarse stop (channel_of cs k) ≡ true
      go k h true e = meta_coarse (channel_of cs k) e
      go k h false e = plain_coarse (channel_of cs k) e ∙ sides_small_lem (channel_of cs k) (s k h e)

  is_count : (cs : List Channel) → IsCount stop cs (coarse_count stop cs)
  unfolding coarse_count
  is_count cs =
      record { within = leading_within (is_coarse stop) cs; counted = leading_counted (is_coarse stop) cs; ended = leading_ended (is_coarse stop) cs }

  -- of two different numbers the larger counts a channel at which the smaller ends
  apart : (cs : List Channel) (m n : ℕ) → m < n → IsCount stop cs m → IsCount stop cs n → ⊥
  apart cs m n h a b = let w = b.within in true≢false (sym (b.counted m h) ∙ a.ended (omega arith))

  only : (cs : List Channel) (n : ℕ) → IsCount stop cs n → n ≡ coarse_count stop cs
  only cs n a = go (ltb n (coarse_count stop cs)) (ltb (coarse_count stop cs) n) refl refl
    where
      go : (b c : Bool) → ltb n (coarse_count stop cs) ≡ b → ltb (coarse_count stop cs) n ≡ c → n ≡ coarse_count stop cs
      go true c e f = absurd (apart cs n (coarse_count stop cs) (ltb-true n (coarse_count stop cs) e) a (is_count cs))
      go false true e f = absurd (apart cs (coarse_count stop cs) n (ltb-true (coarse_count stop cs) n f) (is_count cs) a)
      go false false e f = omega (arith, ltb-false n (coarse_count stop cs) e, ltb-false (coarse_count stop cs) n f)

  parts : (cs : List Channel) → meta_first cs ≡ true → coarse_count stop cs ≡ meta_count cs + leading (is_small stop) (drop (meta_count cs) cs)
  unfolding coarse_count Default.meta_count
  parts [] f = refl
  parts (c ∷ cs) f = go (is_meta c) refl (parts cs)
    where
      go : (m : Bool) → is_meta c ≡ m
          → (meta_first cs ≡ true → coarse_count stop cs ≡ meta_count cs + leading (is_small stop) (drop (meta_count cs) cs))
          → leading (is_coarse stop) (c ∷ cs)
          ≡ cond m (suc (leading is_meta cs)) 0 + leading (is_small stop) (drop (cond m (suc (leading is_meta cs)) 0) (c ∷ cs))
      go true e ih = let i = ih (rw e at f) in rw (meta_coarse c e) (omega arith)
      go false e ih = let n = no_meta_count (c ∷ cs) (rw e (rw e at f)) in omega arith

  pub count_laws : (cs : List Channel) → CountLaws stop cs
  unfolding coarse_count Default.meta_count
  count_laws cs =
      record {
        counts = is_count cs;
        only = only cs;
        metas = leading_more is_meta (is_coarse stop) meta_coarse cs;
        all_small = all_small cs;
        small_all = small_all cs;
        as_before = no_meta_count cs;
        parts = parts cs;
      }

-- r is what `coarse_count` gave
pub coarse_is : (version : ℕ) (l : ChannelList) → is_version version ≡ true → (r : CoarseCount) → r ≡ coarse_of version l
    → r.count ≡ coarse_count (rule_of version).stop (channels l)
unfolding coarse_of
coarse_is version l v r e = ap (λ (x : CoarseCount). x.count) e ∙ rw v

-- a known version is not refused
pub coarse_accepted : (version : ℕ) (l : ChannelList) → is_version version ≡ true → (r : CoarseCount) → r ≡ coarse_of version l → r.answer ≡ 0
unfolding coarse_of
coarse_accepted version l v r e = ap (λ (x : CoarseCount). x.answer) e ∙ rw v
