-- "meta channels first" (question 4): asked channel by channel, as a loop does, and of lists that are joined or cut.
-- Assumes nothing.
use mathlib.Core.Path.{◌≡◌, refl, sym, ap, ◌∙◌}
use mathlib.Core.Bool.{Bool, true, false, cond, not, ◌&&◌, ◌||◌, true≢false, false≢true, and-eq-true_iff}
use mathlib.Core.List.{List, [], ◌∷◌, ◌++◌}
use Prim.Native.Nat.{ℕ, zero, suc, ◌+◌, ◌-◌, ◌<◌}
use native.Mathlib.Omega.{arith}
use lib.ListN.{length, take, drop, take-append-drop}
use lib.Seq.{drop-nil}
use borrow.Author.Tests.{not-true}
use Rattle.channel.specs.declared.Channel.{Channel}
use Rattle.channel.specs.Channel.{is_meta, is_allowed}
use Rattle.list.specs.Tables.{table, all}
use Rattle.list.specs.Questions.{meta_first, channel_of}
use Rattle.list.proofs.Tables.{table_rest}
use Rattle.list.proofs.Maps.{all_at, all_parts, all_append}

abbrev pub plain : Channel → Bool
plain c = not (is_meta c)

-- whether cs may stand after channels of which the last is meta (false) or not (true)
abbrev pub allowed_after : Bool → List Channel → Bool
allowed_after after cs = all is_allowed cs && cond after (all plain cs) (meta_first cs)

pub allowed_end : (after : Bool) → allowed_after after [] ≡ true
allowed_end true = refl
allowed_end false = refl

-- one channel's answers: a to question 4 of it alone, m its kind, and p that the one before is not meta
refused : (p a m x n f : Bool) → (not a || (p && m)) ≡ true → ((a && x) && cond p (not m && n) (cond m f n)) ≡ false
refused p false m x n f h = refl
refused true true true true n f h = refl
refused true true true false n f h = refl
refused true true false x n f h = absurd (false≢true h)
refused false true m x n f h = absurd (false≢true h)

passed : (p a m x n f : Bool) → (not a || (p && m)) ≡ false → ((a && x) && cond p (not m && n) (cond m f n)) ≡ (x && cond (not m) n f)
passed p false m x n f h = absurd (true≢false h)
passed true true true x n f h = absurd (true≢false h)
passed true true false x n f h = refl
passed false true true x n f h = refl
passed false true false x n f h = refl

-- the channels from k on, where v, its answer a to question 4 and its kind m were found at k
module _ (f : ℕ → Channel) (k n : ℕ) (after a m : Bool) (v : Channel) (h : k < n) (ev : v ≡ f k) (ea : a ≡ is_allowed v) (em : m ≡ is_meta v) where
  pub allowed_stop : (not a || (after && m)) ≡ true → false ≡ allowed_after after (table f k (n - k))
  allowed_stop t = rw (table_rest f k n h, ← ev, ← ea, ← em) (sym (refused after a m _ _ _ t))

  pub allowed_next : (not a || (after && m)) ≡ false → allowed_after (not m) (table f (k + 1) (n - (k + 1))) ≡ allowed_after after (table f k (n - k))
  allowed_next t = rw (table_rest f k n h, ← ev, ← ea, ← em) (sym (passed after a m _ _ _ t))

-- ---- joined lists
plain_is : (c : Channel) → plain c ≡ true → is_meta c ≡ false
plain_is c = not-true (is_meta c)

first_plain : (c : Channel) (cs : List Channel) → is_meta c ≡ false → meta_first (c ∷ cs) ≡ all plain cs
first_plain c cs e = rw e

first_meta : (c : Channel) (cs : List Channel) → is_meta c ≡ true → meta_first (c ∷ cs) ≡ meta_first cs
first_meta c cs e = rw e

plains_first : (cs : List Channel) → all plain cs ≡ true → meta_first cs ≡ true
plains_first [] a = refl
plains_first (c ∷ cs) a = let b = (and-eq-true_iff (plain c) (all plain cs)).0 a in first_plain c cs (plain_is c b.0) ∙ b.1

-- meta channels may stand before, and others after
pub metas_before : (cs ds : List Channel) → all is_meta cs ≡ true → meta_first (cs ++ ds) ≡ meta_first ds
metas_before [] ds a = refl
metas_before (c ∷ cs) ds a =
    let b = (and-eq-true_iff (is_meta c) (all is_meta cs)).0 a in
    first_meta c (cs ++ ds) b.0 ∙ metas_before cs ds b.1

pub plains_after : (cs ds : List Channel) → meta_first cs ≡ true → all plain ds ≡ true → meta_first (cs ++ ds) ≡ true
plains_after [] ds f a = plains_first ds a
plains_after (c ∷ cs) ds f a = go (is_meta c) refl (plains_after cs ds)
  where
    go : (m : Bool) → is_meta c ≡ m → (meta_first cs ≡ true → all plain ds ≡ true → meta_first (cs ++ ds) ≡ true) → meta_first (c ∷ (cs ++ ds)) ≡ true
    go true e ih = first_meta c (cs ++ ds) e ∙ ih (sym (first_meta c cs e) ∙ f) a
    go false e ih = first_plain c (cs ++ ds) e ∙ all_append plain cs ds (sym (first_plain c cs e) ∙ f) a

pub first_parts : (cs ds : List Channel) → meta_first (cs ++ ds) ≡ true → (meta_first cs ≡ true) × (meta_first ds ≡ true)
first_parts [] ds f = (refl, f)
first_parts (c ∷ cs) ds f = go (is_meta c) refl (first_parts cs ds)
  where
    go : (m : Bool) → is_meta c ≡ m → (meta_first (cs ++ ds) ≡ true → (meta_first cs ≡ true) × (meta_first ds ≡ true)) → (meta_first (c ∷ cs) ≡ true) × (meta_first ds ≡ true)
    go true e ih = let i = ih (sym (first_meta c (cs ++ ds) e) ∙ f) in (first_meta c cs e ∙ i.0, i.1)
    go false e ih =
        let b = all_parts plain cs ds (sym (first_plain c (cs ++ ds) e) ∙ f) in
        (first_plain c cs e ∙ b.0, plains_first ds b.1)

-- up to a meta channel all are meta, and from another on none is
pub metas_to : (cs : List Channel) (k : ℕ) → meta_first cs ≡ true → k < length cs → is_meta (channel_of cs k) ≡ true → all is_meta (take (suc k) cs) ≡ true
metas_to [] k f h e = absurd (omega arith)
metas_to (c ∷ cs) zero f h e = (and-eq-true_iff (is_meta c) true).1 (e, refl)
metas_to (c ∷ cs) (suc k) f h e = go (is_meta c) refl (metas_to cs k)
  where
    go : (m : Bool) → is_meta c ≡ m → (meta_first cs ≡ true → k < length cs → is_meta (channel_of cs k) ≡ true → all is_meta (take (suc k) cs) ≡ true)
        → all is_meta (take (suc (suc k)) (c ∷ cs)) ≡ true
    go true m ih = (and-eq-true_iff (is_meta c) (all is_meta (take (suc k) cs))).1 (m, ih (sym (first_meta c cs m) ∙ f) (omega arith) e)
    go false m ih =
        let p = all_at plain cs k _ (sym (first_plain c cs m) ∙ f) (omega arith) in
        absurd (true≢false (sym e ∙ plain_is (channel_of cs k) p))

pub plains_from : (cs : List Channel) (k : ℕ) → meta_first cs ≡ true → is_meta (channel_of cs k) ≡ false → all plain (drop k cs) ≡ true
plains_from [] k f e = ap (all plain) (drop-nil k)
plains_from (c ∷ cs) zero f e = (and-eq-true_iff (plain c) (all plain cs)).1 (ap not e, sym (first_plain c cs e) ∙ f)
plains_from (c ∷ cs) (suc k) f e = go (is_meta c) refl (plains_from cs k)
  where
    go : (m : Bool) → is_meta c ≡ m → (meta_first cs ≡ true → is_meta (channel_of cs k) ≡ false → all plain (drop k cs) ≡ true) → all plain (drop k cs) ≡ true
    go true m ih = ih (sym (first_meta c cs m) ∙ f) e
    go false m ih = (all_parts plain (take k cs) (drop k cs) (rw (take-append-drop k cs) (sym (first_plain c cs m) ∙ f))).1
