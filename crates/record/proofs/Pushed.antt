-- One channel more, in the arrays that hold a list and in "meta channels first". Assumes nothing.
use mathlib.Core.Path.{◌≡◌, refl, sym, ap, ◌∙◌}
use mathlib.Core.Bool.{Bool, true, false, ◌&&◌, ◌||◌, not, and-true, and_assoc, and-eq-true_iff, false≢true}
use mathlib.Core.List.{List, [], ◌∷◌, ◌++◌}
use Prim.Native.Nat.{ℕ, ◌+◌, ◌<◌}
use native.Mathlib.Omega.{arith}
use lib.ListN.{length, set, length-append}
use borrow.Author.Tests.{lt-ltb}
use Rattle.channel.specs.declared.Channel.{Channel}
use Rattle.channel.specs.Channel.{is_meta, is_allowed}
use Rattle.list.specs.Tables.{padded, map, all}
use Rattle.list.specs.Lists as Lists
use Rattle.list.specs.Lists.{max_channels, own_positions}
use Rattle.list.proofs.Channels.{own_length, own_snoc}
use Rattle.list.proofs.Maps.{map_length}
use Rattle.plan.proofs.Packed.{padded_snoc}
use Rattle.record.specs.Reading.{channel_allowed}

pub map_snoc {ℓ κ} : {A : Type ℓ} {B : Type κ} (f : A → B) (xs : List A) (x : A) → map f (xs ++ x ∷ []) ≡ map f xs ++ f x ∷ []
map_snoc f [] x = refl
map_snoc f (y ∷ xs) x = ap (◌∷◌ (f y)) (map_snoc f xs x)

all_snoc {ℓ} : {A : Type ℓ} (p : A → Bool) (xs : List A) (x : A) → all p (xs ++ x ∷ []) ≡ (all p xs && p x)
all_snoc p [] x = and-true (p x)
all_snoc p (y ∷ xs) x = ap (λ (b : Bool). p y && b) (all_snoc p xs x) ∙ sym (and_assoc (p y) (all p xs) (p x))

-- "meta channels first": the last channel's kind tells whether all are meta
pub metas_pushed : (cs : List Channel) (c : Channel) → channel_allowed c (all is_meta cs) ≡ true → is_meta c ≡ all is_meta (cs ++ c ∷ [])
unfolding channel_allowed
metas_pushed cs c h = rw all_snoc (go (is_meta c) (all is_meta cs) ((and-eq-true_iff (is_allowed c) (not (is_meta c) || all is_meta cs)).0 h).1)
  where
    go : (m a : Bool) → (not m || a) ≡ true → m ≡ (a && m)
    go true true e = refl
    go true false e = absurd (false≢true e)
    go false true e = refl
    go false false e = refl

entry_pushed : (f : Channel → ℕ) (cs : List Channel) (c : Channel) → length cs < max_channels
    → set (padded max_channels (map f cs)) (length cs) (f c) ≡ padded max_channels (map f (cs ++ c ∷ []))
entry_pushed f cs c h =
    let n = map_length f cs in
    ap (λ (k : ℕ). set (padded max_channels (map f cs)) k (f c)) (sym n)
    ∙ padded_snoc max_channels (map f cs) (f c) (omega arith)
    ∙ ap (padded max_channels) (sym (map_snoc f cs c))

-- its own position after theirs
own_pushed : (n : ℕ) → n < max_channels → set (padded max_channels (own_positions n)) n n ≡ padded max_channels (own_positions (n + 1))
own_pushed n h =
    let e = own_length n in
    ap (λ (k : ℕ). set (padded max_channels (own_positions n)) k n) (sym e)
    ∙ padded_snoc max_channels (own_positions n) n (omega arith)
    ∙ ap (padded max_channels) (sym (own_snoc n))

pub list_pushed : (cs : List Channel) (c : Channel) → length cs < max_channels → Lists.pushed (Lists.packed cs) c (length cs) ≡ Lists.packed (cs ++ c ∷ [])
unfolding Lists.pushed Lists.holding
list_pushed cs c h =
    let n : length cs + 1 ≡ length (cs ++ c ∷ []) = rw length-append in
    rw (lt-ltb (length cs) max_channels h)
    (λ i. record {
      count = n i;
      widths = entry_pushed (λ (d : Channel). d.width) cs c h i;
      heights = entry_pushed (λ (d : Channel). d.height) cs c h i;
      hshifts = entry_pushed (λ (d : Channel). d.hshift) cs c h i;
      vshifts = entry_pushed (λ (d : Channel). d.vshift) cs c h i;
      origins = (own_pushed (length cs) h ∙ ap (λ (m : ℕ). padded max_channels (own_positions m)) n) i;
    })

pub list_count : (cs : List Channel) → (Lists.packed cs).count ≡ length cs
unfolding Lists.holding
list_count cs = refl
