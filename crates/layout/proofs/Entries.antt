-- Entries put over the front of a slice as their numbers, one after the other (specs/Entries.antt). Assumes nothing.
use mathlib.Core.Path.{◌≡◌, refl, sym, ap, ◌∙◌, subst}
use mathlib.Core.List.{List, [], ◌∷◌, ◌++◌, append_assoc, append-nil}
use Prim.Native.Nat.{ℕ, suc, ◌+◌, ◌-◌, ◌*◌, ◌<◌, ◌≤◌}
use native.Mathlib.Omega.{arith}
use native.Mathlib.Nat.{mul-le-mul_left, mul-suc}
use borrow.Author.Count.{below_more}
use borrow.Rule.Slice.PartMut.{put_mid}
use lib.ListN.{length, get_or, length-append, get_or-append}
use lib.Seq.{drop-drop, get_or-append_seam, ext_get_or}
use Rattle.list.specs.Tables.{table}
use Rattle.list.proofs.Tables.{table_length, table_at}
use Rattle.record.specs.Bytes.{joined, placed}
use Rattle.record.proofs.Placed.{placed_none, placed_more}
use Rattle.layout.specs.Layout.{over}
use Rattle.layout.specs.Entries.{Entries}
use Rattle.layout.proofs.Fronts.{placed_front}

joined_last {ℓ} : {A : Type ℓ} (field : A → List ℕ) (xs : List A) (x : A) → joined field (xs ++ x ∷ []) ≡ joined field xs ++ field x
joined_last field [] x = append-nil (field x)
joined_last field (y ∷ xs) x = rw (joined_last field xs x) (sym (append_assoc (field y) (joined field xs) (field x)))

-- one more of n numbers, where `count` of them have room
pub next_fits : (n k count room : ℕ) → k < count → n * count ≤ room → n * k + n ≤ room
next_fits n k count room h fits =
    let more : n * suc k ≤ n * count = mul-le-mul_left n h in
    omega (arith, mul-suc n k, more)

module _ {T : Type 0} (numbers_of : T → List ℕ) (gives : ℕ → T → Type 0) where
  -- `count` of them so far, of n numbers each
  pub record Putting (n count : ℕ) (out out' : List ℕ) : Type 0 where
    pub so : Entries numbers_of gives count out out'
    pub long : length (joined numbers_of so.entries) ≡ n * count

  pub putting_none : (n : ℕ) (out : List ℕ) → Putting n 0 out out
  putting_none n out =
      record {
        so = record { entries = []; many = refl; given = λ k d h. absurd (omega arith); put = placed_none out 0 ∙ placed_front out [] };
        long = omega arith;
      }

  -- the numbers v of one more entry
  pub putting_more : (n k : ℕ) (out o : List ℕ) → Putting n k out o → (x : T) → gives k x → (v : List ℕ) → v ≡ numbers_of x → length v ≡ n
      → n * k + n ≤ length out → Putting n (k + 1) out (put_mid (n * k) (n * k + n - n * k) o v)
  putting_more n k out o w x gx v ev lv room =
      let xs = w.so.entries in
      let found = joined numbers_of xs in
      let part : n * k + n - n * k ≡ length v = omega (arith, lv) in
      let at : n * k ≡ 0 + length found = omega (arith, w.long) in
      let before : o ≡ placed out 0 found = w.so.put ∙ sym (placed_front out found) in
      let last : found ++ v ≡ joined numbers_of (xs ++ x ∷ []) = rw ev (sym (joined_last numbers_of xs x)) in
      let so : put_mid (n * k) (n * k + n - n * k) o v ≡ placed o (n * k) v = rw (part, drop-drop (length v) (n * k) o) in
      let all : put_mid (n * k) (n * k + n - n * k) o v ≡ placed out 0 (found ++ v) = so ∙ rw (at, before) (placed_more out 0 found (omega (arith, w.long)) v) in
      let before_it : (j : ℕ) → j < k → (d : T) → gives j (get_or (xs ++ x ∷ []) j d) =
      λ j h d. subst (λ (y : T). gives j y) (sym (get_or-append xs (x ∷ []) d j (omega (arith, w.so.many)))) (w.so.given j d h) in
      let here : (d : T) → gives k (get_or (xs ++ x ∷ []) k d) =
      λ d. subst (λ (y : T). gives k y) (sym (ap (λ (j : ℕ). get_or (xs ++ x ∷ []) j d) (sym w.so.many) ∙ get_or-append_seam xs x [] d)) gx in
      let many : length (xs ++ x ∷ []) ≡ k + 1 = omega (arith, length-append xs (x ∷ []), w.so.many) in
      record {
        so =
            record {
              entries = xs ++ x ∷ [];
              many = many;
              given = λ j d h. below_more (λ (i : ℕ). (d : T) → gives i (get_or (xs ++ x ∷ []) i d)) k before_it here j h d;
              put = all ∙ ap (placed out 0) last ∙ placed_front out (joined numbers_of (xs ++ x ∷ []));
            };
        long = omega (arith, ap length last, length-append found v, lv, w.long);
      }

  -- entries that are those of f, all of them
  pub entries_all : (f : ℕ → T) (count : ℕ) (whole : List T) (out out' : List ℕ) → table f 0 (count - 0) ≡ whole
      → ((k : ℕ) (x : T) → k < count → gives k x → x ≡ f k) → Entries numbers_of gives count out out' → out' ≡ over (joined numbers_of whole) out
  entries_all f count whole out out' all each w =
      let n : count - 0 ≡ count = omega arith in
      let e : w.entries ≡ table f 0 count =
      ext_get_or (f 0) w.entries (table f 0 count) (w.many ∙ sym (table_length f 0 count))
      (λ k l.
      let h : k < count = omega (arith, w.many) in
      let z : 0 + k ≡ k = omega arith in
      each k _ h (w.given k (f 0) h) ∙ sym (table_at f 0 count k (f 0) h ∙ ap f z)) in
      w.put ∙ ap (λ (xs : List T). over (joined numbers_of xs) out) (e ∙ rw n at all)

-- entries of one number each
pub joined_ones : (xs : List ℕ) → joined (λ x. x ∷ []) xs ≡ xs
joined_ones [] = refl
joined_ones (x ∷ xs) = ap (λ (l : List ℕ). x ∷ l) (joined_ones xs)
