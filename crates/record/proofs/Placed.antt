-- Bytes put into a slice (`placed` of specs/Bytes.antt) part after part, and a loop that counts the bytes of a table's fields, or puts them, one by
-- one. Assumes nothing.
use mathlib.Core.Path.{◌≡◌, sym, ap, ◌∙◌}
use mathlib.Core.List.{List, [], ◌++◌, append_assoc, append-nil}
use Prim.Native.Nat.{ℕ, ◌+◌, ◌-◌, ◌<◌, ◌≤◌, min}
use native.Mathlib.Omega.{arith}
use borrow.Author.Tests.{le-leb, lt-leb}
use lib.ListN.{length, take, drop, length-append}
use lib.Seq.{paste, paste-zero, length-paste, take-paste, drop-paste, take-length, drop-drop}
use Rattle.list.specs.Tables.{table}
use Rattle.list.specs.Lists.{max_steps}
use Rattle.list.proofs.Tables.{table_rest, table_none}
use Rattle.plan.specs.declared.Steps.{Steps}
use Rattle.plan.specs.Steps as S
use Rattle.plan.specs.Steps.{step_at}
use Rattle.record.specs.Bytes.{joined, placed, put_bytes}

-- what a loop over the steps has left where it begins
pub steps_all : (s : Steps) (n : ℕ) → n ≡ min s.count max_steps → table (step_at s) 0 (n - 0) ≡ S.steps s
unfolding S.steps
steps_all s n e = let z : n - 0 ≡ min s.count max_steps = omega arith in ap (table (step_at s) 0) z

pub placed_paste : (out : List ℕ) (at : ℕ) (xs : List ℕ) → paste out at xs (length xs) ≡ placed out at xs
placed_paste out at xs = rw (take-length xs, append_assoc)

pub placed_none : (out : List ℕ) (at : ℕ) → out ≡ placed out at []
placed_none out at = paste-zero out at [] ∙ placed_paste out at []

module _ (out : List ℕ) (at : ℕ) (xs : List ℕ) (fits : at + length xs ≤ length out) where
  pub placed_length : length (placed out at xs) ≡ length out
  placed_length = rw (← placed_paste out at xs) (length-paste out at xs (length xs) fits (omega arith))

  placed_take : take (at + length xs) (placed out at xs) ≡ take at out ++ xs
  placed_take = rw (← placed_paste out at xs) (take-paste out at xs (length xs) (omega arith) (omega arith) ∙ rw (take-length xs))

  placed_drop : drop (at + length xs) (placed out at xs) ≡ drop (at + length xs) out
  placed_drop = rw (← placed_paste out at xs) (drop-paste out at xs (length xs) (omega arith) (omega arith))

  -- one part after the other
  pub placed_more : (ys : List ℕ) → placed (placed out at xs) (at + length xs) ys ≡ placed out at (xs ++ ys)
  placed_more ys =
      let n : at + length (xs ++ ys) ≡ at + length xs + length ys = omega (arith, length-append xs ys) in
      rw (placed_take, ← drop-drop (length ys) (at + length xs) (placed out at xs), placed_drop, drop-drop (length ys) (at + length xs) out, n) (simp append_assoc)

-- where there is room, and where there is none
module _ (out : List ℕ) (at : ℕ) (xs : List ℕ) where
  pub put_placed : at + length xs ≤ length out → put_bytes out at xs ≡ placed out at xs
  unfolding put_bytes
  put_placed h = rw (le-leb (at + length xs) (length out) h)

  pub put_nothing : length out < at + length xs → out ≡ put_bytes out at xs
  unfolding put_bytes
  put_nothing h = rw (lt-leb (at + length xs) (length out) h)

-- four parts put one after the other
module _ (out : List ℕ) (at : ℕ) where
  put_after : (xs ys o o' : List ℕ) (at' : ℕ) → at + length xs + length ys ≤ length out → at' ≡ at + length xs
      → o ≡ placed out at xs → o' ≡ put_bytes o at' ys → o' ≡ placed out at (xs ++ ys)
  put_after xs ys o o' at' room ea eo eo' =
      let fits : at + length xs ≤ length out = omega arith in
      let n = placed_length out at xs fits in
      eo' ∙ rw (eo, ea) (put_placed (placed out at xs) (at + length xs) ys (omega arith) ∙ placed_more out at xs fits ys)

  pub four_put : (a b c d o1 o2 o3 o4 : List ℕ) (p2 p3 p4 : ℕ) → at + length a + length b + length c + length d ≤ length out
      → p2 ≡ at + length a → p3 ≡ p2 + length b → p4 ≡ p3 + length c
      → o1 ≡ put_bytes out at a → o2 ≡ put_bytes o1 p2 b → o3 ≡ put_bytes o2 p3 c → o4 ≡ put_bytes o3 p4 d
      → o4 ≡ placed out at (((a ++ b) ++ c) ++ d)
  four_put a b c d o1 o2 o3 o4 p2 p3 p4 room e2 e3 e4 h1 h2 h3 h4 =
      let m = length-append a b in
      let n = length-append (a ++ b) c in
      let q1 : o1 ≡ placed out at a = h1 ∙ put_placed out at a (omega arith) in
      let q2 : o2 ≡ placed out at (a ++ b) = put_after a b o1 o2 p2 (omega arith) e2 q1 h2 in
      let q3 : o3 ≡ placed out at ((a ++ b) ++ c) = put_after (a ++ b) c o2 o3 p3 (omega arith) (omega arith) q2 h3 in
      put_after ((a ++ b) ++ c) d o3 o4 p4 (omega arith) (omega arith) q3 h4

-- n fields, those of f, give `whole`; k of them lie from `start` to `at`
pub record Counting {ℓ} {A : Type ℓ} (field : A → List ℕ) (f : ℕ → A) (n : ℕ) (whole : List ℕ) (start at k : ℕ) : Type ℓ where
  pub done : List ℕ
  pub inside : k ≤ n
  pub at_is : at ≡ start + length done
  pub left : done ++ joined field (table f k (n - k)) ≡ whole

module _ {ℓ} {A : Type ℓ} (field : A → List ℕ) (f : ℕ → A) (n : ℕ) (whole : List ℕ) (start : ℕ) where
  pub counting_none : joined field (table f 0 (n - 0)) ≡ whole → Counting field f n whole start start 0
  counting_none e = record { done = []; inside = omega arith; at_is = omega arith; left = e }

  module _ (at k : ℕ) (w : Counting field f n whole start at k) where
    all_length : length w.done + length (joined field (table f k (n - k))) ≡ length whole
    all_length = sym (length-append w.done _) ∙ ap length w.left

    pub counting_all : n ≤ k → w.done ≡ whole
    counting_all h = sym (append-nil w.done) ∙ rw (table_none f k n h) at w.left

    module _ (h : k < n) (v : List ℕ) (ev : v ≡ field (f k)) where
      next : (w.done ++ v) ++ joined field (table f (k + 1) (n - (k + 1))) ≡ whole
      next = rw (append_assoc, ev) (rw (table_rest f k n h) at w.left)

      pub counting_room : at + length v ≤ start + length whole
      counting_room = omega (arith, w.at_is, length-append w.done v, length-append (w.done ++ v) (joined field (table f (k + 1) (n - (k + 1)))), ap length next)

      pub counting_more : (at' : ℕ) → at' ≡ at + length v → Counting field f n whole start at' (k + 1)
      counting_more at' e = record { done = w.done ++ v; inside = omega arith; at_is = omega (arith, w.at_is, length-append w.done v); left = next }

-- they are put into out₀
pub record Putting {ℓ} {A : Type ℓ} (field : A → List ℕ) (f : ℕ → A) (n : ℕ) (whole : List ℕ) (start : ℕ) (out₀ out : List ℕ) (at k : ℕ) : Type ℓ where
  pub counting : Counting field f n whole start at k
  pub so : out ≡ placed out₀ start counting.done

module _ {ℓ} {A : Type ℓ} (field : A → List ℕ) (f : ℕ → A) (n : ℕ) (whole : List ℕ) (start : ℕ) (out₀ : List ℕ) (fits : start + length whole ≤ length out₀) where
  pub putting_none : joined field (table f 0 (n - 0)) ≡ whole → Putting field f n whole start out₀ out₀ start 0
  unfolding counting_none
  putting_none e = record { counting = counting_none field f n whole start e; so = placed_none out₀ start }

  module _ (out : List ℕ) (at k : ℕ) (w : Putting field f n whole start out₀ out at k) where
    room : start + length w.counting.done ≤ length out₀
    room = omega (arith, all_length field f n whole start at k w.counting)

    pub putting_length : length out ≡ length out₀
    putting_length = ap length w.so ∙ placed_length out₀ start w.counting.done room

    pub putting_all : n ≤ k → out ≡ placed out₀ start whole
    putting_all h = w.so ∙ ap (placed out₀ start) (counting_all field f n whole start at k w.counting h)

    module _ (h : k < n) (v : List ℕ) (ev : v ≡ field (f k)) where
      pub putting_room : at + length v ≤ length out
      putting_room = omega (arith, putting_length, counting_room field f n whole start at k w.counting h v ev)

      pub putting_more : (out' : List ℕ) (at' : ℕ) → out' ≡ placed out at v → at' ≡ at + length v → Putting field f n whole start out₀ out' at' (k + 1)
      unfolding counting_more
      putting_more out' at' eo ea =
          record {
            counting = counting_more field f n whole start at k w.counting h v ev at' ea;
            so = eo ∙ rw (w.so, w.counting.at_is) (placed_more out₀ start w.counting.done room v);
          }

-- what a loop that puts fields needs
pub ruleset puttings = (putting_none, putting_length, putting_all, putting_room, putting_more, steps_all, put_placed)
