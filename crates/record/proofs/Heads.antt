-- The head that the code took from a field's bytes (specs/Heads.antt), and what the field's questions come to by it. Assumes nothing.
use mathlib.Core.Path.{◌≡◌, refl, sym, ◌∙◌}
use mathlib.Core.Bool.{Bool, true, false, cond, ◌&&◌, ◌||◌, or-true}
use mathlib.Core.List.{List}
use Prim.Native.Nat.{ℕ, ◌+◌, ◌*◌, ◌<◌, ◌≤◌}
use native.Mathlib.Omega.{arith}
use lib.Dec.{eqb, leb}
use lib.ListN.{length, get_or, take}
use lib.Seq.{get_or-take}
use borrow.Author.Tests.{le-leb, lt-leb}
use Rattle.std.specs.Prelude.{Option, Some, None}
use Rattle.std.specs.Bool.{then_some}
use Rattle.numbers.specs.Numbers.{refused_outside, refused_field}
use Rattle.channel.specs.declared.Channel.{Channel}
use Rattle.list.specs.declared.Step.{Step}
use Rattle.record.specs.declared.Head.{Head}
use Rattle.record.specs.declared.Field.{Field}
use Rattle.record.specs.Bytes.{channel_tag, channel_length, strip_tag, strip_length, step_tag, step_length, head_length}
use Rattle.record.specs.Reading.{byte_at, length_of, field_size, field_inside, has_head, is_channel, is_step, field_step, field_channel, judge_channel_field, judge_step_field, judge_field}
use Rattle.record.proofs.Fields.{inside, head, step_long, channel_inside}
use Rattle.record.specs.Heads.{head_at, head_inside, field_of}

some_cond : (b : Bool) (h : Head) → then_some b h ≡ cond b (Some h) None
some_cond true h = refl
some_cond false h = refl

-- what `Head::of` gives
module _ (bytes : List ℕ) where
  pub head_short : length bytes < head_length → None ≡ head_inside bytes
  unfolding field_inside
  head_short h = rw (lt-leb head_length (length bytes) h)

  pub head_taken : (chunk : List ℕ) (size : ℕ) → head_length ≤ length bytes → chunk ≡ take head_length bytes → size ≡ get_or chunk 1 0 + get_or chunk 2 0 * 256
      → then_some (leb (head_length + size) (length bytes)) (record { tag = get_or chunk 0 0; size = size }) ≡ head_inside bytes
  unfolding field_inside
  head_taken chunk size n ec es =
      let t : get_or chunk 0 0 ≡ byte_at bytes 0 = rw ec (get_or-take head_length bytes 0 0 (omega arith)) in
      let l : get_or chunk 1 0 ≡ byte_at bytes 1 = rw ec (get_or-take head_length bytes 1 0 (omega arith)) in
      let h : get_or chunk 2 0 ≡ byte_at bytes 2 = rw ec (get_or-take head_length bytes 2 0 (omega arith)) in
      let m : size ≡ length_of bytes = omega arith in
      rw (t, m, le-leb head_length (length bytes) n) (some_cond (leb (field_size bytes) (length bytes)) (head_at bytes))

  -- no head: the field is not inside the bytes
  pub no_field : (o : Option Head) → o ≡ head_inside bytes → o ≡ None → field_inside bytes ≡ false
  no_field o eo en = go (field_inside bytes) refl (sym eo ∙ en)
    where
      go : (t : Bool) → field_inside bytes ≡ t → cond {A = Option Head} t (Some (head_at bytes)) None ≡ None → field_inside bytes ≡ false
      go true e k = cc
      go false e k = e

-- a head: the field is inside
pub record Whole (bytes : List ℕ) (h : Head) : Type 0 where
  pub inside : field_inside bytes ≡ true
  pub head_is : h ≡ head_at bytes

pub whole : (bytes : List ℕ) (h : Head) (o : Option Head) → o ≡ head_inside bytes → o ≡ Some h → Whole bytes h
whole bytes h o eo es = go (field_inside bytes) refl (sym eo ∙ es)
  where
    go : (t : Bool) → field_inside bytes ≡ t → cond t (Some (head_at bytes)) None ≡ Some h → Whole bytes h
    go true e k = let q : h ≡ head_at bytes = cc in record { inside = e; head_is = q }
    go false e k = cc

-- the code's tests of the head
module _ (bytes : List ℕ) (h : Head) (w : Whole bytes h) where
  pub head_asked : (tag size : ℕ) → (eqb h.tag tag && eqb h.size size) ≡ has_head tag size bytes
  unfolding has_head
  head_asked tag size = rw w.head_is

  pub step_asked : (eqb h.tag step_tag && eqb h.size step_length) ≡ is_step bytes
  unfolding is_step
  step_asked = head_asked step_tag step_length

  pub channel_test : (steps : ℕ) (a b : Bool) → a ≡ (eqb h.tag channel_tag && eqb h.size channel_length) → b ≡ (eqb h.tag strip_tag && eqb h.size strip_length)
      → ((a || b) && eqb steps 0) ≡ is_channel bytes steps
  unfolding is_channel
  channel_test steps a b ea eb = rw (ea, eb, head_asked channel_tag channel_length, head_asked strip_tag strip_length)

-- the field's answer, by those tests
module _ (bytes : List ℕ) (channels : ℕ) (metas : Bool) (steps : ℕ) where
  pub judged_outside : field_inside bytes ≡ false → refused_outside ≡ judge_field bytes channels metas steps
  unfolding judge_field
  judged_outside e = rw e

  module _ (i : field_inside bytes ≡ true) where
    pub judged_step : is_step bytes ≡ true → judge_step_field bytes steps ≡ judge_field bytes channels metas steps
    unfolding judge_field
    judged_step e = rw (i, e, or-true)

    module _ (n : is_step bytes ≡ false) where
      pub judged_channel : is_channel bytes steps ≡ true → judge_channel_field bytes channels metas ≡ judge_field bytes channels metas steps
      unfolding judge_field
      judged_channel e = rw (i, n, e)

      pub judged_other : is_channel bytes steps ≡ false → refused_field ≡ judge_field bytes channels metas steps
      unfolding judge_field
      judged_other e = rw (i, n, e)

-- what the field holds, by its kind
module _ (bytes : List ℕ) (f : Field) (ef : f ≡ field_of bytes) where
  pub step_held : (s : Step) → f ≡ Field.Step s → (is_step bytes ≡ true) × (s ≡ field_step bytes)
  step_held s es = go (is_step bytes) refl (sym ef ∙ es)
    where
      go : (t : Bool) → is_step bytes ≡ t → cond t (Field.Step (field_step bytes)) (Field.Channel (field_channel bytes)) ≡ Field.Step s
          → (is_step bytes ≡ true) × (s ≡ field_step bytes)
      go true e k = let q : s ≡ field_step bytes = cc in (e, q)
      go false e k = cc

  pub channel_held : (c : Channel) → f ≡ Field.Channel c → (is_step bytes ≡ false) × (c ≡ field_channel bytes)
  channel_held c ec = go (is_step bytes) refl (sym ef ∙ ec)
    where
      go : (t : Bool) → is_step bytes ≡ t → cond t (Field.Step (field_step bytes)) (Field.Channel (field_channel bytes)) ≡ Field.Channel c
          → (is_step bytes ≡ false) × (c ≡ field_channel bytes)
      go true e k = cc
      go false e k = let q : c ≡ field_channel bytes = cc in (e, q)

-- what a function that puts them needs
pub ruleset questions = (no_field, whole, head_asked, step_asked, channel_test, judged_outside, judged_step, judged_channel, judged_other, inside, head, step_long, channel_inside)
