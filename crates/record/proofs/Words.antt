-- Numbers as bytes: a number of two or four bytes is that of its bytes, bytes are those of their number, and so a field that is refused nothing is
-- that of its channel, step or version. Assumes nothing.
use mathlib.Core.Path.{◌≡◌, sym, ap, ◌∙◌}
use mathlib.Core.Bool.{Bool, true}
use mathlib.Core.Logic.{inl, inr}
use mathlib.Core.List.{List, ◌∷◌, ◌++◌}
use Prim.Native.Nat.{ℕ, suc, ◌+◌, ◌*◌, ◌<◌, ◌≤◌}
use native.Mathlib.Omega.{arith}
use lib.ListN.{length, take, drop, take-append-drop}
use lib.Seq.{ext_get_or, get_or-take, length-take-le}
use borrow.Author.Tests.{le-ltb}
use Rattle.list.specs.Tables.{table}
use Rattle.list.proofs.Tables.{table_length, table_at}
use Rattle.plan.specs.Version.{house_version}
use Rattle.record.specs.Bytes.{channel_tag, channel_length, strip_tag, strip_length, step_tag, step_length, version_tag, version_length, version_size, head_length, low, high, word, upper, long, max_short_side, is_strip, short_field, strip_field, channel_field, step_field, version_field}
use Rattle.record.specs.Reading.{byte_at, field_size, strip_channel, field_channel, field_step, tag_allowed, judge_version_field}
use Rattle.record.specs.Laws.{AreBytes}
use Rattle.record.proofs.Fields.{HasHead, ChannelHead, is_version_lem, IsStep, IsChannel, step_allowed, channel_allowed_lem}
use Rattle.record.proofs.Flags.{flags_read}

pub word_back : (n : ℕ) → n < 65536 → word (low n) (high n) ≡ n
word_back n h = omega arith

pub long_back : (n : ℕ) → n < 4294967296 → long (low n) (high n) (low (upper n)) (high (upper n)) ≡ n
long_back n h = omega arith

-- ---- a field that is refused nothing is that of its channel or step
front : (bytes : List ℕ) (n : ℕ) → n ≤ length bytes → bytes ≡ table (byte_at bytes) 0 n ++ drop n bytes
front bytes n h =
    let long = length-take-le n bytes h in
    let same = table_length (byte_at bytes) 0 n in
    sym (take-append-drop n bytes)
    ∙ ap (λ (l : List ℕ). l ++ drop n bytes)
    (ext_get_or 0 (take n bytes) (table (byte_at bytes) 0 n) (omega arith)
    (λ k l.
    let z : 0 + k ≡ k = omega arith in
    get_or-take n bytes k 0 (omega arith) ∙ sym (table_at (byte_at bytes) 0 n k 0 (omega arith) ∙ ap (byte_at bytes) z)))

module _ (bytes : List ℕ) (b : AreBytes bytes) where
  -- bytes that begin with a tag and its length are those of a field with the same bytes
  field_bytes : (tag size : ℕ) → size < 256 → HasHead tag size bytes → field_size bytes ≤ length bytes → (field : List ℕ)
      → field ≡ tag ∷ low size ∷ high size ∷ table (byte_at bytes) head_length size → bytes ≡ field ++ drop (field_size bytes) bytes
  field_bytes tag size s f m field e =
      let l : byte_at bytes 1 ≡ low size = omega (arith, b 1, b 2, f.1) in
      let h : byte_at bytes 2 ≡ high size = omega (arith, b 1, b 2, f.1) in
      let n : field_size bytes ≡ suc (suc (suc size)) = omega (arith, f.1) in
      rw (e, n) (front bytes (suc (suc (suc size))) (omega (arith, f.1)) ∙ rw (f.0, l, h))

  -- the number of the bytes k and k + 1, and the same with upper two bytes, those of u
  module _ (k : ℕ) where
    low_at : low (word (byte_at bytes k) (byte_at bytes (suc k))) ≡ byte_at bytes k
    low_at = omega (arith, b k, b (suc k))

    high_at : high (word (byte_at bytes k) (byte_at bytes (suc k))) ≡ byte_at bytes (suc k)
    high_at = omega (arith, b k, b (suc k))

    module _ (u : ℕ) where
      low_long : low (word (byte_at bytes k) (byte_at bytes (suc k)) + 65536 * u) ≡ byte_at bytes k
      low_long = omega (arith, b k, b (suc k))

      high_long : high (word (byte_at bytes k) (byte_at bytes (suc k)) + 65536 * u) ≡ byte_at bytes (suc k)
      high_long = omega (arith, b k, b (suc k))

      upper_long : upper (word (byte_at bytes k) (byte_at bytes (suc k)) + 65536 * u) ≡ u
      upper_long = omega (arith, b k, b (suc k))

  pub step_bytes : (steps : ℕ) → field_size bytes ≤ length bytes → IsStep bytes steps → bytes ≡ step_field (field_step bytes) ++ drop (field_size bytes) bytes
  unfolding step_field
  step_bytes steps m f =
      field_bytes step_tag step_length (omega arith) f.head_is m (step_field (field_step bytes))
      (rw (flags_read bytes (step_allowed bytes steps f.judged).1, low_at 4, high_at 4, low_at 6, high_at 6))

  -- the version's field, where it is refused nothing
  pub version_bytes_lem : judge_version_field bytes ≡ 0 → bytes ≡ version_field house_version ++ drop version_size bytes
  unfolding version_field
  version_bytes_lem z =
      let f = is_version_lem bytes z in
      let n : field_size bytes ≡ version_size = omega (arith, f.head_is.1) in
      rw n at
      (field_bytes version_tag version_length (omega arith) f.head_is (omega (arith, f.long)) (version_field house_version) (rw f.value))

  module _ (m : field_size bytes ≤ length bytes) where
    -- under tag 1 a channel is no strip
    short_bytes : HasHead channel_tag channel_length bytes → bytes ≡ channel_field (field_channel bytes) ++ drop (field_size bytes) bytes
    unfolding field_channel is_strip channel_field short_field
    short_bytes f =
        let w = le-ltb max_short_side (word (byte_at bytes 3) (byte_at bytes 4)) (omega (arith, b 3, b 4)) in
        let h = le-ltb max_short_side (word (byte_at bytes 5) (byte_at bytes 6)) (omega (arith, b 5, b 6)) in
        field_bytes channel_tag channel_length (omega arith) f m (channel_field (field_channel bytes)) (rw (f.0, w, h, low_at 3, high_at 3, low_at 5, high_at 5))

    -- under tag 3 it is one
    strip_bytes : HasHead strip_tag strip_length bytes → tag_allowed bytes ≡ true → bytes ≡ channel_field (field_channel bytes) ++ drop (field_size bytes) bytes
    unfolding field_channel tag_allowed channel_field strip_field
    strip_bytes f t =
        let s : is_strip (strip_channel bytes) ≡ true = rw f.0 at t in
        field_bytes strip_tag strip_length (omega arith) f m (channel_field (field_channel bytes))
        (rw (f.0, s, low_long 3, high_long 3, upper_long 3, low_at 5, high_at 5, low_long 7, high_long 7, upper_long 7, low_at 9, high_at 9))

    pub channel_bytes : (channels : ℕ) (metas : Bool) (steps : ℕ) → IsChannel bytes channels metas steps
        → bytes ≡ channel_field (field_channel bytes) ++ drop (field_size bytes) bytes
    channel_bytes channels metas steps f = go f.head_is
      where
        go : ChannelHead bytes → bytes ≡ channel_field (field_channel bytes) ++ drop (field_size bytes) bytes
        go (inl k) = short_bytes k
        go (inr k) = strip_bytes k (channel_allowed_lem bytes channels metas f.judged).2
