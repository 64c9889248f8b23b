-- A channel's field in its parts, as the functions read and write them: the head, two sides of two or four bytes each, and the shifts. Assumes nothing.
use mathlib.Core.Path.{◌≡◌, ap, ◌∙◌}
use mathlib.Core.Bool.{Bool, true, false, cond}
use mathlib.Core.List.{List, [], ◌∷◌, ◌++◌}
use Prim.Native.Nat.{ℕ, ◌+◌, ◌/◌, ◌%◌, ◌≤◌}
use native.Mathlib.Omega.{arith}
use lib.ListN.{length, take}
use Rattle.std.specs.Int.{w32, to_le_bytes}
use Rattle.channel.specs.declared.Channel.{Channel}
use Rattle.record.specs.Bytes.{channel_tag, channel_length, strip_tag, strip_length, high, upper, is_strip, short_field, strip_field, channel_field, placed, put_bytes}
use Rattle.record.specs.Reading.{byte_at, has_strip_tag, field_channel}
use Rattle.record.specs.Sides.{head, side_size, side_at}
use Rattle.record.proofs.Joined.{channel_field_lem}
use Rattle.record.proofs.Placed.{four_put}

-- the field's channel, read by its tag
pub channel_read : (bytes : List ℕ) (strip : Bool) → has_strip_tag bytes ≡ strip
    → ◌≡◌ {A = Channel}
    (record {
      width = side_at bytes 3 strip;
      height = side_at bytes (3 + side_size strip) strip;
      hshift = byte_at bytes (3 + side_size strip + side_size strip);
      vshift = byte_at bytes (3 + side_size strip + side_size strip + 1);
    })
    (field_channel bytes)
unfolding field_channel
channel_read bytes true e = rw e
channel_read bytes false e = rw e

-- the bytes of a side
abbrev pub side : Bool → ℕ → List ℕ
side strip n = take (side_size strip) (to_le_bytes w32 n)

-- the fourth byte of a number
fourth : (n : ℕ) → n / 16_777_216 % 256 ≡ high (upper n)
fourth n = omega arith

abbrev pub head_of : Bool → List ℕ
head_of strip = cond strip (head strip_tag strip_length) (head channel_tag channel_length)

parts : (c : Channel) (strip : Bool) → is_strip c ≡ strip
    → channel_field c ≡ ((head_of strip ++ side strip c.width) ++ side strip c.height) ++ (c.hshift ∷ c.vshift ∷ [])
unfolding strip_field short_field
parts c true e = channel_field_lem c true e ∙ rw (fourth c.width, fourth c.height)
parts c false e = channel_field_lem c false e

sized : (c : Channel) (strip : Bool) → is_strip c ≡ strip → length (channel_field c) ≡ 3 + side_size strip + side_size strip + 2
unfolding strip_field short_field
sized c true e = ap length (channel_field_lem c true e)
sized c false e = ap length (channel_field_lem c false e)

-- the parts put one after the other
pub channel_put : (c : Channel) (strip : Bool) → is_strip c ≡ strip → (out : List ℕ) (at : ℕ) → at + length (channel_field c) ≤ length out → (o1 o2 o3 o4 : List ℕ)
    → o1 ≡ put_bytes out at (head_of strip)
    → o2 ≡ put_bytes o1 (at + 3) (side strip c.width)
    → o3 ≡ put_bytes o2 (at + 3 + side_size strip) (side strip c.height)
    → o4 ≡ put_bytes o3 (at + 3 + side_size strip + side_size strip) (c.hshift ∷ c.vshift ∷ [])
    → (at + 3 + side_size strip + side_size strip + 2 ≡ at + length (channel_field c)) × (o4 ≡ placed out at (channel_field c))
channel_put c true e out at room o1 o2 o3 o4 e1 e2 e3 e4 =
    let z = sized c true e in
    (omega (arith, z), rw (parts c true e) (four_put out at _ _ _ _ o1 o2 o3 o4 _ _ _ (omega (arith, z)) (omega arith) (omega arith) (omega arith) e1 e2 e3 e4))
channel_put c false e out at room o1 o2 o3 o4 e1 e2 e3 e4 =
    let z = sized c false e in
    (omega (arith, z), rw (parts c false e) (four_put out at _ _ _ _ o1 o2 o3 o4 _ _ _ (omega (arith, z)) (omega arith) (omega arith) (omega arith) e1 e2 e3 e4))
