-- The record's bytes (document 01, "Record"; document 02, A.8 and A.11): "Fields of a one-byte tag, a two-byte length and that many bytes; all integers
-- little-endian." The one record of a plan version, a channel list and its steps. Definitions only.
use Rattle.std.specs.Prelude.{Bool, cond, ◌||◌, List, [], ◌∷◌, ◌++◌, ℕ, ◌+◌, ◌*◌, ◌/◌, ◌%◌, eqb, leb, ltb, length, take, drop}
use Rattle.channel.specs.declared.Channel.{Channel}
use Rattle.list.specs.declared.Step.{Step}
use Rattle.list.specs.Lists.{max_channels, max_steps}
use Rattle.plan.specs.Version.{house_version}
use Rattle.plan.specs.Steps.{flags_of}

-- "Tag 1, channel, length 6"; "Tag 2, step, length 5"; "tag 3, length 10"; "tag 4, length 1"
abbrev pub channel_tag : ℕ
channel_tag = 1

abbrev pub channel_length : ℕ
channel_length = 6

abbrev pub step_tag : ℕ
step_tag = 2

abbrev pub step_length : ℕ
step_length = 5

abbrev pub strip_tag : ℕ
strip_tag = 3

abbrev pub strip_length : ℕ
strip_length = 10

abbrev pub version_tag : ℕ
version_tag = 4

abbrev pub version_length : ℕ
version_length = 1

-- tag and length
abbrev pub head_length : ℕ
head_length = 3

-- a field's bytes in all
abbrev pub channel_size : ℕ
channel_size = head_length + channel_length

abbrev pub strip_size : ℕ
strip_size = head_length + strip_length

abbrev pub step_size : ℕ
step_size = head_length + step_length

abbrev pub version_size : ℕ
version_size = head_length + version_length

-- a two-byte number, least byte first, and the number of two bytes
abbrev pub low : ℕ → ℕ
low n = n % 256

abbrev pub high : ℕ → ℕ
high n = n / 256 % 256

abbrev pub word : ℕ → ℕ → ℕ
word l h = l + 256 * h

-- a four-byte number: its upper two bytes are those of this
abbrev pub upper : ℕ → ℕ
upper n = n / 65_536

abbrev pub long : ℕ → ℕ → ℕ → ℕ → ℕ
long a b c d = word a b + 65_536 * word c d

-- "A channel with a side above 65,535 is stored under tag 3"; any other one fits tag 1
abbrev pub max_short_side : ℕ
max_short_side = 65_535

unfoldable pub is_strip : Channel → Bool
is_strip c = ltb max_short_side c.width || ltb max_short_side c.height

-- "width 2, height 2, horizontal shift 1, vertical shift 1"
unfoldable pub short_field : Channel → List ℕ
short_field c =
    channel_tag ∷ low channel_length ∷ high channel_length
    ∷ low c.width ∷ high c.width ∷ low c.height ∷ high c.height ∷ c.hshift ∷ c.vshift ∷ []

-- "width 4, height 4 and the two shifts"
unfoldable pub strip_field : Channel → List ℕ
strip_field c =
    strip_tag ∷ low strip_length ∷ high strip_length
    ∷ low c.width ∷ high c.width ∷ low (upper c.width) ∷ high (upper c.width)
    ∷ low c.height ∷ high c.height ∷ low (upper c.height) ∷ high (upper c.height) ∷ c.hshift ∷ c.vshift ∷ []

-- "A channel that fits tag 1 is always written so"
unfoldable pub channel_field : Channel → List ℕ
channel_field c = cond (is_strip c) (strip_field c) (short_field c)

-- "flags 1 (bit 0 horizontal, bit 1 in place), first channel 2, number 2"
unfoldable pub step_field : Step → List ℕ
step_field s =
    step_tag ∷ low step_length ∷ high step_length
    ∷ flags_of s ∷ low s.begin ∷ high s.begin ∷ low s.number ∷ high s.number ∷ []

-- A.11: "The record says the version in tag 4, length 1, value 2 .. the writer omits it for version 1"
unfoldable pub version_field : ℕ → List ℕ
version_field version =
    cond (eqb version house_version) (version_tag ∷ low version_length ∷ high version_length ∷ house_version ∷ []) []

-- fields one after the other
abbrev pub joined {ℓ} : {A : Type ℓ} → (A → List ℕ) → List A → List ℕ
joined field [] = []
joined field (x ∷ xs) = field x ++ joined field xs

abbrev pub channel_fields : List Channel → List ℕ
channel_fields cs = joined channel_field cs

abbrev pub step_fields : List Step → List ℕ
step_fields ss = joined step_field ss

-- "Channels stand before steps."
unfoldable pub list_fields : List Channel → List Step → List ℕ
list_fields cs ss = channel_fields cs ++ step_fields ss

-- the version stands "as its first field"
unfoldable pub record_of : ℕ → List Channel → List Step → List ℕ
record_of version cs ss = version_field version ++ list_fields cs ss

-- the most bytes that a record can have: a version, 256 channels, all of them strips, and 64 steps
abbrev pub record_room : ℕ
record_room = version_size + strip_size * max_channels + step_size * max_steps

-- a slice with bytes put into it from `at` on, and the same where it has room for them
abbrev pub placed : List ℕ → ℕ → List ℕ → List ℕ
placed out at bytes = take at out ++ (bytes ++ drop (at + length bytes) out)

unfoldable pub put_bytes : List ℕ → ℕ → List ℕ → List ℕ
put_bytes out at bytes = cond (leb (at + length bytes) (length out)) (placed out at bytes) out
