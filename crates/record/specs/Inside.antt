-- Bytes that begin with a channel's field and have all of it, for the contracts of the functions that read it. Definitions only.
use Rattle.std.specs.Prelude.{◌≡◌, true, List, ℕ, ◌≤◌, length}
use Rattle.record.specs.Bytes.{channel_size, strip_size}
use Rattle.record.specs.Reading.{has_strip_tag}

pub record ChannelInside (bytes : List ℕ) : Type 0 where
  pub short : channel_size ≤ length bytes
  pub strip : has_strip_tag bytes ≡ true → strip_size ≤ length bytes
