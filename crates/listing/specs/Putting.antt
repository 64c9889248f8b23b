-- How much room the parts of a listing may take, and whether one fits a page, for the contracts of the functions that put them on it. Definitions
-- only.
use Rattle.std.specs.Prelude.{List, ℕ, ◌+◌, ◌^◌, ◌≤◌, length}
use Rattle.listing.specs.Text.{number_places}

-- room for a number, which has at most seven digits, for two with a space between them, for two shifts, which have at most three each, and for a
-- step's two words
abbrev pub number_room : ℕ
number_room = number_places

-- the numbers that have so many digits at most lie below it
abbrev pub number_limit : ℕ
number_limit = 10 ^ number_places

abbrev pub two_room : ℕ
two_room = number_room + 1 + number_room

abbrev pub shifts_room : ℕ
shifts_room = 3 + 1 + 3

abbrev pub direction_room : ℕ
direction_room = 2

abbrev pub place_room : ℕ
place_room = 4

-- room for a step line, for a channel line, and for any listing: at most 64 of the one and 256 of the other, and three heads
abbrev pub step_room : ℕ
step_room = direction_room + place_room + two_room + 1

abbrev pub channel_room : ℕ
channel_room = two_room + 1 + shifts_room + 1

abbrev pub listing_room : ℕ
listing_room = 8192

-- a page that has room for any listing has room for `new` after what stands on it
abbrev pub Fits : List ℕ → List ℕ → Type 0
Fits page new = length page + length new ≤ listing_room
