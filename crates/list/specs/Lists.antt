-- Channel lists (document 01, "The entry", "The list and the plan"): the list that flat arrays of 256 entries hold up to their count, and the
-- list that a step leaves; beside the channels their origins (document 02, A.4). Definitions only.
use Rattle.std.specs.Prelude.{Bool, cond, List, [], ◌∷◌, ◌++◌, ℕ, ◌+◌, ◌-◌, ◌/◌, min, ltb, length, take, drop, get_or, set}
use Rattle.channel.specs.declared.Channel.{Channel}
use Rattle.channel.specs.Channel.{is_meta, samples}
use Rattle.list.specs.declared.ChannelList.{ChannelList}
use Rattle.list.specs.declared.Step.{Step}
use Rattle.list.specs.Tables.{table, padded, map}

-- "The list carries its own limits, 256 channels and 64 steps"
abbrev pub max_channels : ℕ
max_channels = 256

abbrev pub max_steps : ℕ
max_steps = 64

-- ---- flat arrays
-- entry k of the arrays, zeros past them
abbrev pub entry_of : List ℕ → List ℕ → List ℕ → List ℕ → ℕ → Channel
entry_of widths heights hshifts vshifts k =
    record { width = get_or widths k 0; height = get_or heights k 0; hshift = get_or hshifts k 0; vshift = get_or vshifts k 0 }

abbrev pub channel_at : ChannelList → ℕ → Channel
channel_at l k = entry_of l.widths l.heights l.hshifts l.vshifts k

-- arrays and a count as a list
abbrev pub lent : ℕ → List ℕ → List ℕ → List ℕ → List ℕ → List ℕ → ChannelList
lent count widths heights hshifts vshifts origins =
    record { count = count; widths = widths; heights = heights; hshifts = hshifts; vshifts = vshifts; origins = origins }

-- the channels that are meant: the first `count`; nothing else of the arrays is
unfoldable pub channels : ChannelList → List Channel
channels l = table (channel_at l) 0 (min l.count max_channels)

-- A.4: "Every channel in a list carries the position, in the list before the plan, of the channel it was made from"; the origins of those channels
unfoldable pub origins : ChannelList → List ℕ
origins l = table (λ k. get_or l.origins k 0) 0 (min l.count max_channels)

-- "its own position", of each of n channels
abbrev pub own_positions : ℕ → List ℕ
own_positions n = table (λ k. k) 0 n

-- the arrays that hold a list and its origins, unused entries 0
unfoldable pub holding : List Channel → List ℕ → ChannelList
holding cs os =
    record {
      count = length cs;
      widths = padded max_channels (map (λ (c : Channel). c.width) cs);
      heights = padded max_channels (map (λ (c : Channel). c.height) cs);
      hshifts = padded max_channels (map (λ (c : Channel). c.hshift) cs);
      vshifts = padded max_channels (map (λ (c : Channel). c.vshift) cs);
      origins = padded max_channels os;
    }

-- a list in which each channel has its own position, as one that is read
abbrev pub packed : List Channel → ChannelList
packed cs = holding cs (own_positions (length cs))

-- the list with a channel and its origin after the last; a full one stays
unfoldable pub pushed : ChannelList → Channel → ℕ → ChannelList
pushed l c origin =
    cond (ltb l.count max_channels)
    (record {
      count = l.count + 1;
      widths = set l.widths l.count c.width;
      heights = set l.heights l.count c.height;
      hshifts = set l.hshifts l.count c.hshift;
      vshifts = set l.vshifts l.count c.vshift;
      origins = set l.origins l.count origin;
    })
    l

-- ---- a step taken by a list
-- "the side halved, rounded up", and "the rest of the side"
abbrev pub halved : ℕ → ℕ
halved side = (side + 1) / 2

abbrev pub rest : ℕ → ℕ
rest side = side - halved side

-- "the shift in that direction one more; meta stays meta"
unfoldable pub raised : Bool → Channel → Channel
raised horizontal c =
    cond (is_meta c) c
    (record {
      width = c.width;
      height = c.height;
      hshift = cond horizontal (c.hshift + 1) c.hshift;
      vshift = cond horizontal c.vshift (c.vshift + 1);
    })

-- the channel with its side in the step's direction put through f
abbrev pub sided : (ℕ → ℕ) → Bool → Channel → Channel
sided f horizontal c =
    record {
      width = cond horizontal (f c.width) c.width;
      height = cond horizontal c.height (f c.height);
      hshift = c.hshift;
      vshift = c.vshift;
    }

-- "replaces each channel of its range by the average"; "makes a residual with the rest of the side and the same shifts"
unfoldable pub average : Bool → Channel → Channel
average horizontal c = raised horizontal (sided halved horizontal c)

unfoldable pub residual : Bool → Channel → Channel
residual horizontal c = raised horizontal (sided rest horizontal c)

-- a step's range, and what stands before and after it: of channels, and of what is told of each
abbrev pub before {ℓ} : {A : Type ℓ} → Step → List A → List A
before s xs = take s.begin xs

abbrev pub range {ℓ} : {A : Type ℓ} → Step → List A → List A
range s xs = take s.number (drop s.begin xs)

abbrev pub after {ℓ} : {A : Type ℓ} → Step → List A → List A
after s xs = drop (s.begin + s.number) xs

-- "Residuals go, in order, straight after the range if in place, else after the last channel": f makes an average of what is squeezed, g a residual
abbrev pub moved {ℓ} : {A : Type ℓ} → (A → A) → (A → A) → Step → List A → List A
moved f g s xs =
    before s xs ++ (map f (range s xs)
    ++ cond s.inplace
    (map g (range s xs) ++ after s xs)
    (after s xs ++ map g (range s xs)))

unfoldable pub stepped : Step → List Channel → List Channel
stepped s cs = moved (average s.horizontal) (residual s.horizontal) s cs

-- A.4: an average keeps its channel's origin, and "A residual takes the origin of the channel squeezed, also when that was itself a residual"
unfoldable pub stepped_origins : Step → List ℕ → List ℕ
stepped_origins s os = moved (λ o. o) (λ o. o) s os

-- the next list, its origins made from those that the list came with
abbrev pub next_list : Step → ChannelList → ChannelList
next_list s l = holding (stepped s (channels l)) (stepped_origins s (origins l))

-- ---- "all samples of the list"
abbrev pub total : List Channel → ℕ
total [] = 0
total (c ∷ cs) = samples c + total cs
