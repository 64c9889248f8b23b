-- The coarse count (document 01, "The list and the plan"; document 02, A.2 and A.11), as a function of the side at which plans stop, and the laws of it
-- that clerks rely on, over any such side. Definitions and statements only; proofs/Coarse.antt proves them.
use Rattle.std.specs.Prelude.{◌≡◌, Bool, true, false, cond, ◌&&◌, ◌||◌, List, ℕ, ◌+◌, ◌<◌, ◌≤◌, leb, length, drop, Result, Ok, Err}
use Rattle.channel.specs.declared.Channel.{Channel}
use Rattle.channel.specs.Channel.{is_meta}
use Rattle.numbers.specs.declared.Refusal.{Refusal}
use Rattle.numbers.specs.Numbers.{number_of, refused_form}
use Rattle.list.specs.declared.ChannelList.{ChannelList}
use Rattle.list.specs.Lists.{channels}
use Rattle.list.specs.Questions.{no_meta, meta_first, channel_of}
use Rattle.plan.specs.Version.{is_version, rule_of}
use Rattle.plan.specs.Default.{leading, meta_count}

-- no side above the stopping side
abbrev pub is_small : ℕ → Channel → Bool
is_small stop c = leb c.width stop && leb c.height stop

-- "A leading meta channel is to be counted, as `is_meta_or_small` in the Rust counts it, of any size"
unfoldable pub is_coarse : ℕ → Channel → Bool
is_coarse stop c = is_meta c || is_small stop c

-- "the number of leading channels of the rewritten list"; "the count still ends at the first other channel with a side above 8"
unfoldable pub coarse_count : ℕ → List Channel → ℕ
coarse_count stop cs = leading (is_coarse stop) cs

-- the answer 0 with a coarse count, or a refusal's number and 0
pub record CoarseCount : Type 0 where
  pub answer : ℕ
  pub count : ℕ

-- the same of what the function gives that counts
abbrev pub counted_of : Result ℕ Refusal → CoarseCount
counted_of (Ok n) = record { answer = 0; count = n }
counted_of (Err refusal) = record { answer = number_of refusal; count = 0 }

-- A.11: "The coarse count takes the version's side"; "a version other than 1 or 2" is refused with 4, and nothing else is
unfoldable pub coarse_of : ℕ → ChannelList → CoarseCount
coarse_of version l =
    cond (is_version version)
    (record { answer = 0; count = coarse_count (rule_of version).stop (channels l) })
    (record { answer = refused_form; count = 0 })

-- ---- the laws
-- every channel that is not meta has no side above the stopping side
abbrev pub OthersSmall : ℕ → List Channel → Type 0
OthersSmall stop cs = (k : ℕ) → k < length cs → is_meta (channel_of cs k) ≡ false → ((channel_of cs k).width ≤ stop) × ((channel_of cs k).height ≤ stop)

-- so many leading channels are coarse, and no more
pub record IsCount (stop : ℕ) (cs : List Channel) (n : ℕ) : Type 0 where
  pub within : n ≤ length cs
  pub counted : (k : ℕ) → k < n → is_coarse stop (channel_of cs k) ≡ true
  pub ended : n < length cs → is_coarse stop (channel_of cs n) ≡ false

pub record CountLaws (stop : ℕ) (cs : List Channel) : Type 0 where
  -- the channels counted are coarse, and the one after them, if there is one, is not; no other number is such
  pub counts : IsCount stop cs (coarse_count stop cs)
  pub only : (n : ℕ) → IsCount stop cs n → n ≡ coarse_count stop cs
  -- every leading meta channel is counted
  pub metas : meta_count cs ≤ coarse_count stop cs
  -- the count is the channel count exactly when every channel that is not meta has no side above the stopping side
  pub all_small : coarse_count stop cs ≡ length cs → OthersSmall stop cs
  pub small_all : OthersSmall stop cs → coarse_count stop cs ≡ length cs
  -- for a list without meta channels the count is what it was
  pub as_before : no_meta cs ≡ true → coarse_count stop cs ≡ leading (is_small stop) cs
  -- where meta channels come first, the others are counted as if they stood alone
  pub parts : meta_first cs ≡ true → coarse_count stop cs ≡ meta_count cs + leading (is_small stop) (drop (meta_count cs) cs)
