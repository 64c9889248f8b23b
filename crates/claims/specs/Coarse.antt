-- The coarse count (document 02, A.2 and A.11), over the definitions that the contracts of `coarse_count` and `squeeze_listing` cite: what clerks rely on, of
-- every list, and the line that is printed of every record. Statements only; proofs/Coarse.antt proves them.
use Rattle.std.specs.Prelude.{◌≡◌, true, false, List, [], ◌∷◌, ◌++◌, ℕ, ◌+◌, length, drop}
use Rattle.channel.specs.declared.Channel.{Channel}
use Rattle.channel.specs.Channel.{meta_shift}
use Rattle.list.specs.declared.Step.{Step}
use Rattle.list.specs.Questions.{no_meta}
use Rattle.plan.specs.Version.{standard_version, rule_of}
use Rattle.plan.specs.Default.{leading, meta_count, step}
use Rattle.plan.specs.Coarse.{is_small, coarse_count, CountLaws}
use Rattle.record.specs.Bytes.{record_of}
use Rattle.record.specs.Records.{read_answer, version_of, channels_of, steps_of, reached_of}
use Rattle.listing.specs.Text.{steps_word, channels_word, coarse_word, numbered, step_lines, channel_lines}
use Rattle.listing.specs.Listing.{listing}
use Rattle.claims.specs.Table.{channel}

-- a record's coarse count: that of the list that its plan leaves, by the side of its version
abbrev pub side_of : List ℕ → ℕ
side_of bytes = (rule_of (version_of bytes)).stop

abbrev pub coarse_of : List ℕ → ℕ
coarse_of bytes = coarse_count (side_of bytes) (reached_of bytes)

-- the lines of a listing before its last
abbrev pub lines_before : List Step → List Channel → List ℕ
lines_before ss cs = numbered steps_word (length ss) ++ (step_lines ss ++ (numbered channels_word (length cs) ++ channel_lines cs))

-- a meta channel, and that the record of a version, channels and steps is accepted and has n coarse channels
abbrev pub palette : ℕ → ℕ → Channel
palette width height = record { width = width; height = height; hshift = meta_shift; vshift = meta_shift }

abbrev pub Counts : ℕ → List Channel → List Step → ℕ → Type 0
Counts version cs ss n = (read_answer (record_of version cs ss) ≡ 0) × (coarse_of (record_of version cs ss) ≡ n)

pub record Coarse : Type 0 where
  -- over any stopping side
  pub laws : (stop : ℕ) (cs : List Channel) → CountLaws stop cs
  -- "The printed coarse line is compared with this definition"
  pub printed : (bytes : List ℕ) → read_answer bytes ≡ 0
      → listing bytes ≡ lines_before (steps_of bytes) (reached_of bytes) ++ numbered coarse_word (coarse_of bytes)
  -- of an accepted record: all meta channels, and the small ones straight after them
  pub metas_and_small : (bytes : List ℕ) → read_answer bytes ≡ 0
      → coarse_of bytes ≡ meta_count (reached_of bytes) + leading (is_small (side_of bytes)) (drop (meta_count (reached_of bytes)) (reached_of bytes))
  -- a record without meta channels has the count that it had
  pub as_before : (bytes : List ℕ) → read_answer bytes ≡ 0 → no_meta (channels_of bytes) ≡ true
      → coarse_of bytes ≡ leading (is_small (side_of bytes)) (reached_of bytes)
  -- a palette before a picture; a palette squeezed in place, whose residual is meta; palettes alone; none
  pub palette_first : Counts standard_version (palette 300 1 ∷ channel 20 9 ∷ []) [] 3
  pub palette_squeezed : Counts standard_version (palette 300 1 ∷ palette 40 2 ∷ channel 20 9 ∷ []) (step true true 1 1 ∷ []) 3
  pub palettes_alone : Counts standard_version (palette 300 1 ∷ palette 40 2 ∷ []) (step true true 0 1 ∷ step false true 2 1 ∷ []) 4
  pub no_palette : Counts standard_version (channel 20 9 ∷ []) [] 2
