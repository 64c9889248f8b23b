-- What the private functions of the rectangle rest on and give, in the words of specs/Rect.antt. Definitions only; no public contract cites them.
use Rattle.std.specs.Prelude.{cond, ℕ, ◌*◌, ◌≤◌, eqb, Option, None, Some}
use Rattle.rect.specs.declared.Span.{Span}
use Rattle.rect.specs.declared.StoredStart as Declared
use Rattle.rect.specs.declared.StoredStart.TheVariants.{Zero, Itself, WithinLf}
use Rattle.rect.specs.Rect.{StartRule, at_zero, at_start, within_lf, lf_dimension, tile_side, size_from}

-- the largest group dimension
abbrev pub max_group : ℕ
max_group = 1024

-- a tile's dimension is that of a group that is allowed, or its LF dimension
pub record Dimensions (dimension group : ℕ) : Type 0 where
  pub within : dimension ≤ lf_dimension group
  pub small : group ≤ max_group

abbrev pub rule_of : Declared.StoredStart → StartRule
rule_of Zero = at_zero
rule_of Itself = at_start
rule_of WithinLf = within_lf

-- one direction of a tile: none where it is empty, else where it starts in what is stored, and its size
abbrev pub span_of : StartRule → ℕ → ℕ → ℕ → ℕ → ℕ → Option Span
span_of rule dimension group side shift position =
    cond (eqb (size_from side (tile_side dimension shift) position) 0)
    None
    (Some (record {
      start = rule (position * tile_side dimension shift) (tile_side (lf_dimension group) shift);
      size = size_from side (tile_side dimension shift) position;
    }))
