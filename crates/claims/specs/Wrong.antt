-- Programs that must not get through (document 01, "Contract by contract", c; document 02, A.2 and A.11): what each would leave in the slice that it fills,
-- or print as the coarse count. None agrees with the contracts of `squeeze_rebuild`, `squeeze_write` and `squeeze_listing`. Statements only;
-- proofs/Wrong.antt proves them by four records.
use Rattle.std.specs.Prelude.{◌≡◌, Bool, cond, ◌⊎◌, List, [], ◌∷◌, ℕ, ◌+◌, ◌-◌, ℤ, eqb, length}
use Rattle.channel.specs.declared.Channel.{Channel}
use Rattle.list.specs.declared.Step.{Step}
use Rattle.list.specs.Lists.{stepped}
use Rattle.plan.specs.Version.{standard_side, house_side}
use Rattle.plan.specs.Default.{leading, meta_count}
use Rattle.plan.specs.Coarse.{is_small, is_coarse, coarse_count}
use Rattle.record.specs.Reading.{form_of}
use Rattle.record.specs.Records.{read_answer, channels_of, steps_of, reached_of}
use Rattle.buffer.specs.Buffer.{zeros}
use Rattle.runs.specs.Runs.{step_back, step_forward}
use Rattle.squeeze.specs.Entry.{answer, picture_of, pyramid_of}
use Rattle.claims.specs.Coarse.{side_of, coarse_of}

-- the filled slice afterwards, from the record, the slice that is read and the slices as they came
abbrev pub Program : Type 0
Program = List ℕ → List ℤ → List ℤ → List ℤ → List ℤ

-- a program does not do what a call's contract says
abbrev pub Refuted : Program → Program → Type 0
Refuted contract f = ((bytes : List ℕ) (read filled work : List ℤ) → answer bytes read filled work ≡ 0
    → f bytes read filled work ≡ contract bytes read filled work) → ⊥

-- "a copy of pyramid to picture", and of picture to pyramid
abbrev pub copies : Program
copies bytes read filled work = read

-- "an all-zero picture"
abbrev pub zeroes : Program
zeroes bytes read filled work = zeros filled

-- "an untouched slice"
abbrev pub leaves : Program
leaves bytes read filled work = filled

-- "a run that takes the first step only and copies the rest": the plan's first step, back and forward
abbrev pub first_by : (Step → List Channel → List ℤ → List ℤ) → List Step → List Channel → List ℤ → List ℤ
first_by f [] cs xs = xs
first_by f (s ∷ ss) cs xs = f s cs xs

abbrev pub first_only : Program
first_only bytes read filled work = first_by step_back (steps_of bytes) (channels_of bytes) read

abbrev pub first_written : Program
first_written bytes read filled work = first_by step_forward (steps_of bytes) (channels_of bytes) read

-- and the plan's last step, which rebuilding takes first
abbrev pub last_of : List Step → List Channel → List ℤ → List ℤ
last_of [] cs xs = xs
last_of (s ∷ []) cs xs = step_back s cs xs
last_of (s ∷ t ∷ ss) cs xs = last_of (t ∷ ss) (stepped s cs) xs

abbrev pub last_only : Program
last_only bytes read filled work = last_of (steps_of bytes) (channels_of bytes) read

-- "a refusal of every record"
abbrev pub RefusesAll : Type 0
RefusesAll = (bytes : List ℕ) (read filled work : List ℤ) → answer bytes read filled work ≡ 0 → ⊥

-- "a made-up coarse count": a count of a record's channels that is not the definition's
abbrev pub Count : Type 0
Count = List ℕ → ℕ

abbrev pub CountRefuted : Count → Type 0
CountRefuted f = ((bytes : List ℕ) → read_answer bytes ≡ 0 → f bytes ≡ coarse_of bytes) → ⊥

-- one number for every record, every channel of the rewritten list, and the count of the list before the plan
abbrev pub always : ℕ → Count
always n bytes = n

abbrev pub every_channel : Count
every_channel bytes = length (reached_of bytes)

abbrev pub before_the_plan : Count
before_the_plan bytes = coarse_count (side_of bytes) (channels_of bytes)

-- meta channels only up to the stopping side; meta channels left out; coarse channels counted on past the first other one
abbrev pub small_only : Count
small_only bytes = leading (is_small (side_of bytes)) (reached_of bytes)

abbrev pub metas_left_out : Count
metas_left_out bytes = coarse_of bytes - meta_count (reached_of bytes)

abbrev pub among : (Channel → Bool) → List Channel → ℕ
among p [] = 0
among p (c ∷ cs) = cond (p c) 1 0 + among p cs

abbrev pub counted_on : Count
counted_on bytes = among (is_coarse (side_of bytes)) (reached_of bytes)

-- A.11: "side 8 for the coarse count under version 2 (or 32 under 1)"; "version 2 only honoured where the plan is the default's"
abbrev pub by_side : ℕ → Count
by_side side bytes = coarse_count side (reached_of bytes)

abbrev pub by_default_only : Count
by_default_only bytes = coarse_count (cond (eqb (length (form_of bytes).steps) 0) (side_of bytes) standard_side) (reached_of bytes)

pub record Wrong : Type 0 where
  pub picture_copied : Refuted picture_of copies
  pub picture_zeroed : Refuted picture_of zeroes
  pub picture_left : Refuted picture_of leaves
  pub picture_first_only : Refuted picture_of first_only
  pub picture_last_only : Refuted picture_of last_only
  pub pyramid_copied : Refuted pyramid_of copies
  pub pyramid_zeroed : Refuted pyramid_of zeroes
  pub pyramid_left : Refuted pyramid_of leaves
  pub pyramid_first_only : Refuted pyramid_of first_written
  pub all_refused : RefusesAll → ⊥
  pub count_made_up : (n : ℕ) → CountRefuted (always n)
  pub count_of_all : CountRefuted every_channel
  pub count_before_plan : CountRefuted before_the_plan
  pub count_small_only : CountRefuted small_only
  pub count_metas_left_out : CountRefuted metas_left_out
  pub count_counted_on : CountRefuted counted_on
  pub count_by_one_side : (side : ℕ) → (side ≡ standard_side) ⊎ (side ≡ house_side) → CountRefuted (by_side side)
  pub count_by_default_only : CountRefuted by_default_only
