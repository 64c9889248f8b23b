-- Each channel knows its origin (document 02, A.4), over the definitions that the contracts cite: `taken` for `step`, `rewritten` for `rewrite`, `read_of` for
-- `read_record`, `rebuild` and `write` with theirs, and `reached_of` and `origins_of` of a record, whose numbers `squeeze_layout` gives (`layout_of` of crate
-- layout); that it changes nothing where it is refused is in specs/Demands.antt. Statements only; proofs/Origins.antt proves them.
use Rattle.std.specs.Prelude.{◌≡◌, true, false, cond, List, [], ◌∷◌, ◌++◌, ℕ, ◌+◌, ℤ, length}
use Rattle.channel.specs.declared.Channel.{Channel}
use Rattle.list.specs.declared.ChannelList.{ChannelList}
use Rattle.list.specs.declared.Step.{Step}
use Rattle.list.specs.Tables.{table, map}
use Rattle.list.specs.Lists.{lent, channels, origins, own_positions, before, range, after}
use Rattle.list.specs.Questions.{judge_list, taken}
use Rattle.plan.specs.declared.Steps.{Steps}
use Rattle.plan.specs.Steps.{steps}
use Rattle.plan.specs.Coarse.{coarse_of}
use Rattle.plan.specs.Default.{step}
use Rattle.plan.specs.Plans.{meant, meant_steps, rewritten}
use Rattle.record.specs.Records.{read_answer, read_of, channels_of, steps_of, reached_of, origins_of, written_of, written_bytes}
use Rattle.layout.specs.Laws.{NumbersBack}
use Rattle.runs.specs.Runs.{layout}
use Rattle.origins.specs.Origins.{origins_from, layout_origins}
use Rattle.origins.specs.Claim.{OriginLaws}
use Rattle.rebuild.specs.Rebuild as Rebuild
use Rattle.write.specs.Write as Write
use Rattle.claims.specs.Table.{channel}

-- ---- whole runs
-- `step` call after `step` call; a refused one leaves the list as it came
abbrev pub after_steps : List Step → ChannelList → ChannelList
after_steps [] l = l
after_steps (s ∷ ss) l = after_steps ss (taken s l).list

pub record WholeRuns : Type 0 where
  -- totals, positions and averages, for any list and any list of steps, refused ones among them, from own positions
  pub laws : (ss : List Step) (cs : List Channel) → OriginLaws ss cs
  -- the layout and the origins that they speak of are those that the calls give: steps one by one, from any origins,
  pub step_by_step : (ss : List Step) (l : ChannelList) → judge_list l ≡ 0
      → (channels (after_steps ss l) ≡ layout ss (channels l)) × (origins (after_steps ss l) ≡ origins_from ss (channels l) (origins l))
  -- a plan, from own positions,
  pub planned : (version : ℕ) (l : ChannelList) (s : Steps) → (rewritten version l s).answer ≡ 0
      → (channels (rewritten version l s).list ≡ layout (meant version (steps s) (channels l)) (channels l))
      × (origins (rewritten version l s).list ≡ layout_origins (meant version (steps s) (channels l)) (channels l))
  -- and a record, whose list as it is read has own positions
  pub read : (bytes : List ℕ) → read_answer bytes ≡ 0 → origins (read_of bytes).list ≡ own_positions (length (channels_of bytes))
  pub laid_out : (bytes : List ℕ) → read_answer bytes ≡ 0
      → (reached_of bytes ≡ layout (steps_of bytes) (channels_of bytes)) × (origins_of bytes ≡ layout_origins (steps_of bytes) (channels_of bytes))

-- ---- "only origins were added": a list with others in their place
abbrev pub with_origins : List ℕ → ChannelList → ChannelList
with_origins os l = lent l.count l.widths l.heights l.hshifts l.vshifts os

-- has the same channels and is judged alike, and the calls below give the same, but for a single step's origins and a refused list, which comes back as it
-- came
pub record OnlyOrigins (os : List ℕ) (l : ChannelList) : Type 0 where
  pub same : channels (with_origins os l) ≡ channels l
  pub judged : judge_list (with_origins os l) ≡ judge_list l
  pub stepped : (s : Step) → ((taken s (with_origins os l)).answer ≡ (taken s l).answer) × (channels (taken s (with_origins os l)).list ≡ channels (taken s l).list)
  pub meant : (version : ℕ) (s : Steps) → meant_steps version (with_origins os l) s ≡ meant_steps version l s
  -- "A plan run starts by giving each channel its own position", whatever origins the list came with
  pub rewrites : (version : ℕ) (s : Steps) → (rewritten version (with_origins os l) s).answer ≡ (rewritten version l s).answer
  pub leaves : (version : ℕ) (s : Steps) → (rewritten version l s).answer ≡ 0 → (rewritten version (with_origins os l) s).list ≡ (rewritten version l s).list
  pub refuses : (version : ℕ) (s : Steps) → ((rewritten version l s).answer ≡ 0 → ⊥) → (rewritten version (with_origins os l) s).list ≡ with_origins os l
  pub coarse : (version : ℕ) → coarse_of version (with_origins os l) ≡ coarse_of version l
  pub written : (version : ℕ) (s : Steps) (out : List ℕ)
      → (written_of version (with_origins os l) s out ≡ written_of version l s out) × (written_bytes version (with_origins os l) s out ≡ written_bytes version l s out)
  pub rebuilt : (version : ℕ) (s : Steps) (pyramid picture work : List ℤ)
      → (Rebuild.answer_of version (with_origins os l) s pyramid picture work ≡ Rebuild.answer_of version l s pyramid picture work)
      × (Rebuild.picture_after version (with_origins os l) s pyramid picture work ≡ Rebuild.picture_after version l s pyramid picture work)
  pub squeezed : (version : ℕ) (s : Steps) (picture pyramid work : List ℤ)
      → (Write.answer version (with_origins os l) s picture pyramid work ≡ Write.answer version l s picture pyramid work)
      × (Write.written version (with_origins os l) s picture pyramid work ≡ Write.written version l s picture pyramid work)

-- ---- three channels of 4 by 4: the first is squeezed in place, then its residual, then the second picture channel, which has moved to 3, not in place
abbrev pub squares : List Channel
squares = channel 4 4 ∷ channel 4 4 ∷ channel 4 4 ∷ []

abbrev pub square_steps : List Step
square_steps = step true true 0 1 ∷ step true true 1 1 ∷ step false false 3 1 ∷ []

-- ---- origins that must not get through: what a step would leave of them
abbrev pub origins_by : (Step → List ℕ → List ℕ) → List Step → List ℕ → List ℕ
origins_by f [] os = os
origins_by f (s ∷ ss) os = origins_by f ss (f s os)

-- residuals rs among the origins, in place or not
abbrev pub with_residuals : List ℕ → Step → List ℕ → List ℕ
with_residuals rs s os = before s os ++ (range s os ++ cond s.inplace (rs ++ after s os) (after s os ++ rs))

-- "a residual with its own position as origin"
abbrev pub own_residuals : Step → List ℕ → List ℕ
own_residuals s os = with_residuals (table (λ k. k) (cond s.inplace (s.begin + s.number) (length os)) s.number) s os

-- "a residual of a residual with the residual's position": the position, in the list as it then is, of the channel squeezed
abbrev pub squeezed_positions : Step → List ℕ → List ℕ
squeezed_positions s os = with_residuals (table (λ k. k) s.begin s.number) s os

-- "origins left where channels move": in place those behind the range, not in place the residuals at the end
abbrev pub left_behind : Step → List ℕ → List ℕ
left_behind s os = os ++ range s os

abbrev pub left_in_range : Step → List ℕ → List ℕ
left_in_range s os = before s os ++ (range s os ++ (range s os ++ after s os))

-- "0 for all"
abbrev pub zero_for_all : List ℕ → List ℕ
zero_for_all bytes = map (λ _. 0) (reached_of bytes)

-- no such program gives what `squeeze_layout` gives
abbrev pub OriginsRefuted : (List ℕ → List ℕ) → Type 0
OriginsRefuted f = ((bytes : List ℕ) → read_answer bytes ≡ 0 → f bytes ≡ origins_of bytes) → ⊥

abbrev pub along : (Step → List ℕ → List ℕ) → List ℕ → List ℕ
along f bytes = origins_by f (steps_of bytes) (own_positions (length (channels_of bytes)))

-- "origins taken over from the list that came in when a plan run starts": nor does such a one give what `rewrite` gives
abbrev pub TakenOverRefuted : Type 0
TakenOverRefuted = ((version : ℕ) (l : ChannelList) (s : Steps) → (rewritten version l s).answer ≡ 0
    → origins_from (meant version (steps s) (channels l)) (channels l) (origins l) ≡ origins (rewritten version l s).list) → ⊥

pub record NotThrough : Type 0 where
  pub own_residuals_lem : OriginsRefuted (along own_residuals)
  pub squeezed_positions_lem : OriginsRefuted (along squeezed_positions)
  pub left_behind_lem : OriginsRefuted (along left_behind)
  pub left_in_range_lem : OriginsRefuted (along left_in_range)
  pub zero_for_all_lem : OriginsRefuted zero_for_all
  pub taken_over : TakenOverRefuted

pub record Origins : Type 0 where
  pub whole_runs : WholeRuns
  pub only_origins : (os : List ℕ) (l : ChannelList) → OnlyOrigins os l
  -- the numbers that `squeeze_layout` gives are those that `squeeze_record` takes
  pub numbers_back : NumbersBack
  pub not_through : NotThrough
  -- the squares: steps that are accepted, with the origins that they leave
  pub squares_left : (layout_origins square_steps squares ≡ 0 ∷ 0 ∷ 0 ∷ 1 ∷ 2 ∷ 1 ∷ []) × (length (layout square_steps squares) ≡ 6)
