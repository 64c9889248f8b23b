-- The coarse count's claims (specs/Coarse.antt): by the laws of the count, and the rows by computation. Assumes nothing.
use mathlib.Core.Path.{◌≡◌, refl, sym, ap, ◌∙◌}
use mathlib.Core.Bool.{true, false, and-eq-true_iff}
use mathlib.Core.List.{List, [], ◌∷◌, ◌++◌, append_assoc}
use Prim.Native.Nat.{ℕ}
use lib.ListN.{length}
use Rattle.channel.specs.declared.Channel.{Channel}
use Rattle.channel.specs.Channel as Channel
use Rattle.channel.specs.Channel.{is_allowed}
use Rattle.list.specs.declared.Step.{Step}
use Rattle.list.specs.Lists as Lists
use Rattle.list.specs.Tables.{all}
use Rattle.list.specs.Questions as Questions
use Rattle.list.specs.Questions.{no_meta, meta_first}
use Rattle.plan.specs.Steps as Steps
use Rattle.plan.specs.Version as Versions
use Rattle.plan.specs.Default as Default
use Rattle.plan.specs.Version.{standard_version, rule_of}
use Rattle.plan.specs.Default.{step}
use Rattle.plan.specs.Coarse as Count
use Rattle.plan.specs.Coarse.{coarse_count}
use Rattle.plan.specs.Plans as Plans
use Rattle.plan.specs.Plans.{judge_plan, stepped_all, meant}
use Rattle.plan.proofs.Coarse.{count_laws}
use Rattle.plan.proofs.Runs.{plan_accepted, plan_plain}
use Rattle.record.specs.Records.{read_answer, channels_of, steps_of, reached_of}
use Rattle.record.proofs.Readings.{channels_accepted, steps_judged}
use Rattle.record.proofs.RecordOf.{record_accepted, record_version, record_reached}
use Rattle.listing.specs.Text.{steps_word, channels_word, coarse_word, numbered, step_lines, channel_lines}
use Rattle.listing.specs.Listing as Listing
use Rattle.listing.specs.Listing.{listing}
use Rattle.claims.specs.Table.{channel}
use Rattle.claims.specs.Coarse.{side_of, coarse_of, lines_before, palette, Counts, Coarse}

-- ---- a record that is accepted
module _ (bytes : List ℕ) (z : read_answer bytes ≡ 0) where
  pub last_line : listing bytes ≡ lines_before (steps_of bytes) (reached_of bytes) ++ numbered coarse_word (coarse_of bytes)
  unfolding Listing.listing Listing.plan_text
  last_line =
      let ss = steps_of bytes in
      let cs = reached_of bytes in
      let count = numbered coarse_word (coarse_of bytes) in
      rw z
      (sym (append_assoc (numbered steps_word (length ss)) _ count
      ∙ ap (λ (xs : List ℕ). numbered steps_word (length ss) ++ xs)
      (append_assoc (step_lines ss) _ count
      ∙ ap (λ (xs : List ℕ). step_lines ss ++ xs) (append_assoc (numbered channels_word (length cs)) (channel_lines cs) count))))

  reached_metas : meta_first (reached_of bytes) ≡ true
  unfolding Questions.channels_allowed
  reached_metas =
      ((and-eq-true_iff (all is_allowed (reached_of bytes)) (meta_first (reached_of bytes))).0
      (plan_accepted (steps_of bytes) (channels_of bytes) (channels_accepted bytes z) (steps_judged bytes z)).allowed).1

  reached_plain : no_meta (channels_of bytes) ≡ true → no_meta (reached_of bytes) ≡ true
  reached_plain = plan_plain (steps_of bytes) (channels_of bytes) (channels_accepted bytes z) (steps_judged bytes z)

-- ---- rows: what a record is read as is known by its own laws, and the plan is computed
module _ (version : ℕ) (cs : List Channel) (ss : List Step) (ok : judge_plan version (Lists.packed cs) (Steps.packed ss) ≡ 0) where
  pub counts : (n : ℕ) → coarse_count (rule_of version).stop (stepped_all (meant version ss cs) cs) ≡ n → Counts version cs ss n
  counts n e = (record_accepted version cs ss ok, (λ i. coarse_count (rule_of (record_version version cs ss ok i)).stop (record_reached version cs ss ok i)) ∙ e)

pub coarse : Coarse
unfolding
    Channel.is_meta Channel.shifts_allowed Channel.samples Channel.sides_fit Channel.is_allowed
    Lists.channels Lists.holding Lists.raised Lists.average Lists.residual Lists.stepped
    Questions.count_allowed Questions.channels_allowed Questions.total_allowed Questions.range_allowed Questions.kinds_alike Questions.place_allowed Questions.has_sides Questions.shifts_kept Questions.room_left Questions.judge_step
    Steps.flags_of Steps.flags_allowed Steps.steps Steps.all_flags Steps.packed
    Versions.is_version Versions.rule_of Default.meta_count Default.chroma Default.rounds Default.all_channels Default.default_steps Count.is_coarse Count.coarse_count
    Plans.has_other Plans.meant Plans.meant_allowed Plans.judge_form Plans.judge_meant Plans.judge_plan
coarse =
    record {
      laws = count_laws;
      printed = last_line;
      metas_and_small = λ bytes z. (count_laws (side_of bytes) (reached_of bytes)).parts (reached_metas bytes z);
      as_before = λ bytes z n. (count_laws (side_of bytes) (reached_of bytes)).as_before (reached_plain bytes z n);
      palette_first = counts standard_version (palette 300 1 ∷ channel 20 9 ∷ []) [] refl 3 refl;
      palette_squeezed = counts standard_version (palette 300 1 ∷ palette 40 2 ∷ channel 20 9 ∷ []) (step true true 1 1 ∷ []) refl 3 refl;
      palettes_alone = counts standard_version (palette 300 1 ∷ palette 40 2 ∷ []) (step true true 0 1 ∷ step false true 2 1 ∷ []) refl 4 refl;
      no_palette = counts standard_version (channel 20 9 ∷ []) [] refl 2 refl;
    }
