-- The record of a version, channels and steps that the questions accept (`record_of`): its reading gives them back. Assumes nothing.
use mathlib.Core.Path.{◌≡◌, refl, sym, ap, ◌∙◌}
use mathlib.Core.List.{List}
use native.Mathlib.Omega.{arith}
use Prim.Native.Nat.{ℕ}
use Rattle.channel.specs.declared.Channel.{Channel}
use Rattle.list.specs.declared.Step.{Step}
use Rattle.list.specs.Lists as Lists
use Rattle.list.specs.Lists.{channels}
use Rattle.list.proofs.Packed.{channels_packed}
use Rattle.plan.specs.Steps as S
use Rattle.plan.specs.Steps.{steps}
use Rattle.plan.specs.Plans.{judge_plan, meant, stepped_all}
use Rattle.plan.proofs.Packed.{packed_count, steps_packed}
use Rattle.plan.proofs.Judged.{judged_counts}
use Rattle.record.specs.Told.{Record}
use Rattle.record.specs.Bytes.{record_of}
use Rattle.record.specs.Reading.{Form, form_of}
use Rattle.record.specs.Records.{read_answer, version_of, reached_of}
use Rattle.record.specs.Laws.{ReadWritten}
use Rattle.record.proofs.Readings.{read_answer_lem}
use Rattle.record.proofs.ReadWritten.{read_written}

module _ (version : ℕ) (cs : List Channel) (ss : List Step) (ok : judge_plan version (Lists.packed cs) (S.packed ss) ≡ 0) where
  same_channels : channels (Lists.packed cs) ≡ cs
  unfolding Lists.holding
  same_channels = channels_packed cs (judged_counts version (Lists.packed cs) (S.packed ss) ok).0

  same_steps : steps (S.packed ss) ≡ ss
  same_steps = steps_packed ss (omega (arith, packed_count (S.packed ss) ss refl, (judged_counts version (Lists.packed cs) (S.packed ss) ok).1))

  written : ReadWritten version (Lists.packed cs) (S.packed ss)
  written = read_written version (Lists.packed cs) (S.packed ss) ok

  pub record_form : form_of (record_of version cs ss) ≡ record { answer = 0; version = version; channels = cs; steps = ss }
  record_form = rw (same_channels, same_steps) at written.form

  pub record_accepted : read_answer (record_of version cs ss) ≡ 0
  record_accepted = sym (read_answer_lem (record_of version cs ss) _ refl) ∙ ap (λ (r : Record). r.answer) (rw (same_channels, same_steps) at written.read)

  pub record_version : version_of (record_of version cs ss) ≡ version
  record_version = ap (λ (f : Form). f.version) record_form

  pub record_reached : reached_of (record_of version cs ss) ≡ stepped_all (meant version ss cs) cs
  record_reached = ap (λ (f : Form). stepped_all (meant f.version f.steps f.channels) f.channels) record_form
