-- What holds of every form that fields can come to (specs/Reading.antt): of one that is accepted, and of each refusal. Assumes nothing.
use mathlib.Core.Path.{◌≡◌}
use mathlib.Core.List.{List, []}
use Prim.Native.Nat.{ℕ, zero, suc}
use lib.Dec.{eqb, leb}
use lib.ListN.{length, drop}
use borrow.Author.Tests.{eqb-false}
use Rattle.numbers.specs.Numbers.{refused_count}
use Rattle.channel.specs.declared.Channel.{Channel}
use Rattle.list.specs.declared.Step.{Step}
use Rattle.list.proofs.Asking.{cond_has}
use Rattle.plan.specs.Version.{standard_version, house_version}
use Rattle.plan.proofs.Turns.{by_test}
use Rattle.record.specs.Bytes.{version_size}
use Rattle.record.specs.Reading.{Form, refused, asked, is_step, answer_of, read_fields, fields_of, has_version_tag, judge_version_field, form_of}

module _ (P : Form → Type 0) where
  -- a question with its own answer as number
  asked_has : (answer : ℕ) (next : Form) → P next → ((answer ≡ 0 → ⊥) → P (refused answer)) → P (asked (eqb answer 0) answer next)
  asked_has answer next whole bare = by_test (eqb answer 0) (λ e. rw e whole) (λ e. rw e (bare (eqb-false answer 0 e)))

  -- the fields of a list and its steps
  module _ (version : ℕ) (accepted : (cs : List Channel) (ss : List Step) → P (record { answer = 0; version = version; channels = cs; steps = ss }))
      (missing : P (refused refused_count)) (refusal : (bytes : List ℕ) (cs : List Channel) (ss : List Step) → (answer_of bytes cs ss ≡ 0 → ⊥) → P (refused (answer_of bytes cs ss))) where
    pub fields_have : (turns : ℕ) (bytes : List ℕ) (cs : List Channel) (ss : List Step) → P (read_fields version turns bytes cs ss)
    fields_have zero bytes cs ss = cond_has P (leb 1 (length cs)) _ (refused refused_count) (accepted cs ss) missing
    fields_have (suc turns) bytes cs ss =
        cond_has P (eqb (length bytes) 0) _ _ (cond_has P (leb 1 (length cs)) _ (refused refused_count) (accepted cs ss) missing)
        (asked_has (answer_of bytes cs ss) _ (cond_has P (is_step bytes) _ _ (fields_have turns _ _ _) (fields_have turns _ _ _)) (refusal bytes cs ss))

  -- a record
  pub form_has : ((version : ℕ) (cs : List Channel) (ss : List Step) → P (record { answer = 0; version = version; channels = cs; steps = ss }))
      → P (refused refused_count) → ((bytes : List ℕ) (cs : List Channel) (ss : List Step) → (answer_of bytes cs ss ≡ 0 → ⊥) → P (refused (answer_of bytes cs ss)))
      → ((bytes : List ℕ) → (judge_version_field bytes ≡ 0 → ⊥) → P (refused (judge_version_field bytes))) → (bytes : List ℕ) → P (form_of bytes)
  unfolding fields_of form_of
  form_has accepted missing refusal first bytes =
      let rest = drop version_size bytes in
      cond_has P (has_version_tag bytes) _ _
      (asked_has (judge_version_field bytes) _ (fields_have house_version (accepted house_version) missing refusal (length rest) rest [] []) (first bytes))
      (fields_have standard_version (accepted standard_version) missing refusal (length bytes) bytes [] [])
