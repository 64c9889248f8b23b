-- Reading field by field: the arrays hold the channels and the steps read so far, and the fields that are left complete the form of them.
-- Assumes nothing.
use mathlib.Core.Path.{◌≡◌, refl, sym, ap, ◌∙◌}
use mathlib.Core.Bool.{Bool, true, false, cond}
use mathlib.Core.List.{List, [], ◌∷◌, ◌++◌}
use Prim.Native.Nat.{ℕ, zero, suc, ◌<◌, ◌≤◌}
use native.Mathlib.Omega.{arith}
use lib.Dec.{eqb}
use lib.ListN.{length, drop, length-drop}
use borrow.Author.Tests.{eq-eqb, ne_eqb, le-leb, lt-leb, lt-ltb}
use Rattle.numbers.specs.Numbers.{refused_count}
use Rattle.channel.specs.declared.Channel.{Channel}
use Rattle.channel.specs.Channel.{is_meta}
use Rattle.list.specs.declared.ChannelList.{ChannelList}
use Rattle.list.specs.declared.Step.{Step}
use Rattle.list.specs.Tables.{all}
use Rattle.list.specs.Lists as Lists
use Rattle.list.specs.Lists.{max_channels, max_steps}
use Rattle.plan.specs.declared.Steps.{Steps}
use Rattle.plan.specs.Steps as S
use Rattle.plan.specs.Adding.{added}
use Rattle.plan.proofs.Packed.{packed_count, pushed_packed}
use Rattle.record.specs.Reading.{refused, asked, field_size, field_channel, field_step, is_step, judge_field, finished, answer_of, read_fields, fields_of}
use Rattle.record.specs.Records.{packed_form}
use Rattle.numbers.proofs.Refusals.{number_some}
use Rattle.record.proofs.Heads.{step_held, channel_held}
use Rattle.record.proofs.Pushed.{metas_pushed, list_pushed, list_count}
use Rattle.record.proofs.Fields.{judged_inside, is_step_lem, is_channel_lem, step_allowed, channel_allowed_lem}

-- cs and ss were read from the bytes before `rest`, and `turns` are enough for those of it
pub record Held (version : ℕ) (bytes : List ℕ) (list : ChannelList) (steps : Steps) (metas : Bool) (rest : List ℕ) : Type 0 where
  pub cs : List Channel
  pub ss : List Step
  pub turns : ℕ
  pub list_is : list ≡ Lists.packed cs
  pub steps_are : steps ≡ S.packed ss
  pub metas_are : metas ≡ all is_meta cs
  pub enough : length rest ≤ turns
  pub so : read_fields version turns rest cs ss ≡ fields_of version bytes

pub held_none : (version : ℕ) (bytes : List ℕ) (list : ChannelList) (steps : Steps) → list ≡ Lists.packed [] → steps ≡ S.packed [] → Held version bytes list steps true bytes
unfolding fields_of
held_none version bytes list steps el es =
    record { cs = []; ss = []; turns = length bytes; list_is = el; steps_are = es; metas_are = refl; enough = omega arith; so = refl }

module _ (version : ℕ) (bytes : List ℕ) (list : ChannelList) (steps : Steps) (metas : Bool) (rest : List ℕ) (w : Held version bytes list steps metas rest) where
  count_is : list.count ≡ length w.cs
  count_is = ap (λ (l : ChannelList). l.count) w.list_is ∙ list_count w.cs

  steps_count : steps.count ≡ length w.ss
  steps_count = packed_count steps w.ss w.steps_are

  -- no field is left
  module _ (h : length rest ≡ 0) where
    done : fields_of version bytes ≡ finished version w.cs w.ss
    done = sym w.so ∙ go w.turns
      where
        go : (t : ℕ) → read_fields version t rest w.cs w.ss ≡ finished version w.cs w.ss
        go zero = refl
        go (suc t) = rw h

    pub form_missing : list.count ≡ 0 → fields_of version bytes ≡ refused refused_count
    form_missing z = done ∙ rw (lt-leb 1 (length w.cs) (omega (arith, count_is)))

    pub form_all : (list.count ≡ 0 → ⊥) → record { answer = 0; version = version; list = list; steps = steps } ≡ packed_form (fields_of version bytes)
    unfolding packed_form
    form_all z = rw (done, le-leb 1 (length w.cs) (omega (arith, count_is)), w.list_is, w.steps_are)

  -- a field
  module _ (n : length rest ≡ 0 → ⊥) (answer : ℕ) (ea : answer ≡ judge_field rest list.count metas steps.count) where
    judged : answer ≡ answer_of rest w.cs w.ss
    judged = ea ∙ rw (count_is, w.metas_are, steps_count)

    turn : (t : ℕ) → read_fields version (suc t) rest w.cs w.ss
        ≡ asked (eqb answer 0) answer
        (cond (is_step rest)
        (read_fields version t (drop (field_size rest) rest) w.cs (w.ss ++ (field_step rest ∷ [])))
        (read_fields version t (drop (field_size rest) rest) (w.cs ++ (field_channel rest ∷ [])) w.ss))
    turn t = rw (ne_eqb (length rest) 0 n, ← judged)

    more : (t : ℕ) × (w.turns ≡ suc t) × (read_fields version (suc t) rest w.cs w.ss ≡ fields_of version bytes)
    more = go w.turns refl w.enough w.so
      where
        go : (t : ℕ) → w.turns ≡ t → length rest ≤ t → read_fields version t rest w.cs w.ss ≡ fields_of version bytes
            → (s : ℕ) × (w.turns ≡ suc s) × (read_fields version (suc s) rest w.cs w.ss ≡ fields_of version bytes)
        go zero et l e = absurd (n (omega arith))
        go (suc t) et l e = (t, et, e)

    pub form_refused : (answer ≡ 0 → ⊥) → fields_of version bytes ≡ refused answer
    form_refused z = sym more.2 ∙ turn more.0 ∙ rw (ne_eqb answer 0 z)

    module _ (z : answer ≡ 0) (next : List ℕ) (en : next ≡ drop (field_size rest) rest) where
      accepted : judge_field rest (length w.cs) (all is_meta w.cs) (length w.ss) ≡ 0
      accepted = sym judged ∙ z

      pub smaller : length next < length rest
      smaller = omega (arith, (judged_inside rest _ _ _ accepted).1, length-drop (field_size rest) rest, ap length en)

      pub held_step_lem : (l : ChannelList) (s : Steps) (m : Bool) → is_step rest ≡ true → s ≡ added steps (field_step rest) → l ≡ list → m ≡ metas
          → Held version bytes l s m next
      unfolding added
      held_step_lem l s m k es el em =
          let f = is_step_lem rest _ _ _ accepted k in
          let a = step_allowed rest _ f.judged in
          record {
            cs = w.cs;
            ss = w.ss ++ field_step rest ∷ [];
            turns = more.0;
            list_is = el ∙ w.list_is;
            steps_are = es ∙ rw (lt-ltb steps.count max_steps (omega (arith, a.0, steps_count)), w.steps_are) (pushed_packed w.ss (field_step rest) a.0);
            metas_are = em ∙ w.metas_are;
            enough = omega (arith, w.enough, more.1, smaller);
            so = rw en (sym (turn more.0 ∙ rw (eq-eqb answer 0 z, k)) ∙ more.2);
          }

      pub few : is_step rest ≡ false → list.count < max_channels
      few k = omega (arith, (channel_allowed_lem rest _ _ (is_channel_lem rest _ _ _ accepted k).judged).0, count_is)

      pub held_channel : (l : ChannelList) (s : Steps) (m : Bool) (c : Channel) → is_step rest ≡ false → c ≡ field_channel rest → l ≡ Lists.pushed list c list.count → s ≡ steps
          → m ≡ is_meta c → Held version bytes l s m next
      unfolding Lists.holding
      held_channel l s m c k ec el es em =
          let f = is_channel_lem rest _ _ _ accepted k in
          let a = channel_allowed_lem rest _ _ f.judged in
          record {
            cs = w.cs ++ field_channel rest ∷ [];
            ss = w.ss;
            turns = more.0;
            list_is = el ∙ rw (ec, count_is, w.list_is) (list_pushed w.cs (field_channel rest) a.0);
            steps_are = es ∙ w.steps_are;
            metas_are = em ∙ rw ec (metas_pushed w.cs (field_channel rest) a.1);
            enough = omega (arith, w.enough, more.1, smaller);
            so = rw en (sym (turn more.0 ∙ rw (eq-eqb answer 0 z, k)) ∙ more.2);
          }

-- what the loop over the fields needs
pub ruleset fields = (held_none, held_step_lem, held_channel, few, form_refused, form_missing, form_all, step_held, channel_held, number_some)
