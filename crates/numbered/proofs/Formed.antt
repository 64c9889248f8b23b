-- What the numbers come to, by their groups (proofs/Chunks.antt): the counts, what no field could hold, and the answer of the arrays that the code fills.
-- Assumes nothing.
use mathlib.Core.Path.{◌≡◌, sym, ap, ◌∙◌}
use mathlib.Core.Bool.{Bool, true, false, ◌&&◌}
use mathlib.Core.List.{List}
use Prim.Native.Nat.{ℕ}
use lib.Dec.{leb}
use lib.ListN.{length}
use Rattle.list.specs.declared.ChannelList.{ChannelList}
use Rattle.list.specs.Tables.{all}
use Rattle.list.specs.Lists as Lists
use Rattle.list.specs.Lists.{max_channels, max_steps}
use Rattle.list.specs.Questions as Q
use Rattle.plan.specs.declared.Form.{Form}
use Rattle.plan.specs.declared.Steps.{Steps}
use Rattle.plan.specs.Plans.{judge_plan}
use Rattle.plan.specs.Steps as S
use Rattle.plan.specs.Steps.{flags_allowed}
use Rattle.numbered.specs.Numbered.{judge_numbers}
use Rattle.numbered.specs.Arrays.{shifts_fit, list_of, plan_by, held, channels_in, flags_in, steps_in, form_of}
use Rattle.numbered.proofs.Arrays.{packed_table}
use Rattle.numbered.proofs.Judged.{ListFits, StepsFit, numbers_refused₃, numbers_misfit, numbers_fit, numbers_held}
use Rattle.numbered.proofs.Chunks.{Grouped, grouped_lem}

-- the code's test of both counts
abbrev counted : List (List ℕ) → List (List ℕ) → Bool
counted cs ss = (leb 1 (length cs) && leb (length cs) max_channels) && leb (length ss) max_steps

module _ (version : ℕ) (ns ms : List ℕ) (cs ss : List (List ℕ)) (g : Grouped ns ms cs ss) where
  pub count_refused : counted cs ss ≡ false → 3 ≡ judge_numbers version ns ms
  unfolding Q.count_allowed
  count_refused h = numbers_refused₃ version ns ms (rw (g.channels_number, g.steps_number) at h)

  -- x and y are what the code found of the shifts and of the flags
  module _ (h : counted cs ss ≡ true) (x y : Bool) (ex : x ≡ all shifts_fit (channels_in cs)) (ey : y ≡ all flags_allowed (flags_in ss)) where
    pub misfit_refused : x && y ≡ false → 4 ≡ judge_numbers version ns ms
    unfolding Q.count_allowed
    misfit_refused =
        numbers_misfit version ns ms (rw (g.channels_number, g.steps_number) at h) x y (ex ∙ ap (all shifts_fit) g.channels_are) (ey ∙ ap (all flags_allowed) g.flags_are)

    module _ (t : x && y ≡ true) (l : ChannelList) (s : Steps) (el : l ≡ Lists.packed (channels_in cs)) (es : s ≡ S.packed (steps_in ss)) where
      fits : ListFits ns × StepsFit ms
      unfolding Q.count_allowed
      fits = numbers_fit version ns ms (rw (g.channels_number, g.steps_number) at h) x y (ex ∙ ap (all shifts_fit) g.channels_are) (ey ∙ ap (all flags_allowed) g.flags_are) t

      list_is : l ≡ list_of ns
      list_is = el ∙ ap Lists.packed g.channels_are

      steps_is : s ≡ plan_by held ms
      steps_is = es ∙ ap S.packed g.steps_are ∙ sym (packed_table held ms fits.1.1)

      pub form_is : ◌≡◌ {A = Form} (record { version = version; list = l; steps = s }) (form_of version ns ms)
      form_is = λ i. record { version = version; list = list_is i; steps = steps_is i }

      pub form_judged : judge_plan version l s ≡ judge_numbers version ns ms
      unfolding Q.count_allowed
      form_judged = rw (list_is, steps_is) (numbers_held version ns ms (rw (g.channels_number, g.steps_number) at h) fits.0)

-- what the first two refusals need
pub ruleset refusals = (grouped_lem, count_refused, misfit_refused)
