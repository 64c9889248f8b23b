-- A run over flat arrays (`ran` of specs/Plans.antt): before each step the list that is reached and the steps that are left give the whole run.
-- Assumes nothing.
use mathlib.Core.Path.{◌≡◌, sym, ap, ◌∙◌}
use mathlib.Core.List.{List, ◌∷◌}
use Prim.Native.Nat.{ℕ, ◌+◌, ◌-◌, ◌<◌, ◌≤◌, min}
use native.Mathlib.Omega.{arith}
use borrow.Author.Tests.{ne_eqb}
use lib.ListN.{length}
use Rattle.channel.specs.declared.Channel.{Channel}
use Rattle.list.specs.declared.ChannelList.{ChannelList}
use Rattle.list.specs.declared.Step.{Step}
use Rattle.list.specs.Questions.{Stepped}
use Rattle.list.specs.Tables.{table}
use Rattle.list.specs.Lists as Lists
use Rattle.list.specs.Lists.{max_steps, channels, origins, holding, packed, stepped_origins}
use Rattle.list.specs.Questions.{judge_list, judge_step, taken_on}
use Rattle.list.specs.Accepted.{Accepted}
use Rattle.list.proofs.Tables.{table_rest, table_none}
use Rattle.list.proofs.Channels.{channels_length, origins_length, own_length}
use Rattle.list.proofs.Entries.{stepped_length, origins_stepped}
use Rattle.list.proofs.Packed.{channels_held, origins_held}
use Rattle.list.proofs.Acceptance.{list_accepted, step_accepted}
use Rattle.list.proofs.Kept.{stepped_allowed}
use Rattle.list.proofs.Taken.{on_answer, on_taken}
use Rattle.plan.specs.declared.Steps.{Steps}
use Rattle.plan.specs.Steps.{step_at, steps}
use Rattle.plan.specs.Plans.{judge_steps, stepped_all, origins_all, origins_left, outcome, ran}

-- ---- the list `now` is reached, and the steps from k on are left
abbrev pub left : Steps → ℕ → List Step
left s k = table (step_at s) k (min s.count max_steps - k)

-- step x is the one at k
pub left_next : (s : Steps) (k : ℕ) → k < min s.count max_steps → (x : Step) → x ≡ step_at s k → left s k ≡ x ∷ left s (k + 1)
left_next s k h x ex = rw ex (table_rest (step_at s) k (min s.count max_steps) h)

pub record Reached (l : ChannelList) (s : Steps) (now : ChannelList) (k : ℕ) : Type 0 where
  pub inside : k ≤ min s.count max_steps
  pub ok : Accepted (channels now)
  pub tidy : now ≡ holding (channels now) (origins now)
  pub judged : judge_steps (left s k) (channels now) ≡ judge_steps (steps s) (channels l)
  pub stepped : stepped_all (left s k) (channels now) ≡ stepped_all (steps s) (channels l)
  pub origined : origins_all (left s k) (origins now) ≡ origins_left (steps s) (channels l)

module _ (l : ChannelList) (s : Steps) where
  -- arrays that hold accepted channels
  held_reached : (k : ℕ) (now : ChannelList) (cs : List Channel) (os : List ℕ) → k ≤ min s.count max_steps → Accepted cs → length os ≡ length cs → now ≡ holding cs os
      → judge_steps (left s k) cs ≡ judge_steps (steps s) (channels l) → stepped_all (left s k) cs ≡ stepped_all (steps s) (channels l)
      → origins_all (left s k) os ≡ origins_left (steps s) (channels l) → Reached l s now k
  held_reached k now cs os h a n e j r o =
      let same : channels now ≡ cs = ap channels e ∙ channels_held cs os a.few in
      let from : origins now ≡ os = ap origins e ∙ origins_held cs os a.few n in
      record {
        inside = h;
        ok = rw same a;
        tidy = e ∙ rw (same, from);
        judged = rw same j;
        stepped = rw same r;
        origined = rw from o;
      }

  pub reached_none : judge_list l ≡ 0 → (now : ChannelList) → now ≡ packed (channels l) → Reached l s now 0
  unfolding steps
  reached_none ok now e =
      let z : min s.count max_steps - 0 ≡ min s.count max_steps = omega arith in
      held_reached 0 now (channels l) _ (omega arith) (list_accepted l ok) (own_length _) e (rw z) (rw z) (rw z)

  -- step x is the one at k, and t what the list makes of it
  module _ (now : ChannelList) (k : ℕ) (w : Reached l s now k) (h : k < min s.count max_steps) (x : Step) (ex : x ≡ step_at s k) (t : Stepped) (et : t ≡ taken_on x now) where
    answered : t.answer ≡ judge_step x (channels now)
    answered = ap (λ (u : Stepped). u.answer) et ∙ on_answer x now

    pub reached_stop : (t.answer ≡ 0 → ⊥) → record { answer = t.answer; list = l } ≡ ran (steps s) l
    unfolding outcome ran
    reached_stop refused =
        let e = ne_eqb t.answer 0 refused in
        let whole : t.answer ≡ judge_steps (steps s) (channels l) = rw (left_next s k h x ex, ← answered, e) at w.judged in
        rw (← whole, e)

    pub reached_more : t.answer ≡ 0 → Reached l s t.list (k + 1)
    reached_more accepted =
        let zero : judge_step x (channels now) ≡ 0 = sym answered ∙ accepted in
        let ok = step_accepted x (channels now) zero in
        let n = channels_length now in
        let m = origins_length now in
        let inside = ok.inside in
        held_reached (k + 1) t.list (Lists.stepped x (channels now)) (stepped_origins x (origins now)) (omega arith)
        (stepped_allowed x (channels now) ok w.ok)
        (origins_stepped x (origins now) (omega arith) ∙ omega (arith, stepped_length x (channels now) inside))
        (ap (λ (u : Stepped). u.list) (et ∙ on_taken x now zero))
        (rw (left_next s k h x ex, zero) at w.judged)
        (rw (left_next s k h x ex) at w.stepped)
        (rw (left_next s k h x ex) at w.origined)

  pub reached_all : (now : ChannelList) (k : ℕ) → min s.count max_steps ≤ k → Reached l s now k → record { answer = 0; list = now } ≡ ran (steps s) l
  unfolding outcome ran
  reached_all now k h w =
      let none = table_none (step_at s) k (min s.count max_steps) h in
      let j : 0 ≡ judge_steps (steps s) (channels l) = rw none at w.judged in
      let r : channels now ≡ stepped_all (steps s) (channels l) = rw none at w.stepped in
      let o : origins now ≡ origins_left (steps s) (channels l) = rw none at w.origined in
      rw (← j, ← r, ← o) (ap (λ (x : ChannelList). record { answer = 0; list = x }) w.tidy)
