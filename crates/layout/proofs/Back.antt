-- Numbers are read as what they were made of (specs/Laws.antt). Assumes nothing.
use mathlib.Core.Path.{◌≡◌, refl, sym, ap, ◌∙◌}
use mathlib.Core.Bool.{false}
use mathlib.Core.List.{List, [], ◌∷◌, ◌++◌}
use Prim.Native.Nat.{ℕ, zero, suc, ◌+◌, ◌-◌, ◌*◌, ◌/◌, ◌<◌}
use native.Mathlib.Omega.{arith}
use lib.ListN.{length, get_or}
use lib.Seq.{ext_get_or}
use Rattle.channel.specs.declared.Channel.{Channel}
use Rattle.list.specs.declared.Step.{Step}
use Rattle.list.specs.Questions.{no_channel}
use Rattle.list.proofs.Maps.{left_at, right_at}
use Rattle.plan.proofs.Packed.{unpacked}
use Rattle.record.specs.Bytes.{joined}
use Rattle.numbered.specs.Numbered as Numbered
use Rattle.numbered.specs.Numbered.{channel_at, channels_of, step_at, steps_of}
use Rattle.numbered.proofs.Fields.{entry_at, channels_count, channel_is, steps_count}
use Rattle.layout.specs.Layout as Layout
use Rattle.layout.specs.Layout.{step_numbers, channel_numbers, all_steps, all_channels}
use Rattle.layout.specs.Laws.{NumbersBack}
use Rattle.layout.proofs.Fronts.{steps_length, channels_length}

-- a number of field k, where each field has n and p tells where the number stands
module _ {ℓ} {A : Type ℓ} (field : A → List ℕ) (n i : ℕ) (each : (x : A) → length (field x) ≡ n) (inside : i < n)
    (p : ℕ → ℕ) (first : p 0 ≡ i) (next : (k : ℕ) → p (suc k) ≡ n + p k) (d : A) where
  joined_at : (xs : List A) (k : ℕ) → k < length xs → get_or (joined field xs) (p k) 0 ≡ get_or (field (get_or xs k d)) i 0
  joined_at [] k l = absurd (omega arith)
  joined_at (x ∷ xs) zero l = ap (λ (j : ℕ). get_or (field x ++ joined field xs) j 0) first ∙ left_at (field x) (joined field xs) n i 0 (each x) inside
  joined_at (x ∷ xs) (suc k) l =
      let e = next k in
      let z : p (suc k) - n ≡ p k = omega arith in
      right_at (field x) (joined field xs) n (p (suc k)) 0 (each x) (omega arith)
      ∙ ap (λ (j : ℕ). get_or (joined field xs) j 0) z
      ∙ joined_at xs k (omega arith)

-- ---- channels
channel_back_lem : (cs : List Channel) (k : ℕ) → k < length cs → channel_at (all_channels cs) k ≡ get_or cs k no_channel
unfolding Numbered.channel_at Layout.channel_numbers
channel_back_lem cs k h =
    let at : (i : ℕ) → i < 4 → get_or (all_channels cs) (4 * k + i) 0 ≡ get_or (channel_numbers (get_or cs k no_channel)) i 0
    = λ i l. joined_at channel_numbers 4 i (λ c. refl) l (λ j. 4 * j + i) (omega arith) (λ j. omega arith) no_channel cs k h in
    let z : 4 * k ≡ 4 * k + 0 = omega arith in
    let w = ap (λ (j : ℕ). get_or (all_channels cs) j 0) z ∙ at 0 (omega arith) in
    λ i. record { width = w i; height = at 1 (omega arith) i; hshift = at 2 (omega arith) i; vshift = at 3 (omega arith) i }

channels_back : (cs : List Channel) → channels_of (all_channels cs) ≡ cs
channels_back cs =
    let n = channels_count (all_channels cs) in
    let m = channels_length cs in
    let all : length (channels_of (all_channels cs)) ≡ length cs = n ∙ omega arith in
    ext_get_or no_channel (channels_of (all_channels cs)) cs all
    (λ k l. sym (channel_is (all_channels cs) k (omega arith)) ∙ channel_back_lem cs k (omega arith))

-- ---- steps
no_step : Step
no_step = record { horizontal = false; inplace = false; begin = 0; number = 0 }

step_back_lem : (ss : List Step) (k : ℕ) → k < length ss → step_at (all_steps ss) k ≡ get_or ss k no_step
unfolding Numbered.step_at Layout.step_numbers
step_back_lem ss k h =
    let at : (i : ℕ) → i < 3 → get_or (all_steps ss) (3 * k + i) 0 ≡ get_or (step_numbers (get_or ss k no_step)) i 0
    = λ i l. joined_at step_numbers 3 i (λ s. refl) l (λ j. 3 * j + i) (omega arith) (λ j. omega arith) no_step ss k h in
    let z : 3 * k ≡ 3 * k + 0 = omega arith in
    let f = ap (λ (j : ℕ). get_or (all_steps ss) j 0) z ∙ at 0 (omega arith) in
    rw (f, at 1 (omega arith), at 2 (omega arith)) (unpacked (get_or ss k no_step))

steps_back : (ss : List Step) → steps_of (all_steps ss) ≡ ss
unfolding Numbered.steps_of
steps_back ss =
    let n = steps_count (all_steps ss) in
    let m = steps_length ss in
    let all : length (steps_of (all_steps ss)) ≡ length ss = n ∙ omega arith in
    ext_get_or no_step (steps_of (all_steps ss)) ss all
    (λ k l. entry_at (step_at (all_steps ss)) (length (all_steps ss) / 3) k no_step (omega arith) ∙ step_back_lem ss k (omega arith))

pub numbers_back : NumbersBack
numbers_back = record { steps = steps_back; channels = channels_back }
