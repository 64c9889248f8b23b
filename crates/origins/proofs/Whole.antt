-- A.4's claim over whole runs (specs/Claim.antt): each part along the steps, from own positions. Assumes nothing.
use mathlib.Core.Path.{◌≡◌, refl, sym, ap, ◌∙◌}
use mathlib.Core.List.{List, [], ◌∷◌}
use Prim.Native.Nat.{ℕ, ◌<◌}
use native.Mathlib.Omega.{arith}
use lib.ListN.{length, get_or}
use Rattle.channel.specs.declared.Channel.{Channel}
use Rattle.list.specs.declared.Step.{Step}
use Rattle.list.specs.Lists.{own_positions, stepped, stepped_origins}
use Rattle.list.specs.Questions.{channel_of}
use Rattle.list.proofs.Channels.{own_length, own_at}
use Rattle.list.proofs.Entries.{residuals_at, stepped_length}
use Rattle.runs.specs.Runs.{place_after, layout}
use Rattle.runs.proofs.Taken.{by_taken, taken_inside}
use Rattle.origins.specs.Origins.{origins_from, averaged_by, averages_place, averages_channel}
use Rattle.origins.specs.Claim.{IsFirst, OriginLaws}
use Rattle.origins.proofs.Totals.{step_same, origin_total}
use Rattle.origins.proofs.Firsts.{first_step, below_step, average_step, place_inside}

-- ---- what every run has, by the accepted steps alone
run_same : (ss : List Step) (cs : List Channel) (os : List ℕ) → length os ≡ length cs → length (origins_from ss cs os) ≡ length (layout ss cs)
run_same [] cs os e = e
run_same (s ∷ ss) cs os e =
    by_taken s cs
    (λ t. rw t (run_same ss (stepped s cs) (stepped_origins s os) (step_same s cs os e t)))
    (λ t. rw t (run_same ss cs os e))

abbrev Below : ℕ → List ℕ → Type 0
Below m os = (k : ℕ) → k < length os → get_or os k 0 < m

run_below : (m : ℕ) (ss : List Step) (cs : List Channel) (os : List ℕ) → length os ≡ length cs → Below m os → Below m (origins_from ss cs os)
run_below m [] cs os e h = h
run_below m (s ∷ ss) cs os e h =
    by_taken s cs
    (λ t.
    let i = taken_inside s cs t in
    rw t (run_below m ss (stepped s cs) (stepped_origins s os) (step_same s cs os e t) (below_step s os (omega arith) m h)))
    (λ t. rw t (run_below m ss cs os e h))

run_first : (o : ℕ) (ss : List Step) (cs : List Channel) (os : List ℕ) (p : ℕ) → length os ≡ length cs → IsFirst o os p
    → IsFirst o (origins_from ss cs os) (averages_place ss cs p)
run_first o [] cs os p e f = f
run_first o (s ∷ ss) cs os p e f =
    by_taken s cs
    (λ t.
    let i = taken_inside s cs t in
    rw t (run_first o ss (stepped s cs) (stepped_origins s os) (place_after s p) (step_same s cs os e t) (first_step s os (omega arith) o p f)))
    (λ t. rw t (run_first o ss cs os p e f))

run_averages : (ss : List Step) (cs : List Channel) (p : ℕ) (c : Channel) → p < length cs → channel_of cs p ≡ c
    → channel_of (layout ss cs) (averages_place ss cs p) ≡ averages_channel ss cs p c
run_averages [] cs p c h e = e
run_averages (s ∷ ss) cs p c h e =
    by_taken s cs
    (λ t.
    let i = taken_inside s cs t in
    let n = stepped_length s cs i in
    let q = place_inside s (length cs) (residuals_at s cs) p i refl h in
    rw t (run_averages ss (stepped s cs) (place_after s p) (averaged_by s p c) (omega arith) (average_step s cs i p h ∙ ap (averaged_by s p) e)))
    (λ t. rw t (run_averages ss cs p c h e))

-- ---- from own positions
own_first : (n o : ℕ) → o < n → IsFirst o (own_positions n) o
own_first n o h =
    record {
      within = omega (arith, own_length n);
      here = sym (own_at n o h);
      before = λ k l e. absurd (omega (arith, own_at n k (omega arith)));
    }

pub origin_laws : (ss : List Step) (cs : List Channel) → OriginLaws ss cs
origin_laws ss cs =
    let n = length cs in
    let own = own_length n in
    let same = run_same ss cs (own_positions n) own in
    let below = run_below n ss cs (own_positions n) own (λ k h. omega (arith, own_at n k (omega arith))) in
    record {
      all = record { each = same; positions = λ k h. below k (omega arith) };
      one = λ o h.
          record {
            totals = origin_total o ss cs h;
            first = run_first o ss cs (own_positions n) o own (own_first n o h);
            averages = run_averages ss cs o (channel_of cs o) h refl;
          };
    }
