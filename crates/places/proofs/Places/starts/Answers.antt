-- `starts` meets its contract: the first k starts are laid, and the next is `at`. Assumes nothing.
use mathlib.Core.Path.{◌≡◌, refl, ap, ◌∙◌}
use Prim.Native.Nat.{ℕ, min}
use native.Mathlib.Omega.{arith}
use Rattle.list.specs.Lists.{max_channels}
use Rattle.places.specs.Places as Places
use Rattle.places.specs.Places.{area, place_at}
use Rattle.places.proofs.Homes.{start_at, laying_more, laying_all, starts_padded}
use Rattle.places.proofs.Places.starts.Goals as goal

pub loop-k-preserved : goal.loop-k-preserved
loop-k-preserved c =
    let w = c.loop-k in
    let p = c.args.self.now in
    laying_more start_at (λ (k : ℕ). area (place_at p k)) c.len-count.result _ w.starts w.at w.k w.invariant _ c.behind-at.result (omega arith) (omega arith)
    refl (c.behind-at.ensures ∙ ap (Places.behind w.at) c.area.ensures)

pub returns : goal.returns
unfolding Places.areas_in
returns c =
    let w = c.loop-k in
    let p = c.args.self.now in
    let e : c.len-count.result ≡ min p.count max_channels = c.len-count.ensures in
    rw (← e)
    (laying_all start_at (λ (k : ℕ). area (place_at p k)) c.len-count.result _ w.starts w.at w.k w.invariant (omega arith) (omega arith)
    ∙ starts_padded (λ (k : ℕ). area (place_at p k)) c.len-count.result (omega arith))
