-- `load_lanes` meets its contract: each lane is inside where the last one is (proofs/Strides.antt). Assumes nothing.
use borrow.Author.Rules.{rules}
use Rattle.eight_rows.proofs.Strides.{lanes_made}
use Rattle.eight_rows.proofs.lanes.load_lanes.Goals as goal

pub returns : goal.returns
returns c =
    let a = c.args in
    lanes_made a.s.now a.at a.stride c.from_fn.result c.from_fn.ensures.items (λ i y q e. (search rules, search rules))
