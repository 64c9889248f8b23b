-- `chroma` meets its contract: each step under its own test (proofs/Parts.antt). Assumes nothing.
use native.Mathlib.Omega.{arith}
use Rattle.plan.proofs.Parts.{chroma_across, across_length, down_length, chroma_steps}
use Rattle.plan.proofs.Appended.{counted, appended_after}
use Rattle.plan.proofs.chroma.Goals as goal

pub push_if-requires-2 : goal.push_if-requires-2
push_if-requires-2 c =
    let q = c.args in
    omega (
      arith,
      across_length q.wanted q.others.begin q.others.number q.others.width q.others.height q.second,
      down_length q.wanted q.others.begin q.others.number q.others.width q.others.height q.second,
      counted _ _ (chroma_across q.wanted q.others.begin q.others.number q.others.width q.others.height q.second) c.push_if.ensures,
      c.requires,
    )

pub returns : goal.returns
returns c =
    let q = c.args in
    rw (chroma_steps q.wanted q.others.begin q.others.number q.others.width q.others.height q.second)
    (appended_after _ _ _ (chroma_across q.wanted q.others.begin q.others.number q.others.width q.others.height q.second) _ c.push_if.ensures c.push_if-2.ensures)
