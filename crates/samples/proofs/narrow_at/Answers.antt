-- `narrow_at` meets its contract: what `try_from` gives for the number. Assumes nothing.
use Rattle.std.proofs.Common.{subst}
use Rattle.samples.proofs.narrow_at.Goals as goal

pub returns : goal.returns
returns g c =
    (c.try_from.result, subst (λ n. g.T.TryFrom.try_from_gives n c.try_from.result) c.word_at.ensures c.try_from.ensures, c.ok.ensures.value)
