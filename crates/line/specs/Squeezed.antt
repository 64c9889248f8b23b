-- The squeeze that a struct of averages, residuals and outer lines stands for, in a direction and for so many lines. Definitions only.
use Rattle.std.specs.Prelude.{Bool, ℕ}
use Rattle.line.specs.Uncut.{Squeeze, squeeze}
use Rattle.line.specs.declared.Squeezed.{Squeezed}

abbrev pub squeeze_of : Bool → ℕ → Squeezed → Squeeze
squeeze_of horizontal lines s = squeeze horizontal lines s.averages s.residuals s.avg.now s.res.now s.next.now s.prev.now
