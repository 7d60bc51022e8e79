use mathlib.Core.Path.{◌∙◌}
use Rattle.descriptor.specs.Checks.{last_finite, every}
use Rattle.calls.proofs.Finite.{alone}
use Rattle.calls.proofs.anomaly_finite.Goals as goal

pub returns-then-l : goal.returns-then-l
unfolding last_finite every
returns-then-l c = alone _ ∙ simp (c.is_finite.ensures, c.if-l.true)

pub returns : goal.returns
unfolding last_finite
returns c = simp c.if-l.false
