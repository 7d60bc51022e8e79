use Rattle.deviation.specs.Statistics.{mean, measured_mean}
use mathlib.Core.Path.{sym, ◌∙◌}
use Rattle.deviation.proofs.Deviation.mean.Goals as goal

pub returns-then-is_empty : goal.returns-then-is_empty
unfolding measured_mean mean
returns-then-is_empty c = simp (sym c.is_empty.ensures ∙ c.if-is_empty.true)

pub returns : goal.returns
unfolding measured_mean mean
returns c = simp (sym c.is_empty.ensures ∙ c.if-is_empty.false)
