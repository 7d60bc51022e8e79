use Rattle.basicthresholder.specs.Grades.{threshold}
use Rattle.basicthresholder.proofs.BasicThresholder.threshold.Goals as goal

pub returns : goal.returns
unfolding threshold
returns c = simp (c.threshold_by.ensures, c.narrow.ensures, c.narrow-2.ensures, c.mean_or_zero.ensures, c.deviation_or_zero.ensures)
