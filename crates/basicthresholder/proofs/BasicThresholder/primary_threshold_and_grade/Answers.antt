use Rattle.std.proofs.Common.{sym, ◌∙◌}
use Rattle.basicthresholder.specs.Grades.{primary_threshold_and_grade, primary_grade, threshold}
use Rattle.basicthresholder.proofs.BasicThresholder.primary_threshold_and_grade.Goals as goal

pub returns-then-is_deviation_ready : goal.returns-then-is_deviation_ready
unfolding primary_threshold_and_grade primary_grade threshold
returns-then-is_deviation_ready c = simp (sym c.is_deviation_ready.ensures ∙ c.if-is_deviation_ready.true, c.grade_over.ensures, c.threshold_by-threshold.ensures, c.narrow-mean.ensures, c.narrow-deviation.ensures, c.mean_or_zero.ensures, c.deviation_or_zero.ensures)

pub returns : goal.returns
unfolding primary_threshold_and_grade primary_grade threshold
returns c = simp (sym c.is_deviation_ready.ensures ∙ c.if-is_deviation_ready.false, c.threshold_by-threshold.ensures, c.narrow-mean.ensures, c.narrow-deviation.ensures, c.mean_or_zero.ensures, c.deviation_or_zero.ensures)
