use Rattle.basicthresholder.specs.Grades.{threshold_and_grade}
use Rattle.basicthresholder.proofs.BasicThresholder.threshold_and_grade.Goals as goal

pub returns : goal.returns
unfolding threshold_and_grade
returns c = c.threshold_and_grade_with_factor.ensures
