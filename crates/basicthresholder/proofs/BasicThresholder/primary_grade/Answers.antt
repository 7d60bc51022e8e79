use Rattle.std.proofs.Common.{ap}
use Rattle.basicthresholder.specs.Grades.{primary_threshold_and_grade}
use Rattle.basicthresholder.specs.declared.Graded.{Graded}
use Rattle.basicthresholder.proofs.BasicThresholder.primary_grade.Goals as goal

pub returns : goal.returns
unfolding primary_threshold_and_grade
returns c = ap (λ (g : Graded). g.grade) c.primary_threshold_and_grade-graded.ensures
