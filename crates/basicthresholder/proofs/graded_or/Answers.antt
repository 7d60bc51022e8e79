use Rattle.basicthresholder.specs.Grades.{graded_or}
use Rattle.basicthresholder.proofs.graded_or.Goals as goal

pub returns-then-grade : goal.returns-then-grade
unfolding graded_or
returns-then-grade c = simp c.if-grade.true

pub returns : goal.returns
unfolding graded_or
returns c = simp c.if-grade.false
