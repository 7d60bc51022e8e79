use Rattle.basicthresholder.specs.Grades.{grade_against}
use Rattle.basicthresholder.proofs.grade_against.Goals as goal

pub returns-then-score-threshold : goal.returns-then-score-threshold
unfolding grade_against
returns-then-score-threshold c = simp c.if-score-threshold.true

pub returns-then-threshold : goal.returns-then-threshold
unfolding grade_against
returns-then-threshold c = simp (c.if-score-threshold.false, c.if-threshold.true)

pub returns : goal.returns
unfolding grade_against
returns c = simp (c.if-score-threshold.false, c.if-threshold.false, c.graded_or.ensures, c.sixteenths.ensures, c.surprise_index-surprise.ensures)
