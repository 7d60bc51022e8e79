use mathlib.Core.Path.{sym}
use Rattle.score_kinds.specs.Watching.{kind_of, by_grade}
use Rattle.score_kinds.proofs.kind_of.Goals as goal

pub returns-then-score : goal.returns-then-score
unfolding kind_of
returns-then-score c = simp c.if-score.true

pub returns-then-graded : goal.returns-then-graded
unfolding kind_of by_grade
returns-then-graded c = simp (c.if-score.false, sym c.primary_threshold_and_grade-graded.ensures, c.if-graded.true)

pub returns : goal.returns
unfolding kind_of by_grade
returns c = simp (c.if-score.false, sym c.primary_threshold_and_grade-graded.ensures, c.if-graded.false)
