use borrow.Author.Rules.{rules}
use Rattle.grades.proofs.Whole.{in_order}
use Rattle.grades.proofs.put_both.Goals as goal

pub returns : goal.returns
returns c = in_order _ _ _ _ _ _ _ _ c.threshold_and_grade_with_factor-first.ensures c.threshold_and_grade_with_factor-second.ensures (search rules) (search rules)
