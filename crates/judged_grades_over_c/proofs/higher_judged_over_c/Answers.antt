use Rattle.judged_grades_over_c.proofs.Whole.{higher_judged_over_c}
use Rattle.judged_grades_over_c.proofs.higher_judged_over_c.Goals as goal

pub returns : goal.returns
returns c = higher_judged_over_c
