use Rattle.judged_grades.proofs.Whole.{higher_judged}
use Rattle.judged_grades.proofs.higher_judged.Goals as goal

pub returns : goal.returns
returns c = higher_judged
