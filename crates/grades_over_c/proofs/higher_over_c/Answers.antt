use Rattle.grades_over_c.proofs.Whole.{higher_over_c}
use Rattle.grades_over_c.proofs.higher_over_c.Goals as goal

pub returns : goal.returns
returns c = higher_over_c
