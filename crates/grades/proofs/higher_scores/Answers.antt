use Rattle.grades.proofs.Whole.{higher_scores}
use Rattle.grades.proofs.higher_scores.Goals as goal

pub returns : goal.returns
returns c = higher_scores
