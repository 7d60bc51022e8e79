use Rattle.training_scores.proofs.Exactness.{exact}
use Rattle.training_scores.proofs.scores_are_exact.Goals as goal

pub returns : goal.returns
returns c = exact
