use Rattle.training_scores.specs.Recurrence.{stepped}
use Rattle.training_scores.proofs.step.Goals as goal

pub returns : goal.returns
unfolding stepped
returns c = simp (c.next-after.ensures, c.score.ensures)
