use Rattle.std.proofs.Common.{arith}
use Rattle.training_scores.specs.Recurrence.{top, score}
use Rattle.training_scores.proofs.Exactness.{quotient}
use Rattle.training_scores.proofs.score.Goals as goal

pub returns : goal.returns
unfolding score top
returns c = rw c.nearest_u32_to_f32.ensures (quotient _ (omega arith))
