use Rattle.grade_order.proofs.Steps.{steps_rise}
use Rattle.grade_order.proofs.steps_rise.Goals as goal

pub returns : goal.returns
returns c = steps_rise
