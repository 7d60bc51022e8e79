use Rattle.basicthresholder.specs.Updates.{is_horizon}
use Rattle.pool_settings.specs.Steps.{horizon_answer}
use Rattle.pool_settings.proofs.horizon_answer.Goals as goal

pub returns-then-horizon-2 : goal.returns-then-horizon-2
unfolding horizon_answer is_horizon
returns-then-horizon-2 c = simp (c.if-horizon.true, c.if-horizon-2.true)

pub returns-else-horizon-2 : goal.returns-else-horizon-2
unfolding horizon_answer is_horizon
returns-else-horizon-2 c = simp (c.if-horizon.true, c.if-horizon-2.false)

pub returns-else-horizon : goal.returns-else-horizon
unfolding horizon_answer is_horizon
returns-else-horizon c = simp c.if-horizon.false
