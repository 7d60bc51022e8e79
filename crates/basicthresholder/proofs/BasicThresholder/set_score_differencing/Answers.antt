use Rattle.deviation.proofs.Laws.{picked, passed}
use Rattle.basicthresholder.specs.Updates.{set_score_differencing}
use Rattle.basicthresholder.proofs.BasicThresholder.set_score_differencing.Goals as goal

pub returns-then-is_horizon : goal.returns-then-is_horizon
unfolding set_score_differencing
returns-then-is_horizon c = picked _ _ c.is_horizon.ensures c.if-is_horizon.true

pub returns : goal.returns
unfolding set_score_differencing
returns c = passed _ _ c.is_horizon.ensures c.if-is_horizon.false
