-- What `horizon_answer` answers of a new thresholder is what it answers of any.
use Rattle.std.proofs.Common.{◌≡◌, false, ◌∙◌, ap₂}
use lib.Ieee.{Float}
use Rattle.deviation.specs.Const.{zero64}
use Rattle.basicthresholder.specs.Updates.{fresh_thresholder, set_score_differencing}
use Rattle.basicthresholder.proofs.Laws.{horizon_answer_lem}
use Rattle.predictorcorrector.specs.declared.PredictorCorrector.{PredictorCorrector}
use Rattle.predictorcorrector.specs.State.{updated, set_horizon}
use Rattle.predictorcorrector.proofs.PredictorCorrector.set_horizon.Goals as goal
use Rattle.types.specs.Refusals.{Answer}

both : (h : PredictorCorrector) (n : Float) (a : Answer) (r : PredictorCorrector)
    → a ≡ (set_score_differencing (fresh_thresholder zero64 false) n).answer → r ≡ (set_horizon h n).state → updated a r ≡ set_horizon h n
unfolding set_horizon
both h n a r d e = ap₂ updated (d ∙ horizon_answer_lem (fresh_thresholder zero64 false) h.basic_thresholder n) e

pub returns : goal.returns
returns c = both _ _ _ _ c.horizon_answer.ensures c.horizon_set.ensures
