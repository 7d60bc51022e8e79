use Rattle.scoring.proofs.Entering.{enters}
use Rattle.scoring.proofs.after_corrected.Goals as goal

pub returns : goal.returns
returns c = enters _ _ _ _ _ _ _ _ c.auto_adjusted-adjusted.ensures c.corrected_score.ensures c.update_score-t.ensures c.with_thresholder.ensures
