use Rattle.std.proofs.Common.{refl}
use Rattle.scoring.proofs.Entering.{enters}
use Rattle.scoring.proofs.after_branch.Goals as goal

pub returns : goal.returns
returns c = enters _ _ _ _ _ _ _ _ refl c.corrected_score.ensures c.update_score-t.ensures c.with_thresholder.ensures
