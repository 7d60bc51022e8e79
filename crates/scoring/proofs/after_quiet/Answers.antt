use Rattle.std.proofs.Common.{refl}
use Rattle.scoring.proofs.Entering.{enters}
use Rattle.scoring.proofs.after_quiet.Goals as goal

pub returns : goal.returns
returns c = enters _ _ _ _ _ _ _ _ c.run_ended-ended.ensures refl c.update_score-t.ensures c.with_thresholder.ensures
