use Rattle.score_rows.specs.Text.{shown}
use Rattle.score_rows.proofs.put_shown.Goals as goal

pub returns-in-Skipped : goal.returns-in-Skipped
unfolding shown
returns-in-Skipped c = simp c.in-Skipped.is c.put_all.ensures

pub returns-in-Quiet : goal.returns-in-Quiet
unfolding shown
returns-in-Quiet c = simp c.in-Quiet.is c.put_graded.ensures

pub returns-in-Raised : goal.returns-in-Raised
unfolding shown
returns-in-Raised c = simp c.in-Raised.is c.put_graded-in-Raised.ensures
