use Rattle.score_lines.proofs.Whole as Whole
use Rattle.score_lines.proofs.whole_run.Goals as goal

pub returns-clause-whole : goal.returns-clause-whole
returns-clause-whole c = Whole.whole

pub returns-clause-add_up : goal.returns-clause-add_up
returns-clause-add_up c = Whole.add_up
