use Rattle.training_lines.proofs.Whole.{whole}
use Rattle.training_lines.proofs.whole_run.Goals as goal

pub returns : goal.returns
returns c = whole
