use Rattle.training_lines.proofs.Taken.{no_more}
use Rattle.training_lines.proofs.no_more.Goals as goal

pub returns : goal.returns
returns c = no_more
