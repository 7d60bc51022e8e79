use Rattle.export_bytes.proofs.Ends as Ends
use Rattle.export_bytes.proofs.Whole as Whole
use Rattle.export_bytes.proofs.whole_run.Goals as goal

pub returns-clause-whole : goal.returns-clause-whole
returns-clause-whole c = Whole.whole

pub returns-clause-ending : goal.returns-clause-ending
returns-clause-ending c = Ends.whole
