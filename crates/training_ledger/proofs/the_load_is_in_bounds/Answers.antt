use Rattle.training_ledger.proofs.Theorems.{training_ledger}
use Rattle.training_ledger.proofs.the_load_is_in_bounds.Goals as goal

pub returns : goal.returns
returns c = training_ledger
