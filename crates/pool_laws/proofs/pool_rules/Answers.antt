use Rattle.pool_laws.proofs.Theorems.{pool_rules}
use Rattle.pool_laws.proofs.pool_rules.Goals as goal

pub returns : goal.returns
returns c = pool_rules
