use Rattle.pool_laws.proofs.Theorems.{pool_isolation}
use Rattle.pool_laws.proofs.pool_isolation.Goals as goal

pub returns : goal.returns
returns c = pool_isolation
