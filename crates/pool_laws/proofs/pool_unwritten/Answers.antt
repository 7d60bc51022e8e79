use Rattle.pool_laws.proofs.Unwritten.{pool_unwritten}
use Rattle.pool_laws.proofs.pool_unwritten.Goals as goal

pub returns : goal.returns
returns c = pool_unwritten
