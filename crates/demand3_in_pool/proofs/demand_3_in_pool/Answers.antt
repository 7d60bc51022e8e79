use Rattle.demand3_in_pool.proofs.InPool.{demand_3_in_pool}
use Rattle.demand3_in_pool.proofs.demand_3_in_pool.Goals as goal

pub returns : goal.returns
returns c = demand_3_in_pool
